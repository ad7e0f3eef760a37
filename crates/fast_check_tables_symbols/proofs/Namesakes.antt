-- Members of symbols by the numbers of their names.
use Rattle.std.proofs.Common.{◌≡◌, ◌∙◌, sym, ap, refl, subst, ℕ, ◌+◌, ◌<◌, Bool, true, false, cond, List, [], ◌∷◌, ◌++◌, Option}
use Rattle.std.proofs.Common.{Some, None, zero, suc, length, map, take, get_or, length-append, ◌==◌, ◌||◌, string_bytes}
use Rattle.std.specs.Prelude.{is_some, slice_get, option_map, String}
use Rattle.std.specs.declared.alloc.Global.{Global}
use Rattle.std.specs.List.{find, list_any, Contains}
use Rattle.std.specs.Option.{option_or, option_and_then}
use Rattle.std.specs.BTreeMap.{BTreeMap, get, Updates}
use Rattle.std.specs.Ordering.{nat_cmp}
use Rattle.std.specs.Str.{bytes_eq}
use Rattle.std.specs.Cmp.{unsigned_Decides, nat_eq_equiv}
use Rattle.std.specs.Cmp.Lexicographic.{nat_list_eq_equiv}
use Rattle.std.proofs.lemmas.List.{take_more}
use Rattle.std.proofs.lemmas.List.Folds.{find-append}
use Rattle.std.proofs.lemmas.Slice.Eq.{bytes_eq-Decides}
use Rattle.fast_check_tables_symbols.specs.declared.members.MemberIndexes.{MemberIndexes}
use Rattle.fast_check_tables_symbols.specs.declared.symbol_id.SymbolId.{SymbolId}
use Rattle.fast_check_tables_symbols.specs.declared.symbol.Symbol.{Symbol}
use Rattle.fast_check_tables_symbols.specs.Exports.{export_named}
use Rattle.fast_check_tables_symbols.specs.Symbols.{symbol_of, place_of, has_id}
use Rattle.fast_check_tables_symbols.specs.Members.{is_named, symbol_is_named, first_named, named_member, IsNameIndex, namesake, namesake_of}
use Rattle.fast_check_tables_symbols.specs.Members.{is_number, first_numbered, IsNumberIndex, AreNumberIndexes, AreMembersOf}
use Rattle.fast_check_tables_symbols.proofs.Last.{IsFound, last_found}
use Rattle.fast_check_tables_symbols.proofs.Indexed.{same_number}
use Rattle.fast_check_tables_symbols.proofs.Named.{Index, kept_at, each_place}
use Rattle.fast_check_tables_symbols.proofs.Witness.{first_of, later_of, none_of}

-- ---- one number more

-- a number that has its symbol keeps it
pub number_kept : (number asked : ℕ) (id : SymbolId) (m : BTreeMap ℕ SymbolId) → is_some (get nat_cmp m number) ≡ true
    → get nat_cmp m asked ≡ option_or (get nat_cmp m asked) (cond (number == asked) (Some id) None)
number_kept number asked id m h =
    kept_at (number == asked) (get nat_cmp m asked) id
    (λ e. subst (λ (n : ℕ). is_some (get nat_cmp m n) ≡ true) ((unsigned_Decides number asked).0 e) h)

new_at : (b : Bool) (o : Option SymbolId) (id : SymbolId) → (b ≡ true → is_some o ≡ false)
    → cond b (Some id) o ≡ option_or o (cond b (Some id) None)
new_at true None id h = refl
new_at true (Some x) id h = let e : true ≡ false = h refl in cc
new_at false None id h = refl
new_at false (Some x) id h = refl

-- one that has none gets it
pub number_new : (number asked : ℕ) (id : SymbolId) (old new : BTreeMap ℕ SymbolId) → is_some (get nat_cmp old number) ≡ false
    → Updates nat_cmp old new number (Some id)
    → get nat_cmp new asked ≡ option_or (get nat_cmp old asked) (cond (number == asked) (Some id) None)
number_new number asked id old new h u =
    u.0 asked
    ∙ (ap (λ b. cond b (Some id) (get nat_cmp old asked)) (same_number number asked ∙ nat_eq_equiv.symm asked number)
    ∙ new_at (number == asked) (get nat_cmp old asked) id
    (λ e. subst (λ (n : ℕ). is_some (get nat_cmp old n) ≡ false) ((unsigned_Decides number asked).0 e) h))

-- one more symbol
pub number_more : (symbols : List Symbol) (namesakes : List (Option SymbolId)) (ids : List SymbolId) (i : ℕ) (id : SymbolId)
    (old new : BTreeMap ℕ SymbolId) → i < length ids → id ≡ get_or ids i id
    → ((number : ℕ) → get nat_cmp new number
    ≡ option_or (get nat_cmp old number) (cond (is_number number (namesake_of symbols namesakes id)) (Some id) None))
    → IsNumberIndex symbols namesakes (take i ids) old → IsNumberIndex symbols namesakes (take (i + 1) ids) new
number_more symbols namesakes ids i id old new lt read u h = record {
  says = λ number.
      let test = λ (m : SymbolId). is_number number (namesake_of symbols namesakes m) in
      let longer : take (i + 1) ids ≡ take i ids ++ id ∷ [] = take_more ids i id lt
      ∙ ap (λ (x : SymbolId). take i ids ++ x ∷ []) (sym read) in
      u number ∙ (ap (λ o. option_or o (cond (is_number number (namesake_of symbols namesakes id)) (Some id) None)) (h.says number)
      ∙ (sym (find-append test (take i ids) (id ∷ [])) ∙ ap (λ (xs : List SymbolId). find test xs) (sym longer)));
}

-- one more index
pub numbers_more : (symbols : List Symbol) (namesakes : List (Option SymbolId)) (some : List Symbol) (i : ℕ) (s : Symbol)
    (index : BTreeMap ℕ SymbolId) (old : List (BTreeMap ℕ SymbolId)) → i < length some → s ≡ get_or some i s
    → IsNumberIndex symbols namesakes s.members.items index → AreNumberIndexes symbols namesakes (take i some) old
    → AreNumberIndexes symbols namesakes (take (i + 1) some) (old ++ index ∷ [])
numbers_more symbols namesakes some i s index old lt read one h =
    let longer : take (i + 1) some ≡ take i some ++ s ∷ [] = take_more some i s lt
    ∙ ap (λ (x : Symbol). take i some ++ x ∷ []) (sym read) in
    subst (λ (xs : List Symbol). AreNumberIndexes symbols namesakes xs (old ++ index ∷ [])) (sym longer) (record {
      each = length-append old (index ∷ []) ∙ (ap (λ n. n + 1) h.each ∙ sym (length-append (take i some) (s ∷ [])));
      says = λ place number.
          each_place (λ (m : BTreeMap ℕ SymbolId). get nat_cmp m number)
          (λ x. first_numbered symbols namesakes number x.members.items) old (take i some) index s h.each
          (λ p. h.says p number) (one.says number) place;
    })

-- ---- a number stands for one name

none_at : (b : Bool) (x : SymbolId) (o : Option SymbolId) (any : Bool) → (o ≡ None → any ≡ false) → cond b (Some x) o ≡ None
    → (b || any) ≡ false
none_at true x o any k h = cc
none_at false x o any k h = k h

find_none : (f : SymbolId → Bool) (xs : List SymbolId) → find f xs ≡ None → list_any f xs ≡ false
find_none f [] h = refl
find_none f (x ∷ xs) h = none_at (f x) x (find f xs) (list_any f xs) (find_none f xs) h

some_at : (f : SymbolId → Bool) (b : Bool) (y x : SymbolId) (o : Option SymbolId) → f y ≡ b → (o ≡ Some x → f x ≡ true)
    → cond b (Some y) o ≡ Some x → f x ≡ true
some_at f true y x o e k h = let is : y ≡ x = cc in ap f (sym is) ∙ e
some_at f false y x o e k h = k h

find_some : (f : SymbolId → Bool) (xs : List SymbolId) (x : SymbolId) → find f xs ≡ Some x → f x ≡ true
find_some f [] x h = cc
find_some f (y ∷ xs) x h = some_at f (f y) y x (find f xs) refl (find_some f xs x) h

find_nowhere : (f : SymbolId → Bool) (xs : List SymbolId) → ((x : SymbolId) → f x ≡ false) → find f xs ≡ None
find_nowhere f [] h = refl
find_nowhere f (x ∷ xs) h = ap (λ b. cond b (Some x) (find f xs)) (h x) ∙ find_nowhere f xs h

find_alike : (f g : SymbolId → Bool) (xs : List SymbolId) → ((x : SymbolId) → f x ≡ g x) → find f xs ≡ find g xs
find_alike f g [] h = refl
find_alike f g (x ∷ xs) h = ap (λ b. cond b (Some x) (find f xs)) (h x) ∙ ap (λ o. cond (g x) (Some x) o) (find_alike f g xs h)

same_id : (a b : SymbolId) → a.0 ≡ b.0 → a ≡ b
same_id a b e = let made : ℕ → SymbolId = λ n. record { 0 = n } in ap made e

has_at : (id : SymbolId) (x : Symbol) (xs : List Symbol) (o : Option Symbol) (b : Bool)
    → (is_some o ≡ true → Contains (map (λ s. s.id) xs) id) → (b ≡ true → x.id ≡ id)
    → is_some (option_or o (cond b (Some x) None)) ≡ true → Contains (x.id ∷ map (λ s. s.id) xs) id
has_at id x xs (Some s) b k e h = later_of x.id id (map (λ s. s.id) xs) (k refl)
has_at id x xs None true k e h =
    subst (λ (y : SymbolId). Contains (x.id ∷ map (λ s. s.id) xs) y) (e refl) (first_of x.id (map (λ s. s.id) xs))
has_at id x xs None false k e h = cc

-- an id that has a symbol is one of theirs
has : (symbols : List Symbol) (id : SymbolId) → is_some (symbol_of id symbols) ≡ true → Contains (map (λ s. s.id) symbols) id
has [] id h = cc
has (x ∷ xs) id h =
    has_at id x xs (symbol_of id xs) (has_id id x) (has xs id)
    (λ e. sym (same_id id x.id ((unsigned_Decides id.0 x.id.0).0 e))) h

is_there : (name : List ℕ) (o : Option Symbol) → symbol_is_named name o ≡ true → is_some o ≡ true
is_there name None e = e
is_there name (Some s) e = refl

not_true : (b : Bool) → (b ≡ true → ⊥) → b ≡ false
not_true true h = absurd (h refl)
not_true false h = refl

both_or_none : (b c : Bool) → (b ≡ true → c ≡ true) → (c ≡ true → b ≡ true) → b ≡ c
both_or_none true c h k = sym (h refl)
both_or_none false true h k = k refl
both_or_none false false h k = refl

text_of_one : (a b : List ℕ) (t : Option (String Global)) → is_named a t ≡ true → is_named b t ≡ true → a ≡ b
text_of_one a b None e f = cc
text_of_one a b (Some text) e f =
    sym ((bytes_eq-Decides (string_bytes text) a).0 e) ∙ (bytes_eq-Decides (string_bytes text) b).0 f

name_of_one : (a b : List ℕ) (o : Option Symbol) → symbol_is_named a o ≡ true → symbol_is_named b o ≡ true → a ≡ b
name_of_one a b None e f = cc
name_of_one a b (Some s) e f = text_of_one a b s.maybe_name e f

module _ (symbols : List Symbol) (names : Index) (h : IsNameIndex symbols (map (λ s. s.id) symbols) names) where
  -- no symbol has a name that is not noted
  unnamed : (name : List ℕ) (id : SymbolId) → export_named name names ≡ None → symbol_is_named name (symbol_of id symbols) ≡ false
  unnamed name id e =
      not_true (symbol_is_named name (symbol_of id symbols))
      (λ t. none_of (λ m. symbol_is_named name (symbol_of m symbols)) (map (λ s. s.id) symbols) id
      (find_none (λ m. symbol_is_named name (symbol_of m symbols)) (map (λ s. s.id) symbols) (sym (h.says name) ∙ e))
      (has symbols id (is_there name (symbol_of id symbols) t)) t)

  named_as : (name : List ℕ) (n : SymbolId) → export_named name names ≡ Some n → symbol_is_named name (symbol_of n symbols) ≡ true
  named_as name n e =
      find_some (λ m. symbol_is_named name (symbol_of m symbols)) (map (λ s. s.id) symbols) n (sym (h.says name) ∙ e)

  one_name : (text name : List ℕ) (q n : SymbolId) → export_named text names ≡ Some q → export_named name names ≡ Some n
      → (q.0 == n.0) ≡ bytes_eq text name
  one_name text name q n e f =
      both_or_none (q.0 == n.0) (bytes_eq text name)
      (λ t. (bytes_eq-Decides text name).1 (name_of_one text name (symbol_of q symbols) (named_as text q e)
      (subst (λ (m : SymbolId). symbol_is_named name (symbol_of m symbols) ≡ true)
      (sym (same_id q n ((unsigned_Decides q.0 n.0).0 t))) (named_as name n f))))
      (λ t. let same : text ≡ name = (bytes_eq-Decides text name).0 t in
      let is : Some q ≡ Some n = sym e ∙ (ap (λ (x : List ℕ). export_named x names) same ∙ f) in
      let one : q ≡ n = cc in (unsigned_Decides q.0 n.0).1 (ap (λ (m : SymbolId). m.0) one))

  by_number : (name : List ℕ) (n : SymbolId) → export_named name names ≡ Some n → (id : SymbolId) (s : Symbol) (text : String Global)
      (q : Option SymbolId) → symbol_of id symbols ≡ Some s → s.maybe_name ≡ Some text
      → export_named (string_bytes text) names ≡ q → is_number n.0 q ≡ bytes_eq (string_bytes text) name
  by_number name n f id s text (Some q) at called e = one_name (string_bytes text) name q n e f
  by_number name n f id s text None at called e =
      let no : symbol_is_named (string_bytes text) (symbol_of id symbols) ≡ false = unnamed (string_bytes text) id e in
      let yes : symbol_is_named (string_bytes text) (symbol_of id symbols) ≡ true =
      ap (λ (o : Option Symbol). symbol_is_named (string_bytes text) o) at
      ∙ (ap (λ (t : Option (String Global)). is_named (string_bytes text) t) called ∙ nat_list_eq_equiv.refl (string_bytes text)) in cc

  by_text : (name : List ℕ) (n : SymbolId) → export_named name names ≡ Some n → (id : SymbolId) (s : Symbol)
      (t : Option (String Global)) → symbol_of id symbols ≡ Some s → s.maybe_name ≡ t
      → is_number n.0 (option_and_then (λ text. export_named (string_bytes text) names) t) ≡ is_named name t
  by_text name n f id s None at called = refl
  by_text name n f id s (Some text) at called = by_number name n f id s text (export_named (string_bytes text) names) at called refl

  by_symbol : (name : List ℕ) (n : SymbolId) → export_named name names ≡ Some n → (id : SymbolId) (o : Option Symbol)
      → symbol_of id symbols ≡ o → is_number n.0 (option_and_then (namesake names) o) ≡ symbol_is_named name o
  by_symbol name n f id None at = refl
  by_symbol name n f id (Some s) at = by_text name n f id s s.maybe_name at refl

get_mapped : {X Y : Type 0} (f : X → Y) (xs : List X) (i : ℕ) → slice_get (map f xs) i ≡ option_map f (slice_get xs i)
get_mapped f [] i = refl
get_mapped f (x ∷ xs) zero = refl
get_mapped f (x ∷ xs) (suc i) = get_mapped f xs i

noted_at : (symbols : List Symbol) (names : Index) (o : Option Symbol) (p : Option ℕ) → IsFound symbols o p
    → option_and_then (λ place. option_and_then (λ n. n) (slice_get (map (namesake names) symbols) place)) p
    ≡ option_and_then (namesake names) o
noted_at symbols names None None found = refl
noted_at symbols names None (Some i) found = absurd found
noted_at symbols names (Some s) None found = absurd found
noted_at symbols names (Some s) (Some i) found =
    ap (λ o. option_and_then (λ n. n) o) (get_mapped (namesake names) symbols i ∙ ap (λ o. option_map (namesake names) o) found)

-- ---- members

and_then_none : {X : Type 0} (f : X → Option SymbolId) (o : Option X) → ((x : X) → f x ≡ None) → None ≡ option_and_then f o
and_then_none f None h = refl
and_then_none f (Some x) h = sym (h x)

abbrev nothing : {X : Type 0} → X → Option SymbolId
nothing x = None

and_then_nothing : {X : Type 0} (o : Option X) → option_and_then nothing o ≡ None
and_then_nothing None = refl
and_then_nothing (Some x) = refl

and_then_alike : {X : Type 0} (f g : X → Option SymbolId) (o : Option X) → ((x : X) → f x ≡ g x)
    → option_and_then f o ≡ option_and_then g o
and_then_alike f g None h = refl
and_then_alike f g (Some x) h = h x

member_is : (symbols : List Symbol) (names : Index) (indexes : List (BTreeMap ℕ SymbolId)) (place : ℕ) (name : List ℕ)
    (n : Option SymbolId) → IsNameIndex symbols (map (λ s. s.id) symbols) names
    → AreNumberIndexes symbols (map (namesake names) symbols) symbols indexes → export_named name names ≡ n
    → option_and_then (λ index. option_and_then (λ id. get nat_cmp index id.0) n) (slice_get indexes place)
    ≡ named_member symbols name (slice_get symbols place)
member_is symbols names indexes place name None h k e =
    and_then_nothing (slice_get indexes place)
    ∙ and_then_none (λ s. first_named symbols name s.members.items) (slice_get symbols place)
    (λ s. find_nowhere (λ m. symbol_is_named name (symbol_of m symbols)) s.members.items (λ m. unnamed symbols names h name m e))
member_is symbols names indexes place name (Some n) h k e =
    k.says place n.0
    ∙ and_then_alike (λ s. first_numbered symbols (map (namesake names) symbols) n.0 s.members.items)
    (λ s. first_named symbols name s.members.items) (slice_get symbols place)
    (λ s. find_alike (λ m. is_number n.0 (namesake_of symbols (map (namesake names) symbols) m))
    (λ m. symbol_is_named name (symbol_of m symbols)) s.members.items
    (λ m. ap (λ o. is_number n.0 o) (noted_at symbols names (symbol_of m symbols) (place_of m symbols) (last_found (has_id m) symbols))
    ∙ by_symbol symbols names h name n e m (symbol_of m symbols) refl))

-- indexes by number have the members by name
pub members_are : (symbols : List Symbol) (ids : List SymbolId) (namesakes : List (Option SymbolId)) (m : MemberIndexes)
    → ids ≡ map (λ s. s.id) symbols → IsNameIndex symbols ids m.names → namesakes ≡ map (namesake m.names) symbols
    → AreNumberIndexes symbols namesakes symbols m.by_symbol.items → AreMembersOf symbols m
members_are symbols ids namesakes m e h f k = record {
  says = λ place name.
      member_is symbols m.names m.by_symbol.items place name (export_named name m.names)
      (subst (λ (xs : List SymbolId). IsNameIndex symbols xs m.names) e h)
      (subst (λ (ns : List (Option SymbolId)). AreNumberIndexes symbols ns symbols m.by_symbol.items) f k) refl;
}
