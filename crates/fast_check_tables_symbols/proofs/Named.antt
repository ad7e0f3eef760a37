-- Indexes of symbols by their names, as they grow.
use Rattle.std.proofs.Common.{◌≡◌, ◌∙◌, sym, ap, refl, subst, ℕ, zero, suc, ◌+◌, ◌<◌, Bool, true, false, cond, List, [], ◌∷◌, ◌++◌, Option}
use Rattle.std.proofs.Common.{Some, None, length, take, get_or, arith}
use Rattle.std.specs.Prelude.{is_some, slice_get}
use Rattle.std.specs.List.{find}
use Rattle.std.specs.Borrow.{Bor}
use Rattle.std.specs.Option.{option_copied, option_or, option_and_then}
use Rattle.std.specs.Slice.{IsItemAt}
use Rattle.std.specs.Str.{bytes_eq}
use Rattle.std.specs.Cmp.Lexicographic.{nat_list_eq_equiv}
use Rattle.std.proofs.lemmas.List.{take_more}
use Rattle.std.proofs.lemmas.Option.{slice_get_past, slice_get-get_or}
use Rattle.std.proofs.lemmas.List.Folds.{find-append}
use Rattle.std.proofs.lemmas.Slice.Eq.{bytes_eq-Decides}
use Rattle.fast_check_tables_symbols.specs.declared.symbol_id.SymbolId.{SymbolId}
use Rattle.fast_check_tables_symbols.specs.declared.symbol.Symbol.{Symbol}
use Rattle.fast_check_tables_symbols.specs.Exports.{export_named, put_export}
use Rattle.fast_check_tables_symbols.specs.Symbols.{symbol_of, place_of, has_id}
use Rattle.fast_check_tables_symbols.proofs.Last.{IsFound, last_found}
use Rattle.fast_check_tables_symbols.specs.Members.{symbol_is_named, named_member, IsNameIndex, AreMembersOf, member_at}
use Rattle.fast_check_tables_symbols.specs.declared.members.MemberIndexes.{MemberIndexes}

abbrev pub Index : Type 0
Index = List (List ℕ × SymbolId)

-- ---- one name more

pub kept_at : (b : Bool) (o : Option SymbolId) (id : SymbolId) → (b ≡ true → is_some o ≡ true) → o ≡ option_or o (cond b (Some id) None)
kept_at true None id h = let e : false ≡ true = h refl in cc
kept_at true (Some x) id h = refl
kept_at false None id h = refl
kept_at false (Some x) id h = refl

-- a name that has its symbol keeps it
pub kept : (name asked : List ℕ) (id : SymbolId) (es : Index) → is_some (export_named name es) ≡ true
    → export_named asked es ≡ option_or (export_named asked es) (cond (bytes_eq name asked) (Some id) None)
kept name asked id es h =
    kept_at (bytes_eq name asked) (export_named asked es) id
    (λ e. subst (λ (n : List ℕ). is_some (export_named n es) ≡ true) ((bytes_eq-Decides name asked).0 e) h)

or_step : (b : Bool) (x : SymbolId) (o p r : Option SymbolId) → o ≡ option_or p r → cond b (Some x) o ≡ option_or (cond b (Some x) p) r
or_step true x o p r h = refl
or_step false x o p r h = h

put_step : (b : Bool) (name asked : List ℕ) (id : SymbolId) (e : List ℕ × SymbolId) (es : Index) (o r : Option SymbolId)
    → is_some (cond b (Some e.1) o) ≡ false
    → (is_some o ≡ false → export_named asked (put_export name id es) ≡ option_or (export_named asked es) r)
    → export_named asked (cond b ((e.0, id) ∷ es) (e ∷ put_export name id es)) ≡ option_or
    (cond (bytes_eq asked e.0) (Some e.1) (export_named asked es)) r
put_step true name asked id e es o r h next = cc
put_step false name asked id e es o r h next =
    or_step (bytes_eq asked e.0) e.1 (export_named asked (put_export name id es)) (export_named asked es) r (next h)

-- one that has none gets it
pub put_new : (name asked : List ℕ) (id : SymbolId) (es : Index) → is_some (export_named name es) ≡ false
    → export_named asked (put_export name id es) ≡ option_or (export_named asked es) (cond (bytes_eq name asked) (Some id) None)
put_new name asked id [] h = ap (λ b. cond b (Some id) None) (nat_list_eq_equiv.symm asked name)
put_new name asked id (e ∷ es) h =
    put_step (bytes_eq name e.0) name asked id e es (export_named name es) (cond (bytes_eq name asked) (Some id) None) h
    (put_new name asked id es)

-- one more symbol
pub index_more : (symbols : List Symbol) (ids : List SymbolId) (i : ℕ) (id : SymbolId) (old new : Index) → i < length ids →
    id ≡ get_or ids i id
    → ((name : List ℕ) → export_named name new
    ≡ option_or (export_named name old) (cond (symbol_is_named name (symbol_of id symbols)) (Some id) None))
    → IsNameIndex symbols (take i ids) old → IsNameIndex symbols (take (i + 1) ids) new
index_more symbols ids i id old new lt read u h = record {
  says = λ name.
      let test = λ (m : SymbolId). symbol_is_named name (symbol_of m symbols) in
      let longer : take (i + 1) ids ≡ take i ids ++ id ∷ [] = take_more ids i id lt
      ∙ ap (λ (x : SymbolId). take i ids ++ x ∷ []) (sym read) in
      u name ∙ (ap (λ o. option_or o (cond (symbol_is_named name (symbol_of id symbols)) (Some id) None)) (h.says name)
      ∙ (sym (find-append test (take i ids) (id ∷ [])) ∙ ap (λ (xs : List SymbolId). find test xs) (sym longer)));
}

-- ---- one index more

pub each_place : {A B R : Type 0} (f : A → Option R) (g : B → Option R) (xs : List A) (ys : List B) (x : A) (y : B) → length xs ≡ length ys
    → ((p : ℕ) → option_and_then f (slice_get xs p) ≡ option_and_then g (slice_get ys p)) → f x ≡ g y
    → (p : ℕ) → option_and_then f (slice_get (xs ++ x ∷ []) p) ≡ option_and_then g (slice_get (ys ++ y ∷ []) p)
each_place f g [] [] x y l h e zero = e
each_place f g [] [] x y l h e (suc p) = refl
each_place f g [] (b ∷ ys) x y l h e p = absurd (omega arith)
each_place f g (a ∷ xs) [] x y l h e p = absurd (omega arith)
each_place f g (a ∷ xs) (b ∷ ys) x y l h e zero = h zero
each_place f g (a ∷ xs) (b ∷ ys) x y l h e (suc p) = each_place f g xs ys x y (omega arith) (λ q. h (suc q)) e p

-- ---- what is found

-- what `get` lends
pub item_at : {X : Type 0} (xs : List X) (i : ℕ) (r : Option (Bor X)) → IsItemAt xs i r → option_copied r ≡ slice_get xs i
item_at xs i None h = sym (slice_get_past xs i h.3)
item_at xs i (Some y) h = ap Some h.1 ∙ sym (slice_get-get_or xs i y.now h.3.0)

found_at : (symbols : List Symbol) (m : MemberIndexes) (name : List ℕ) (o : Option Symbol) (p : Option ℕ) → IsFound symbols o p
    → AreMembersOf symbols m → option_and_then (member_at m name) p ≡ named_member symbols name o
found_at symbols m name None None found h = refl
found_at symbols m name None (Some i) found h = absurd found
found_at symbols m name (Some s) None found h = absurd found
found_at symbols m name (Some s) (Some i) found h = h.says i name ∙ ap (λ o. named_member symbols name o) found

-- the member of a name, by the place of its symbol
pub found_by_place : (symbols : List Symbol) (m : MemberIndexes) (id : SymbolId) (name : List ℕ) (p : Option ℕ) → place_of id symbols ≡ p
    → AreMembersOf symbols m → option_and_then (member_at m name) p ≡ named_member symbols name (symbol_of id symbols)
found_by_place symbols m id name p is h =
    found_at symbols m name (symbol_of id symbols) p
    (subst (λ (q : Option ℕ). IsFound symbols (symbol_of id symbols) q) is (last_found (has_id id) symbols)) h
