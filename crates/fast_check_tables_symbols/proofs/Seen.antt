-- Exports, as they are seen in the list that holds them, and their places.
use Rattle.std.proofs.Common.{◌≡◌, ◌∙◌, sym, ap, refl, subst, ℕ, zero, suc, ◌<◌, Bool, true, false, cond, List, [], ◌∷◌, ◌++◌, Option}
use Rattle.std.proofs.Common.{Some, None, map, length, get_or, set, arith, string_bytes, string_cmp}
use Rattle.std.specs.Prelude.{String, option_map, slice_get}
use Rattle.std.specs.Option.{option_or, option_and_then, option_copied}
use Rattle.std.specs.Borrow.{Bor}
use Rattle.std.specs.Slice.{IsItemAt}
use Rattle.std.specs.BTreeMap.{BTreeMap, get_by_text, Updates}
use Rattle.std.specs.Str.{bytes_eq}
use Rattle.std.specs.declared.alloc.Global.{Global}
use Rattle.std.specs.Cmp.Lexicographic.{nat_list_eq_equiv}
use Rattle.std.proofs.lemmas.List.{map-append, length-map}
use Rattle.std.proofs.lemmas.Map.Text.{btree_map_updates_text}
use Rattle.std.proofs.lemmas.Option.{slice_get-map}
use Rattle.std.proofs.lemmas.Slice.Eq.{bytes_eq-Decides}
use Rattle.fast_check_tables_symbols.specs.declared.symbol_id.SymbolId.{SymbolId}
use Rattle.fast_check_tables_symbols.specs.Exports.{export_named, put_export}
use Rattle.fast_check_tables_symbols.specs.NamePlaces.{place_named, HasPlaces}
use Rattle.fast_check_tables_symbols.proofs.Named.{item_at}

abbrev pub Exports : Type 0
Exports = List (List ℕ × SymbolId)

abbrev pub Entry : Type 0
Entry = String Global × SymbolId

abbrev pub seen : Entry → List ℕ × SymbolId
seen e = (string_bytes e.0, e.1)

-- ---- what stands at the place of a name

-- what the index answers is the place
pub placed : {name asked : List ℕ} {es : List Entry} {places : BTreeMap (String Global) ℕ} {lent answer : Option ℕ} → asked ≡ name
    → HasPlaces es places → lent ≡ get_by_text places asked → answer ≡ lent → place_named name (map seen es) ≡ answer
placed {asked = asked} {es = es} same h is copied =
    ap (λ (n : List ℕ). place_named n (map seen es)) (sym same) ∙ (sym (h.says asked) ∙ (sym is ∙ sym copied))

pub absent : (o : Option ℕ) → ((i : ℕ) → o ≡ Some i → ⊥) → o ≡ None
absent None h = refl
absent (Some i) h = absurd (h i refl)

abbrev pub symbol_at : Exports → Option ℕ → Option SymbolId
symbol_at es place = option_and_then (λ i. option_map (λ e. e.1) (slice_get es i)) place

below : (b : Bool) (e : List ℕ × SymbolId) (es : Exports) (p : Option ℕ) (o : Option SymbolId) → symbol_at es p ≡ o
    → symbol_at (e ∷ es) (cond b (Some 0) (option_map suc p)) ≡ cond b (Some e.1) o
below true e es p o h = refl
below false e es None o h = h
below false e es (Some i) o h = h

pub stands_there : (name : List ℕ) (es : Exports) → symbol_at es (place_named name es) ≡ export_named name es
stands_there name [] = refl
stands_there name (e ∷ es) = below (bytes_eq name e.0) e es (place_named name es) (export_named name es) (stands_there name es)

-- what is lent there
lent : (r : Option (Bor Entry)) → option_map (λ e. e.now.1) r ≡ option_map (λ e. e.1) (option_map seen (option_copied r))
lent None = refl
lent (Some e) = refl

pub read : (name : List ℕ) (es : List Entry) (i : ℕ) (r : Option (Bor Entry)) → place_named name (map seen es) ≡ Some i → IsItemAt es i r
    → option_map (λ e. e.now.1) r ≡ export_named name (map seen es)
read name es i r at h =
    lent r
    ∙ (ap (λ (o : Option Entry). option_map (λ e. e.1) (option_map seen o)) (item_at es i r h)
    ∙ (ap (λ (o : Option (List ℕ × SymbolId)). option_map (λ e. e.1) o) (sym (slice_get-map seen es i))
    ∙ (ap (symbol_at (map seen es)) (sym at) ∙ stands_there name (map seen es))))

-- a name without a place has no symbol
pub unread : (name : List ℕ) (es : Exports) → place_named name es ≡ None → None ≡ export_named name es
unread name es at = ap (symbol_at es) (sym at) ∙ stands_there name es

pub inside_below : (b : Bool) (p : Option ℕ) (i n : ℕ) → cond b (Some 0) (option_map suc p) ≡ Some i → ((j : ℕ) → p ≡ Some j → j < n)
    → i < suc n
inside_below true p zero n at next = omega arith
inside_below true p (suc i) n at next = cc
inside_below false None i n at next = cc
inside_below false (Some j) zero n at next = cc
inside_below false (Some j) (suc i) n at next = let lt = next i (cc) in omega arith

-- a place is one of the list
pub inside : (name : List ℕ) (es : List Entry) (i : ℕ) → place_named name (map seen es) ≡ Some i → i < length es
inside name [] i at = cc
inside name (e ∷ es) i at =
    inside_below (bytes_eq name (string_bytes e.0)) (place_named name (map seen es)) i (length es) at (inside name es)

-- ---- a name that is there

written_below : (b : Bool) (p : Option ℕ) (y : Entry) (ys : List Entry) (i : ℕ) (x : Entry) (id : SymbolId) (rest : Exports)
    → cond b (Some 0) (option_map suc p) ≡ Some i → x ≡ get_or (y ∷ ys) i x
    → ((j : ℕ) → p ≡ Some j → x ≡ get_or ys j x → map seen (set ys j (x.0, id)) ≡ rest)
    → map seen (set (y ∷ ys) i (x.0, id)) ≡ cond b ((string_bytes y.0, id) ∷ map seen ys) (seen y ∷ rest)
written_below true p y ys zero x id rest at read next = ap (λ (e : Entry). (string_bytes e.0, id) ∷ map seen ys) read
written_below true p y ys (suc i) x id rest at read next = cc
written_below false None y ys i x id rest at read next = cc
written_below false (Some j) y ys zero x id rest at read next = cc
written_below false (Some j) y ys (suc i) x id rest at read next = ap (λ (r : Exports). seen y ∷ r) (next i (cc) read)

-- its entry gets the symbol
pub written : (name : List ℕ) (id : SymbolId) (es : List Entry) (i : ℕ) (x : Entry) → place_named name (map seen es) ≡ Some i
    → x ≡ get_or es i x → map seen (set es i (x.0, id)) ≡ put_export name id (map seen es)
written name id [] i x at read = cc
written name id (y ∷ ys) i x at read =
    written_below (bytes_eq name (string_bytes y.0)) (place_named name (map seen ys)) y ys i x id (put_export name id (map seen ys)) at read
    (λ j. written name id ys j x)

stays_below : (b : Bool) (p : Option ℕ) (q : List ℕ) (i : ℕ) (id : SymbolId) (e : List ℕ × SymbolId) (es rest : Exports)
    → cond b (Some 0) (option_map suc p) ≡ Some i
    → ((j : ℕ) → p ≡ Some j → place_named q rest ≡ place_named q es)
    → place_named q (cond b ((e.0, id) ∷ es) (e ∷ rest)) ≡ place_named q (e ∷ es)
stays_below true p q i id e es rest at next = refl
stays_below false None q i id e es rest at next = cc
stays_below false (Some j) q i id e es rest at next =
    ap (λ (o : Option ℕ). cond (bytes_eq q e.0) (Some 0) (option_map suc o)) (next j refl)

-- and the places stay
pub places_stay : (name asked : List ℕ) (id : SymbolId) (es : Exports) (i : ℕ) → place_named name es ≡ Some i
    → place_named asked (put_export name id es) ≡ place_named asked es
places_stay name asked id [] i at = cc
places_stay name asked id (e ∷ es) i at =
    stays_below (bytes_eq name e.0) (place_named name es) asked i id e es (put_export name id es) at (λ j. places_stay name asked id es j)

pub same_places : (name : List ℕ) (id : SymbolId) (es : List Entry) (i : ℕ) (x : Entry) (places : BTreeMap (String Global) ℕ)
    → place_named name (map seen es) ≡ Some i → x ≡ get_or es i x → HasPlaces es places
    → HasPlaces (set es i (x.0, id)) places
same_places name id es i x places at is h = record {
  says = λ asked.
      h.says asked ∙ (sym (places_stay name asked id (map seen es) i at)
      ∙ ap (λ (xs : Exports). place_named asked xs) (sym (written name id es i x at is)));
}

-- ---- a name that is not there

added_below : (b : Bool) (p : Option ℕ) (id : SymbolId) (e y : List ℕ × SymbolId) (es rest : Exports)
    → cond b (Some 0) (option_map suc p) ≡ None
    → (p ≡ None → rest ≡ es ++ y ∷ [])
    → cond b ((e.0, id) ∷ es) (e ∷ rest) ≡ e ∷ es ++ y ∷ []
added_below true p id e y es rest at next = cc
added_below false None id e y es rest at next = ap (λ (r : Exports). e ∷ r) (next refl)
added_below false (Some j) id e y es rest at next = cc

-- it goes last
pub added : (name : List ℕ) (id : SymbolId) (es : Exports) → place_named name es ≡ None → put_export name id es ≡ es ++ (name, id) ∷ []
added name id [] at = refl
added name id (e ∷ es) at =
    added_below (bytes_eq name e.0) (place_named name es) id e (name, id) es (put_export name id es) at (added name id es)

pub longer_below : (b c : Bool) (p : Option ℕ) (n : ℕ)
    → cond b (Some 0) (option_map suc (option_or p (cond c (Some n) None)))
    ≡ option_or (cond b (Some 0) (option_map suc p)) (cond c (Some (suc n)) None)
longer_below true c p n = refl
longer_below false true None n = refl
longer_below false false None n = refl
longer_below false c (Some i) n = refl

longer : (asked : List ℕ) (es : Exports) (e : List ℕ × SymbolId)
    → place_named asked (es ++ e ∷ []) ≡ option_or (place_named asked es) (cond (bytes_eq asked e.0) (Some (length es)) None)
longer asked [] e = refl
longer asked (y ∷ ys) e =
    ap (λ (o : Option ℕ). cond (bytes_eq asked y.0) (Some 0) (option_map suc o)) (longer asked ys e)
    ∙ longer_below (bytes_eq asked y.0) (bytes_eq asked e.0) (place_named asked ys) (length ys)

pub apart : (b : Bool) (o : Option ℕ) (n : ℕ) → (b ≡ true → o ≡ None) → option_or o (cond b (Some n) None) ≡ cond b (Some n) o
apart true None n h = refl
apart true (Some i) n h = let e : Some i ≡ None = h refl in cc
apart false None n h = refl
apart false (Some i) n h = refl

-- and has the last place
pub last_place_named : (name asked : List ℕ) (id : SymbolId) (es : Exports) → place_named name es ≡ None
    → place_named asked (es ++ (name, id) ∷ []) ≡ cond (bytes_eq name asked) (Some (length es)) (place_named asked es)
last_place_named name asked id es at =
    longer asked es (name, id)
    ∙ (ap (λ b. option_or (place_named asked es) (cond b (Some (length es)) None)) (nat_list_eq_equiv.symm asked name)
    ∙ apart (bytes_eq name asked) (place_named asked es) (length es)
    (λ e. subst (λ (n : List ℕ). place_named n es ≡ None) ((bytes_eq-Decides name asked).0 e) at))

-- so the index has one place more
pub one_more_place : (name key : String Global) (id : SymbolId) (es : List Entry) (i : ℕ) (old new : BTreeMap (String Global) ℕ)
    → place_named (string_bytes name) (map seen es) ≡ None → string_bytes key ≡ string_bytes name → i ≡ length es
    → Updates string_cmp old new key (Some i) → HasPlaces es old → HasPlaces (es ++ (name, id) ∷ []) new
one_more_place name key id es i old new at same long u h = record {
  says = λ asked.
      btree_map_updates_text (string_bytes key) old new (Some i) u asked
      ∙ (ap (λ (ks : List ℕ). cond (bytes_eq ks asked) (Some i) (get_by_text old asked)) same
      ∙ (ap (λ o. cond (bytes_eq (string_bytes name) asked) (Some i) o) (h.says asked)
      ∙ (ap (λ n. cond (bytes_eq (string_bytes name) asked) (Some n) (place_named asked (map seen es))) (long ∙ sym (length-map es seen))
      ∙ (sym (last_place_named (string_bytes name) asked id (map seen es) at)
      ∙ ap (λ (xs : Exports). place_named asked xs) (sym (map-append seen es ((name, id) ∷ [])))))));
}

pub one_more : (name : String Global) (id : SymbolId) (es : List Entry) → place_named (string_bytes name) (map seen es) ≡ None
    → map seen (es ++ (name, id) ∷ []) ≡ put_export (string_bytes name) id (map seen es)
one_more name id es at = map-append seen es ((name, id) ∷ []) ∙ sym (added (string_bytes name) id (map seen es) at)
