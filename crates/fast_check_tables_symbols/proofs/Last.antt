-- Lemmas on the last item and the last entry that pass a test.
use Rattle.std.proofs.Common.{◌≡◌, ◌∙◌, sym, ap, refl, ℕ, suc, Bool, true, false, cond, List, [], ◌∷◌, ◌++◌, Option, Some, None, length}
use Rattle.std.specs.Prelude.{option_map, slice_get}
use Rattle.std.specs.BTreeMap.{BTreeMap, get}
use Rattle.std.specs.Option.{option_or}
use Rattle.std.specs.Ordering.{eq_by_cmp}
use Rattle.std.specs.declared.cmp.Ordering.{Ordering}
use Rattle.std.specs.Map.{update, update_all}
use Rattle.fast_check_tables_symbols.specs.Entries.{last_that, last_place, last_value}

-- the last item of a longer list
last_or : (deep : Option ℕ) (b c : Bool) (n : ℕ)
    → option_or (option_map suc (cond b (Some n) deep)) (cond c (Some 0) None)
    ≡ cond b (Some (suc n)) (option_or (option_map suc deep) (cond c (Some 0) None))
last_or deep true c n = refl
last_or deep false c n = refl

pub last_place_push : {X : Type 0} (test : X → Bool) (xs : List X) (x : X)
    → last_place test (xs ++ x ∷ []) ≡ cond (test x) (Some (length xs)) (last_place test xs)
last_place_push test [] x = refl
last_place_push test (y ∷ xs) x =
    ap (λ o. option_or (option_map suc o) (cond (test y) (Some 0) None)) (last_place_push test xs x)
    ∙ last_or (last_place test xs) (test x) (test y) (length xs)

-- an item and its place, or neither
abbrev pub IsFound : {X : Type 0} → List X → Option X → Option ℕ → Type 0
IsFound xs None None = Unit {0}
IsFound xs None (Some i) = ⊥
IsFound xs (Some x) None = ⊥
IsFound xs (Some x) (Some i) = slice_get xs i ≡ Some x

found_below : {X : Type 0} (x : X) (xs : List X) (o : Option X) (p : Option ℕ) (b : Bool) → IsFound xs o p
    → IsFound (x ∷ xs) (option_or o (cond b (Some x) None)) (option_or (option_map suc p) (cond b (Some 0) None))
found_below x xs None None true h = refl
found_below x xs None None false h = tt
found_below x xs None (Some i) b h = absurd h
found_below x xs (Some y) None b h = absurd h
found_below x xs (Some y) (Some i) b h = h

-- the last item stands at its place
pub last_found : {X : Type 0} (test : X → Bool) (xs : List X) → IsFound xs (last_that test xs) (last_place test xs)
last_found test [] = tt
last_found test (x ∷ xs) = found_below x xs (last_that test xs) (last_place test xs) (test x) (last_found test xs)

-- the last entry of a longer list
last_value_or : {X : Type 0} (deep : Option X) (b c : Bool) (x y : X)
    → option_or (cond b (Some x) deep) (cond c (Some y) None) ≡ cond b (Some x) (option_or deep (cond c (Some y) None))
last_value_or deep true c x y = refl
last_value_or deep false c x y = refl

pub last_value_push : {K X : Type 0} (test : K → Bool) (es : List (K × X)) (e : K × X)
    → last_value test (es ++ e ∷ []) ≡ cond (test e.0) (Some e.1) (last_value test es)
last_value_push test [] e = refl
last_value_push test (f ∷ es) e =
    ap (λ o. option_or o (cond (test f.0) (Some f.1) None)) (last_value_push test es e)
    ∙ last_value_or (last_value test es) (test e.0) (test f.0) e.1 f.1

-- a map with one entry more
pub map_more : {K X : Type 0} (cmp : K → K → Ordering) (old new : BTreeMap K X) (es : List (K × X)) (e : K × X)
    → ((key : K) → get cmp old key ≡ last_value (λ k. eq_by_cmp cmp k key) es)
    → ((key : K) → get cmp new key ≡ cond (eq_by_cmp cmp e.0 key) (Some e.1) (get cmp old key))
    → (key : K) → get cmp new key ≡ last_value (λ k. eq_by_cmp cmp k key) (es ++ e ∷ [])
map_more cmp old new es e h u key =
    u key ∙ (ap (λ o. cond (eq_by_cmp cmp e.0 key) (Some e.1) o) (h key) ∙ sym (last_value_push (λ k. eq_by_cmp cmp k key) es e))

pub or_or : {X : Type 0} (o p r : Option X) → option_or (option_or o p) r ≡ option_or o (option_or p r)
or_or None p r = refl
or_or (Some x) p r = refl

or_cond : {X : Type 0} (b : Bool) (x : X) (o : Option X) → option_or (cond b (Some x) None) o ≡ cond b (Some x) o
or_cond true x o = refl
or_cond false x o = refl

-- entries that are put one after another leave the last of each key
pub last_of_all : {K X : Type 0} (e : K → K → Bool) (f : K → Option X) (xs : List (K × X)) (q : K)
    → update_all e f xs q ≡ option_or (last_value (λ k. e k q) xs) (f q)
last_of_all e f [] q = refl
last_of_all e f (x ∷ xs) q =
    last_of_all e (update e f x.0 (Some x.1)) xs q
    ∙ (ap (λ o. option_or (last_value (λ k. e k q) xs) o) (sym (or_cond (e x.0 q) x.1 (f q)))
    ∙ sym (or_or (last_value (λ k. e k q) xs) (cond (e x.0 q) (Some x.1) None) (f q)))

pub or_none : {X : Type 0} (o : Option X) → option_or o None ≡ o
or_none None = refl
or_none (Some x) = refl

-- the same from no entries
pub last_of_none : {K X : Type 0} (e : K → K → Bool) (xs : List (K × X)) (q : K) →
    update_all e (λ _. None) xs q ≡ last_value (λ k. e k q) xs
last_of_none e xs q = last_of_all e (λ _. None) xs q ∙ or_none (last_value (λ k. e k q) xs)
