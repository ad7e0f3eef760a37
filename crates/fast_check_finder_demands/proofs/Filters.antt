-- Filters of what a loop gathers, and filters by tests that are alike.
use Rattle.std.proofs.Common.{◌≡◌, ◌∙◌, sym, ap, refl, ℕ, ◌+◌, Bool, true, false, cond, ◌&&◌, ◌||◌, List, [], ◌∷◌, ◌++◌, map, take, slice_get, append_assoc}
use Rattle.std.specs.List.{filter, flat_map, list_any}
use Rattle.std.proofs.lemmas.Bool.{false≢true}
use Rattle.std.proofs.lemmas.List.Elements.{filter-append, filter_agree}
use Rattle.fast_check_finder_demands.specs.symbol_demands.Rules.{each_of}
use Rattle.fast_check_finder_demands.proofs.symbol_demands.EachAt.{each_more}

-- after the place i
pub filter_more : {X Y : Type 0} (p : Y → Bool) (f : X → List Y) (xs : List X) (i : ℕ) (start out : List Y) →
    out ≡ start ++ filter p (flat_map f (take i xs)) → out ++ filter p (each_of f (slice_get xs i)) ≡ start ++ filter p (flat_map f (take (i + 1) xs))
filter_more {X} {Y} p f xs i start out e = ap (λ (ys : List Y). ys ++ filter p (each_of f (slice_get xs i))) e ∙
    (append_assoc start (filter p (flat_map f (take i xs))) (filter p (each_of f (slice_get xs i))) ∙
    ap (λ (ys : List Y). start ++ ys) (sym (filter-append p (flat_map f (take i xs)) (each_of f (slice_get xs i))) ∙
    ap (filter p) (each_more f xs i [] (flat_map f (take i xs)) refl)))

pub filter_of_map : {X Y : Type 0} (p : Y → Bool) (f : X → Y) (xs : List X) → filter p (map f xs) ≡ map f (filter (λ x. p (f x)) xs)
filter_of_map p f [] = refl
filter_of_map p f (x ∷ xs) = by (p (f x)) (filter_of_map p f xs)
  where
    by : (b : Bool) → filter p (map f xs) ≡ map f (filter (λ y. p (f y)) xs) →
        cond b (f x ∷ filter p (map f xs)) (filter p (map f xs)) ≡
        map f (cond b (x ∷ filter (λ y. p (f y)) xs) (filter (λ y. p (f y)) xs))
    by true e = ap (λ ys. f x ∷ ys) e
    by false e = e

pub filter_none : {X : Type 0} (p : X → Bool) → ((x : X) → false ≡ p x) → (xs : List X) → [] ≡ filter p xs
filter_none {X} p e xs = go xs ∙ filter_agree (λ _. false) p e xs
  where
    go : (ys : List X) → [] ≡ filter (λ _. false) ys
    go [] = refl
    go (y ∷ ys) = go ys

-- a test that is made beside one that no element meets
pub filter_beside : {X : Type 0} (p q : X → Bool) (xs : List X) → list_any q xs ≡ false → filter (λ x. p x && q x) xs ≡ []
filter_beside p q [] h = refl
filter_beside p q (x ∷ xs) h = by (p x) (q x) h (filter_beside p q xs)
  where
    by : (a b : Bool) → (b || list_any q xs) ≡ false → (list_any q xs ≡ false → filter (λ y. p y && q y) xs ≡ []) →
        cond (a && b) (x ∷ filter (λ y. p y && q y) xs) (filter (λ y. p y && q y) xs) ≡ []
    by a true h below = absurd (false≢true (sym h))
    by true false h below = below h
    by false false h below = below h
