-- What a loop over the places of a list adds to another.
use Rattle.std.proofs.Common.{◌≡◌, ◌∙◌, sym, ap, refl, ℕ, zero, suc, ◌+◌, List, [], ◌∷◌, ◌++◌, take, slice_get, append_assoc, append-nil}
use Rattle.std.proofs.Common.{add-one}
use Rattle.std.specs.List.{flat_map}
use Rattle.fast_check_finder_demands.specs.symbol_demands.Rules.{each_of}

each_next : {X Y : Type 0} (f : X → List Y) (xs : List X) (i : ℕ) →
    flat_map f (take i xs) ++ each_of f (slice_get xs i) ≡ flat_map f (take (suc i) xs)
each_next f [] zero = refl
each_next f [] (suc i) = refl
each_next f (x ∷ xs) zero = sym (append-nil (f x))
each_next f (x ∷ xs) (suc i) = append_assoc (f x) (flat_map f (take i xs)) (each_of f (slice_get xs i)) ∙
    ap (λ ys. f x ++ ys) (each_next f xs i)

-- after the place i
pub each_more : {X Y : Type 0} (f : X → List Y) (xs : List X) (i : ℕ) (start out : List Y) → out ≡ start ++ flat_map f (take i xs) →
    out ++ each_of f (slice_get xs i) ≡ start ++ flat_map f (take (i + 1) xs)
each_more f xs i start out e = ap (λ ys. ys ++ each_of f (slice_get xs i)) e ∙
    (append_assoc start (flat_map f (take i xs)) (each_of f (slice_get xs i)) ∙
    (ap (λ ys. start ++ ys) (each_next f xs i) ∙ ap (λ (k : ℕ). start ++ flat_map f (take k xs)) (sym (add-one i))))
