-- Groups of what has the same key, in the order in which the keys come first.
use Rattle.std.specs.Prelude.{Bool, not, List, [], ◌∷◌}
use Rattle.std.specs.List.{filter}

-- the entries of other keys
abbrev pub others : {K N : Type 0} → (K → K → Bool) → K → List (K × N) → List (K × N)
others same k = filter (λ e. not (same k e.0))

module _ {K A : Type 0} (same : K → K → Bool) (key : A → K) where
  -- the items of a key
  abbrev pub items_of : K → List A → List A
  items_of k = filter (λ x. same k (key x))

  -- each key with its items
  abbrev pub grouped : List A → List (K × List A)
  grouped [] = []
  grouped (x ∷ xs) = (key x, x ∷ items_of (key x) xs) ∷ others same (key x) (grouped xs)
