-- Inner: no contract of a public call cites what stands here.
-- Places of items in a list.
use Rattle.std.specs.Prelude.{ℕ, suc, Bool, cond, min, List, [], ◌∷◌, Option, Some, None, option_map}

-- the place of the first item that passes a test
abbrev pub first_place : {X : Type 0} → (X → Bool) → List X → Option ℕ
first_place test [] = None
first_place test (x ∷ xs) = cond (test x) (Some 0) (option_map suc (first_place test xs))

-- the earlier of two places
abbrev pub earlier : Option ℕ → Option ℕ → Option ℕ
earlier None q = q
earlier (Some p) None = Some p
earlier (Some p) (Some q) = Some (min p q)
