-- Reading each item of a list.
use Rattle.std.specs.Prelude.{◌≡◌, List, [], ◌∷◌, Option, Some, None, option_map, option_and_then, MatchResult, Result}
use Rattle.fast_check_read.specs.declared.error.ReadError.{ReadError}
use Rattle.fast_check_read.specs.declared.error.ReadError.TheVariants.{BadForm}

-- what the function gives of each item, or nothing where it gives nothing of one
abbrev pub each : {A B : Type 0} → (A → Option B) → List A → Option (List B)
each f [] = Some []
each f (x ∷ xs) = option_and_then (λ y. option_map (λ ys. y ∷ ys) (each f xs)) (f x)

-- a call answers what is expected, or `BadForm` where nothing is; it may run out of memory
abbrev pub Answers : {A : Type 0} → Option A → Result A ReadError → Type 0
Answers expected result = MatchResult result (λ a. expected ≡ Some a) (λ error. error ≡ BadForm → expected ≡ None)
