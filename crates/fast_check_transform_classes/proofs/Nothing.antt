-- What is nothing is none.
use Rattle.std.specs.Prelude.{◌≡◌, Option, Some, None, refl}

pub none_of : {A : Type 0} (o : Option A) → ((a : A) → o ≡ Some a → ⊥) → o ≡ None
none_of None without = refl
none_of (Some a) without = absurd (without a refl)
