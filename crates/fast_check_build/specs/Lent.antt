-- What contracts say of an object that may be lent, before and after a call.
use Rattle.std.specs.Prelude.{◌⊎◌, Option, Some, None}
use Rattle.std.specs.Borrow.{MutBor}
use Rattle.std.proofs.Common.{inl, inr}

-- a fact of the value before and the value after, where one is lent
unfoldable pub OldNew : {X : Type 0} → (X → X → Type 0) → Option (MutBor X) →
    Unit {0} ⊎ ((MutBor X × Unit {0}) ⊎ ⊥) → Type 0
OldNew P (Some object) (inr (inl left)) = P object.now left.0.now
OldNew P (Some object) _ = ⊥
OldNew P None _ = Unit {0}
