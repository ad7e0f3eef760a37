-- Equations of tests.
use Rattle.std.proofs.Common.{◌≡◌, refl, Bool, true, false, ◌||◌}

pub or_assoc : (a b c : Bool) → ((a || b) || c) ≡ (a || (b || c))
or_assoc true b c = refl
or_assoc false b c = refl
