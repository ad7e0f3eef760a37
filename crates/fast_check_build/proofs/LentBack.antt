-- What a call through the object of an optional `&mut dyn` leaves behind it.
use Rattle.std.proofs.Common.{◌≡◌, sym, subst, inl, inr, Some, None, ◌⊎◌}
use Rattle.std.specs.Borrow.{MutBor}
use Rattle.fast_check_build.specs.Lent.{OldNew}

pub at_exit : {X : Type 0} (P : X → X → Type 0) (x left : MutBor X) (v : X) → left.now ≡ v → P x.now v →
    OldNew P (Some x) (inr (inl (left, tt)))
unfolding OldNew
at_exit P x left v e p = subst (λ w. P x.now w) (sym e) p

pub at_none : {X : Type 0} (P : X → X → Type 0) (left : Unit {0} ⊎ ((MutBor X × Unit {0}) ⊎ ⊥)) → OldNew P None left
unfolding OldNew
at_none P left = tt
