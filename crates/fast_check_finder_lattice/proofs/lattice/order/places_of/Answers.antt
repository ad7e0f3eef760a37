use Rattle.std.proofs.Common.{arith, subst, ◌≡◌, ◌+◌, ◌++◌, ◌∷◌, [], ℕ}
use Rattle.fast_check_finder_lattice.specs.Order.{IsCount}
use Rattle.fast_check_finder_lattice.proofs.Sorted.{count_more}
use Rattle.fast_check_finder_lattice.proofs.lattice.order.places_of.Goals as goal

pub loop-number-preserved : goal.loop-number-preserved
loop-number-preserved c =
    let same : c.loop-number.number ≡ c.in-Ok.place = omega (arith, c.in-Ok.ensures.1) in
    rw c.in_ok-push.ensures.items
    (subst (λ (k : ℕ). IsCount (c.loop-number.places.items ++ k ∷ []) (c.loop-number.number + 1)) same
    (count_more c.loop-number.places.items c.loop-number.number c.loop-number.invariant))
