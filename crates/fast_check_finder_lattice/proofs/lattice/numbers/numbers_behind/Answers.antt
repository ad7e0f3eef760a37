use Rattle.fast_check_finder_lattice.proofs.Covers.{behind_more}
use Rattle.fast_check_finder_lattice.proofs.lattice.numbers.numbers_behind.Goals as goal

pub loop-place-preserved : goal.loop-place-preserved
loop-place-preserved c =
    rw c.in_ok-push.ensures.items
    (behind_more c.args.first c.loop-place.place c.loop-place.numbers.items c.loop-place.invariant.0 c.loop-place.invariant.1)
