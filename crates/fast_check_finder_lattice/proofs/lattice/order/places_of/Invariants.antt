use Rattle.fast_check_finder_lattice.specs.Order.{IsCount}
use Rattle.fast_check_finder_lattice.proofs.lattice.order.places_of.Given as goal

abbrev pub invariant-loop-number : goal.invariant-loop-number
invariant-loop-number l = IsCount l.places.items l.number
