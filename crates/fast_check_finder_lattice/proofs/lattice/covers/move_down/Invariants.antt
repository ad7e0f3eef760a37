use Rattle.std.proofs.Common.{vec_len}
use Rattle.fast_check_finder_lattice.specs.Graph.{listings}
use Rattle.fast_check_finder_lattice.specs.Numbers.{stays}
use Rattle.fast_check_finder_lattice.proofs.Numbers.{IsMoving}
use Rattle.fast_check_finder_lattice.proofs.lattice.covers.move_down.Given as goal

abbrev pub invariant-loop-i : goal.invariant-loop-i
invariant-loop-i l = IsMoving (stays l.numbers) (vec_len l.fn.nodes) l.i l.next (listings l.fn.nodes.items) (listings l.nodes.items)
