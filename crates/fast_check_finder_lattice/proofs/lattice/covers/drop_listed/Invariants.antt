use Rattle.std.proofs.Common.{take}
use Rattle.fast_check_finder_lattice.specs.Numbers.{lists_node, AreGone}
use Rattle.fast_check_finder_lattice.proofs.lattice.covers.drop_listed.Given as goal

abbrev pub invariant-loop-below : goal.invariant-loop-below
invariant-loop-below l = AreGone (lists_node (take l.below-index l.names)) l.fn.numbers.items l.numbers.items
