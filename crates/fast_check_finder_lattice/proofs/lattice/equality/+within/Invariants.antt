use Rattle.std.proofs.Common.{◌-◌, ◌+◌, ◌*◌, length, take}
use Rattle.fast_check_finder_lattice.specs.Graph.{entry}
use Rattle.fast_check_finder_lattice.proofs.Alike.{IsKept, WithinP}
use Rattle.fast_check_finder_lattice.proofs.lattice.equality.+within.Given as goal

abbrev pub decreases-is_within_below : goal.decreases-is_within_below
decreases-is_within_below l = 2 * (length l.nodes.now - l.at)

abbrev pub decreases-is_within : goal.decreases-is_within
decreases-is_within l = 2 * (length l.nodes.now - l.at) + 1

abbrev pub invariant-is_within-loop-name : goal.invariant-is_within-loop-name
invariant-is_within-loop-name l = IsKept (WithinP (entry l.nodes) (entry l.others) l.other) (take l.name-index l.name-items)
