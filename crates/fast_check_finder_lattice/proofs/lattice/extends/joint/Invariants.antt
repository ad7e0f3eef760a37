use Rattle.std.proofs.Common.{length}
use Rattle.fast_check_finder_lattice.specs.Graph.{entry}
use Rattle.fast_check_finder_lattice.specs.Names.{IsJoint}
use Rattle.fast_check_finder_lattice.proofs.lattice.extends.joint.Given as goal

abbrev pub invariant-loop : goal.invariant-loop
invariant-loop l = IsJoint (entry l.nodes) (length l.nodes) 0 (entry l.others) 0 (l.at, l.other)
