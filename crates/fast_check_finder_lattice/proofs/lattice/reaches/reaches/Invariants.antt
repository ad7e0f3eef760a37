use Rattle.std.proofs.Common.{◌≡◌, length}
use Rattle.fast_check_finder_lattice.specs.Graph.{Part, entry, reach}
use Rattle.fast_check_finder_lattice.specs.Names.{path_of}
use Rattle.fast_check_finder_lattice.proofs.lattice.reaches.reaches.Given as goal

abbrev pub decreases-down : goal.decreases-down
decreases-down l = length l.here.rest.now

abbrev pub invariant-down : goal.invariant-down
invariant-down l = (part : Part) →
    reach (entry l.nodes) l.here.below part (path_of l.here.rest.now) ≡ reach (entry l.nodes) l.fn.below part (path_of l.fn.rest)
