use Rattle.std.proofs.Common.{◌≡◌, ◌++◌, take, drop, map}
use Rattle.fast_check_finder_lattice.specs.Graph.{listings}
use Rattle.fast_check_finder_lattice.specs.Numbers.{number, moved_entries}
use Rattle.fast_check_finder_lattice.proofs.lattice.numbers.renumber_nodes.Given as goal

abbrev pub invariant-loop-i : goal.invariant-loop-i
invariant-loop-i l = listings l.nodes.items ≡ map (moved_entries (number l.numbers)) (take l.i (listings l.fn.nodes.items)) ++ drop l.i
    (listings l.fn.nodes.items)
