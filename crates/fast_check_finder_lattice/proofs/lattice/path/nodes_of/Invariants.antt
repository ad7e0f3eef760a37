use Rattle.fast_check_finder_lattice.specs.Names.{path_of}
use Rattle.fast_check_finder_lattice.proofs.Lines.{IsBegun}
use Rattle.fast_check_finder_lattice.proofs.lattice.path.nodes_of.Given as goal

abbrev pub invariant-loop-place : goal.invariant-loop-place
invariant-loop-place l = IsBegun (path_of l.parts) l.nodes.items l.place
