use Rattle.std.proofs.Common.{take}
use Rattle.fast_check_finder_lattice.specs.Graph.{entry}
use Rattle.fast_check_finder_lattice.proofs.Listed.{AreListed}
use Rattle.fast_check_finder_lattice.proofs.lattice.named_subset.NamedSubset.into_names.Given as goal

abbrev pub invariant-loop-place : goal.invariant-loop-place
invariant-loop-place l = AreListed (entry l.nodes) l.listed (take l.place-index l.place-items) l.names.items
