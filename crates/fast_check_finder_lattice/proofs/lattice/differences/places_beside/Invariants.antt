use Rattle.std.proofs.Common.{◌≡◌, length, vec_len}
use Rattle.fast_check_finder_lattice.specs.Graph.{entry}
use Rattle.fast_check_finder_lattice.proofs.Beside.{IsNoting}
use Rattle.fast_check_finder_lattice.proofs.lattice.differences.places_beside.Given as goal

abbrev pub invariant-loop-at : goal.invariant-loop-at
invariant-loop-at l = record {
  len : vec_len l.places ≡ length l.nodes;
  noting : IsNoting (entry l.old) (entry l.nodes) l.at l.places.items;
}
