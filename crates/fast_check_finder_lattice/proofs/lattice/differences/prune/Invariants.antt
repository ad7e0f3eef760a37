use Rattle.std.proofs.Common.{◌≡◌, ◌≤◌, vec_len}
use Rattle.fast_check_finder_lattice.specs.Graph.{entry, listings}
use Rattle.fast_check_finder_lattice.proofs.Pruned.{IsPruning}
use Rattle.fast_check_finder_lattice.proofs.lattice.differences.prune.Given as goal

abbrev pub invariant-nodes : goal.invariant-nodes
invariant-nodes l = record {
  len : vec_len l.nodes ≡ vec_len l.initial.nodes;
  upto : l.left ≤ vec_len l.nodes;
  pruning : IsPruning (entry l.old) l.places (entry l.initial.nodes.items) l.left (listings l.nodes.items);
}

abbrev pub decreases-nodes : goal.decreases-nodes
decreases-nodes l = l.left
