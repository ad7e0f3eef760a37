use Rattle.std.proofs.Common.{◌≡◌, ◌-◌, ◌+◌, length}
use Rattle.fast_check_finder_lattice.specs.Graph.{entry}
use Rattle.fast_check_finder_lattice.specs.Pairs.{pair_at}
use Rattle.fast_check_finder_lattice.proofs.Joined.{AreJoined}
use Rattle.fast_check_finder_lattice.proofs.lattice.joins.join_node.Given as goal

abbrev pub invariant-queue : goal.invariant-queue
invariant-queue l = record {
  count : length l.nodes.items ≡ l.i;
  are : AreJoined (entry l.old.nodes.now) (entry l.new.nodes.now) (length l.old.nodes.now) (length l.new.nodes.now)
      (record { first = l.old.no; second = l.new.no }) (pair_at l.queue.items) (length l.queue.items) l.i (entry l.nodes.items);
}

abbrev pub decreases-queue : goal.decreases-queue
decreases-queue l = length l.old.nodes.now + length l.new.nodes.now + 1 - l.i
