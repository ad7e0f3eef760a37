use Rattle.std.proofs.Common.{◌-◌, ◌+◌, ◌≤◌, length}
use Rattle.fast_check_finder_lattice.specs.Graph.{entry}
use Rattle.fast_check_finder_lattice.proofs.Made.{AreListed}
use Rattle.fast_check_finder_lattice.proofs.lattice.joins.joined_names.Given as goal

abbrev pub invariant-names : goal.invariant-names
invariant-names l = record {
  i_within : l.i ≤ length l.first;
  j_within : l.j ≤ length l.second;
  listed : AreListed (length l.old.nodes.now) (length l.new.nodes.now) l.first l.second (entry l.new.nodes.now l.new.no)
      l.initial.queue.items l.queue.items l.names.items l.i l.j;
}

abbrev pub decreases-names : goal.decreases-names
decreases-names l = (length l.first - l.i) + (length l.second - l.j)
