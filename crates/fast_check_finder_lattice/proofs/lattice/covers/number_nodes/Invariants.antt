use Rattle.fast_check_finder_lattice.specs.Graph.{entry}
use Rattle.fast_check_finder_lattice.proofs.Numbers.{IsNumbering}
use Rattle.fast_check_finder_lattice.proofs.lattice.covers.number_nodes.Given as goal

abbrev pub invariant-loop-at : goal.invariant-loop-at
invariant-loop-at l = IsNumbering (entry l.nodes) l.gone l.at l.next l.numbers.items
