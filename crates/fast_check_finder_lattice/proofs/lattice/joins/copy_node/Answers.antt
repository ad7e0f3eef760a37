use Rattle.std.proofs.Common.{arith, ◌∙◌, ◌≤◌, sym, length, []}
use Rattle.fast_check_finder_lattice.specs.Graph.{entry, below_node}
use Rattle.fast_check_finder_lattice.specs.Names.{paths}
use Rattle.fast_check_finder_lattice.proofs.Copies.{past_nothing}
use Rattle.fast_check_finder_lattice.proofs.Adds.{join_with_nothing}
use Rattle.fast_check_finder_lattice.proofs.Puts.{if_ok_from}
use Rattle.fast_check_finder_lattice.proofs.lattice.joins.copy_node.Goals as goal

pub returns-then-at-nodes : goal.returns-then-at-nodes
returns-then-at-nodes c =
    let past : length c.args.nodes.now ≤ c.args.at = omega arith in
    λ part p. c.default.ensures part p ∙ sym (past_nothing c.args.nodes.now c.args.at past part p)

pub returns : goal.returns
returns c = if_ok_from c.join_node.result
    (λ copy joined. join_with_nothing (below_node (entry c.args.nodes.now) c.args.at) (below_node (entry []) 0) (paths copy) (past_nothing [] 0 (omega arith)) joined)
    c.join_node.ensures
