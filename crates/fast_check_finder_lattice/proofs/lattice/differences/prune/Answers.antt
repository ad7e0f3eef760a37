use Rattle.std.proofs.Common.{arith, ◌∙◌, ◌-◌}
use Rattle.std.proofs.lemmas.List.{length-map}
use Rattle.fast_check_finder_lattice.specs.declared.lattice.node.Node.{Node}
use Rattle.fast_check_finder_lattice.specs.Graph.{entry, listings}
use Rattle.fast_check_finder_lattice.proofs.Lists.{once_at}
use Rattle.fast_check_finder_lattice.proofs.Pruned.{one_pruned}
use Rattle.fast_check_finder_lattice.proofs.lattice.differences.prune.Goals as goal

pub prune_node-requires : goal.prune_node-requires
prune_node-requires c = omega (arith, c.nodes.invariant.upto, c.nodes-test.true)

pub nodes-preserved : goal.nodes-preserved
nodes-preserved c =
    let nodes = c.nodes.nodes in
    let at = c.nodes.left - 1 in
    let long = length-map nodes.items (λ (x : Node). x.names.items) in
    record {
      len = c.prune_node.ensures.len ∙ c.nodes.invariant.len;
      upto = omega (arith, c.prune_node.ensures.len, c.nodes.invariant.upto);
      pruning = one_pruned (entry c.args.old.now) c.args.places.now (entry c.args.nodes.now.items) c.args.nodes.now.len
          c.nodes.left at (listings nodes.items) (listings c.prune_node.new.nodes.items) c.requires.tree c.nodes.invariant.pruning
          (omega (arith, c.nodes-test.true)) (omega (arith, c.nodes-test.true, c.nodes.invariant.upto, nodes.ok.0, long))
          (once_at nodes.items at) (rw c.noted.ensures at c.in_ok-prune_node.ensures.kept);
    }
