use Rattle.std.proofs.Common.{arith, ap, List}
use Rattle.fast_check_finder_lattice.specs.declared.lattice.node.Node.{Node}
use Rattle.fast_check_finder_lattice.specs.Graph.{entry, listings}
use Rattle.fast_check_finder_lattice.proofs.Puts.{tree_along}
use Rattle.fast_check_finder_lattice.proofs.Roots.{none_there, root_same, root_tree}
use Rattle.fast_check_finder_lattice.proofs.lattice.nodes.put_root.Goals as goal

pub returns-in_err-push-clause-same : goal.returns-in_err-push-clause-same
returns-in_err-push-clause-same c = λ k n. ap (λ (ns : List Node). entry ns k n) c.in_err-push.ensures.items

pub returns-in_err-push-clause-tree : goal.returns-in_err-push-clause-tree
returns-in_err-push-clause-tree c =
    tree_along c.args.nodes.now.items c.push.new.self.items c.args.nodes.now.len c.push.new.self.len
    (ap listings c.in_err-push.ensures.items) c.in_err-push.ensures.len c.requires

pub returns-in_ok-push-clause-some : goal.returns-in_ok-push-clause-some
returns-in_ok-push-clause-some c = omega (arith, c.in_ok-push.ensures.len)

pub returns-in_ok-push-clause-same : goal.returns-in_ok-push-clause-same
returns-in_ok-push-clause-same c =
    let none = none_there c.args.nodes.now c.if-is_empty.ensures in
    root_same c.args.nodes.now.items c.push.new.self.items _ none c.in_ok-push.ensures.items c.bare_node.ensures

pub returns-in_ok-push-clause-tree : goal.returns-in_ok-push-clause-tree
returns-in_ok-push-clause-tree c =
    let none = none_there c.args.nodes.now c.if-is_empty.ensures in
    root_tree c.args.nodes.now.items c.push.new.self.items _ c.push.new.self.len none c.in_ok-push.ensures.items c.bare_node.ensures
    (omega (arith, none, c.args.nodes.now.ok.0, c.in_ok-push.ensures.len))
