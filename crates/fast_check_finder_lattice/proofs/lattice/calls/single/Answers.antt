use Rattle.std.proofs.Common.{arith, ◌∙◌, ap, length, string_bytes}
use Rattle.fast_check_finder_lattice.specs.Graph.{entry, rooted}
use Rattle.fast_check_finder_lattice.specs.Names.{named, paths_below}
use Rattle.fast_check_finder_lattice.proofs.Roots.{root_same, root_tree}
use Rattle.fast_check_finder_lattice.proofs.Copies.{past_none, past_nothing}
use Rattle.fast_check_finder_lattice.proofs.Puts.{put_join, rooted_same}
use Rattle.fast_check_finder_lattice.proofs.Adds.{join_nothing}
use Rattle.fast_check_finder_lattice.proofs.lattice.calls.single.Goals as goal

pub put_below-requires-clause-tree : goal.put_below-requires-clause-tree
put_below-requires-clause-tree c =
    root_tree c.new-nodes.result.items c.push.new.self.items c.bare_node.result c.push.new.self.len (ap length c.new-nodes.ensures.items)
    c.in_ok-push.ensures.items c.bare_node.ensures (omega (arith, c.in_ok-push.ensures.len, c.new-nodes.ensures.len))

pub put_below-requires-clause-free : goal.put_below-requires-clause-free
put_below-requires-clause-free c =
    let none = ap length c.new-nodes.ensures.items in
    root_same c.new-nodes.result.items c.push.new.self.items c.bare_node.result none c.in_ok-push.ensures.items c.bare_node.ensures 0
    (string_bytes c.args.name) ∙
    past_none c.new-nodes.result.items 0 (omega (arith, none)) (string_bytes c.args.name)

pub returns : goal.returns
returns c =
    let none = ap length c.new-nodes.ensures.items in
    let bare = c.new-nodes.result.items in
    let g = entry c.push.new.self.items in
    let w = entry c.put_below.new.nodes.items in
    let name = string_bytes c.args.name in
    join_nothing (rooted g) (rooted w) (named name (paths_below c.args.exports))
    (λ part p. rooted_same (entry bare) g
    (root_same bare c.push.new.self.items c.bare_node.result none c.in_ok-push.ensures.items c.bare_node.ensures) part p ∙
    past_nothing bare 0 (omega (arith, none)) part p)
    (put_join g w c.push.new.self.len name (paths_below c.args.exports) (root_tree bare c.push.new.self.items c.bare_node.result c.push.new.self.len none c.in_ok-push.ensures.items c.bare_node.ensures
    (omega (arith, c.in_ok-push.ensures.len, c.new-nodes.ensures.len)))
    (omega (arith, c.in_ok-push.ensures.len)) c.in_ok-put_below.ensures.put)
