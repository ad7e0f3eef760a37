use Rattle.std.proofs.Common.{rules, arith, ap, ◌∙◌, ◌≡◌, ◌<◌, ◌++◌, length, get_or, set, take, drop, map, List, []}
use Rattle.std.proofs.lemmas.List.{length-map}
use Rattle.fast_check_finder_lattice.specs.declared.lattice.node.Node.{Node}
use Rattle.fast_check_finder_lattice.specs.Order.{Entry}
use Rattle.fast_check_finder_lattice.specs.Graph.{listings}
use Rattle.fast_check_finder_lattice.specs.Numbers.{number, moved_entries}
use Rattle.fast_check_finder_lattice.proofs.Lists.{still, one_more, items_at, listings_set}
use Rattle.fast_check_finder_lattice.proofs.lattice.numbers.renumber_nodes.Goals as goal

pub loop-i-preserved : goal.loop-i-preserved
loop-i-preserved c =
    let ls = listings c.args.nodes.now.items in
    let node = c.index_mut-node.result.now in
    let i = c.loop-i.i in
    let here : i < length c.loop-i.nodes.items = search rules in
    let long = length-map c.args.nodes.now.items (λ (x : Node). x.names.items) in
    let within : i < length ls = omega (arith, c.args.nodes.now.ok.0, c.len-i-end.ensures, long) in
    let held : node.names.items ≡ get_or ls i [] = items_at c.loop-i.nodes.items i node here c.index_mut-node.ensures.value ∙
    (ap (λ (xs : List (List Entry)). get_or xs i []) c.loop-i.invariant ∙ still (moved_entries (number c.args.numbers.now)) ls i []
    within) in
    listings_set c.loop-i.nodes.items i _ ∙
    (ap (λ (xs : List (List Entry)). set xs i c.renumber_node.new.node.names.items) c.loop-i.invariant ∙
    (ap (λ (es : List Entry). set (map (moved_entries (number c.args.numbers.now)) (take i ls) ++ drop i ls) i es)
    (c.renumber_node.ensures ∙ ap (moved_entries (number c.args.numbers.now)) held) ∙
    one_more (moved_entries (number c.args.numbers.now)) ls i [] within))
