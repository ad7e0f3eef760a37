use Rattle.std.proofs.Common.{rules, arith, ◌≡◌, ◌∙◌, ◌<◌, ap, length, set, List, []}
use Rattle.std.specs.List.{filter}
use Rattle.std.proofs.lemmas.Fn.{filter_same}
use Rattle.std.proofs.lemmas.List.{set-set}
use Rattle.fast_check_finder_lattice.specs.declared.lattice.node.Node.{Node}
use Rattle.fast_check_finder_lattice.specs.Order.{Entry, names_in}
use Rattle.fast_check_finder_lattice.specs.Graph.{entry, listings}
use Rattle.fast_check_finder_lattice.specs.Pruned.{under, has_names, lacks_at}
use Rattle.fast_check_finder_lattice.proofs.Lists.{items_at, listings_set}
use Rattle.fast_check_finder_lattice.proofs.Places.{once_along}
use Rattle.fast_check_finder_lattice.proofs.Sorted.{node_once}
use Rattle.fast_check_finder_lattice.proofs.Marked.{once_filter}
use Rattle.fast_check_finder_lattice.proofs.lattice.differences.prune_node.Goals as goal

pub node_of-requires : goal.node_of-requires
node_of-requires c =
    let es = c.replace.result.names.items in
    let test = lacks_at (has_names (listings c.as_slice-others.result.now)) (under (entry c.args.old.now) c.args.place) in
    let kept = filter_same _ test _ (λ x b f' k. search rules) _ _ c.retain.ensures.filtered in
    once_along c.retain.new.self.items (filter test es) (ap names_in kept) (once_filter test es (node_once c.replace.result))

pub returns-clause-kept : goal.returns-clause-kept
returns-clause-kept c =
    let nodes = c.args.nodes.now.items in
    let at = c.args.at in
    let bare = c.replace.new.dest in
    let node = c.index_mut.result.now in
    let held = under (entry c.args.old.now) c.args.place in
    let within : at < length nodes = omega (arith, c.requires, c.args.nodes.now.ok.0) in
    let kept = filter_same _ (lacks_at (has_names (listings c.as_slice-others.result.now)) held) _ (λ x b f' k. search rules) _ _
    c.retain.ensures.filtered in
    let none : bare.names.items ≡ [] = ap (λ (x : Node). x.names.items) c.replace.ensures.after ∙ c.bare_node.ensures in
    let others : listings c.as_slice-others.result.now ≡ set (listings nodes) at [] =
    ap listings c.as_slice-others.ensures.value ∙ (listings_set nodes at bare ∙ ap (λ (es : List Entry). set (listings nodes) at es) none) in
    listings_set (set nodes at bare) at c.in_ok-nodes.field-0 ∙
    (ap (λ (ls : List (List Entry)). set ls at c.in_ok-nodes.field-0.names.items) (listings_set nodes at bare) ∙
    (set-set (listings nodes) at bare.names.items c.in_ok-nodes.field-0.names.items ∙
    ap (λ (es : List Entry). set (listings nodes) at es)
    (c.in_ok-nodes.ensures ∙ (kept ∙
    (ap (λ (ls : List (List Entry)). filter (lacks_at (has_names ls) held) c.replace.result.names.items) others ∙
    ap (λ (es : List Entry). filter (lacks_at (has_names (set (listings nodes) at [])) held) es)
    (ap (λ (x : Node). x.names.items) c.replace.ensures.value ∙ items_at nodes at node within c.index_mut.ensures.value))))))
