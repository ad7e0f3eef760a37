use Rattle.std.proofs.Common.{rules, ◌≡◌, ◌∙◌, ◌<◌, sym, ap, length, get_or, Some}
use Rattle.fast_check_finder_lattice.specs.Order.{Entry, found}
use Rattle.fast_check_finder_lattice.proofs.Places.{found_first, found_none, once_before}
use Rattle.fast_check_finder_lattice.proofs.Lists.{items_at}
use Rattle.fast_check_finder_lattice.proofs.Sorted.{node_once}
use Rattle.fast_check_finder_lattice.proofs.lattice.nodes.find_at.Goals as goal

pub returns-in-Some-place_of : goal.returns-in-Some-place_of
returns-in-Some-place_of c =
    let node = c.in-Some.node.now in
    let within : c.args.at < length c.args.nodes.now = search rules in
    let is : node ≡ get_or c.args.nodes.now c.args.at node = search rules in
    let place = c.in-Some-place_of.ensures in
    sym (ap (λ es. found es c.args.name.now) (sym (items_at c.args.nodes.now c.args.at node within is)) ∙
    (found_first node.names.items c.args.name.now c.in-Some-place_of.place c.index.result.now place.0 place.1
    (once_before node.names.items (node_once node) c.args.name.now c.in-Some-place_of.place place.0 place.1)
    ∙ ap (λ (e : Entry). Some e.1) (sym c.index.ensures)))

pub returns-in-None : goal.returns-in-None
returns-in-None c =
    let node = c.in-Some.node.now in
    let within : c.args.at < length c.args.nodes.now = search rules in
    let is : node ≡ get_or c.args.nodes.now c.args.at node = search rules in
    sym (ap (λ es. found es c.args.name.now) (sym (items_at c.args.nodes.now c.args.at node within is)) ∙
    found_none node.names.items c.args.name.now c.in-None.ensures)
