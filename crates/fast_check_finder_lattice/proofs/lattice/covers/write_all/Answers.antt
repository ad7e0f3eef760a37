use Rattle.std.proofs.Common.{arith, ap, ◌∙◌, ◌<◌, sym, length, Some}
use Rattle.fast_check_finder_lattice.specs.declared.lattice.node.Below.TheVariants.{All}
use Rattle.fast_check_finder_lattice.specs.Order.{found, names_in}
use Rattle.fast_check_finder_lattice.proofs.Places.{names_set, read_name, found_set, found_none, once_before}
use Rattle.fast_check_finder_lattice.proofs.Sorted.{order_along, node_once}
use Rattle.fast_check_finder_lattice.proofs.Lists.{written_by, items_at}
use Rattle.fast_check_finder_lattice.proofs.Puts.{not_none}
use Rattle.fast_check_finder_lattice.proofs.lattice.covers.write_all.Goals as goal

pub invariant_of-node : goal.invariant_of-node
invariant_of-node c =
    let node = c.index_mut-node.result.now in
    let es = node.names.items in
    let place = c.in-Some.ensures in
    let name = read_name es c.in-Some.place c.index_mut.result.now place.0 c.index_mut.ensures.value in
    record {
      order = order_along _ (names_in es) node.sorted.items (names_set es c.in-Some.place (c.index_mut.result.now.0, All) name) node.order;
    }

pub returns-in-Some-clause-written : goal.returns-in-Some-clause-written
returns-in-Some-clause-written c =
    let node = c.index_mut-node.result.now in
    let place = c.in-Some.ensures in
    written_by c.args.nodes.now.items c.args.at node _ c.args.name.now (Some All) (omega (arith, c.args.nodes.now.ok.0, c.requires.within))
    c.index_mut-node.ensures.value
    (λ m. found_set node.names.items c.args.name.now c.in-Some.place c.index_mut.result.now.0 All m place.0 place.1
    (read_name node.names.items c.in-Some.place c.index_mut.result.now place.0 c.index_mut.ensures.value ∙ place.1)
    (once_before node.names.items (node_once node) c.args.name.now c.in-Some.place place.0 place.1))

pub returns-in-None-clause-written : goal.returns-in-None-clause-written
returns-in-None-clause-written c =
    let nodes = c.args.nodes.now.items in
    let node = c.index_mut-node.result.now in
    let within : c.args.at < length nodes = omega (arith, c.args.nodes.now.ok.0, c.requires.within) in
    absurd (not_none _ c.requires.listed
    (ap (λ es. found es c.args.name.now) (sym (items_at nodes c.args.at node within c.index_mut-node.ensures.value)) ∙
    found_none node.names.items c.args.name.now c.in-None.ensures))
