use Rattle.std.proofs.Common.{rules, arith, ◌≡◌, ◌∙◌, ◌<◌, ◌≤◌, sym, length, get_or, []}
use Rattle.std.proofs.lemmas.List.{get_or_past, length-map}
use Rattle.fast_check_finder_lattice.specs.declared.lattice.node.Node.{Node}
use Rattle.fast_check_finder_lattice.specs.Graph.{listings}
use Rattle.fast_check_finder_lattice.proofs.Lists.{items_at}
use Rattle.fast_check_finder_lattice.proofs.Sorted.{node_once}
use Rattle.fast_check_finder_lattice.proofs.lattice.nodes.names_of.Goals as goal

pub returns-in-None-clause-names : goal.returns-in-None-clause-names
returns-in-None-clause-names c =
    let nodes = c.args.nodes.now in
    let past : length nodes ≤ c.args.at = search rules in
    sym (get_or_past (listings nodes) c.args.at [] (omega (arith, past, length-map nodes (λ (x : Node). x.names.items))))

pub returns-in-Some-clause-names : goal.returns-in-Some-clause-names
returns-in-Some-clause-names c =
    let nodes = c.args.nodes.now in
    let node = c.in-Some.node.now in
    let within : c.args.at < length nodes = search rules in
    let is : node ≡ get_or nodes c.args.at node = search rules in
    c.as_slice.ensures.value ∙ items_at nodes c.args.at node within is

pub returns-in-Some-clause-once : goal.returns-in-Some-clause-once
returns-in-Some-clause-once c = rw c.as_slice.ensures.value (node_once c.in-Some.node.now)
