use Rattle.std.proofs.Common.{arith, ◌∙◌, ◌≡◌, ◌<◌, sym, ap, subst, length, string_bytes, Some, cond, List}
use Rattle.std.specs.Str.{bytes_eq}
use Rattle.fast_check_finder_lattice.specs.declared.lattice.node.Node.{Node}
use Rattle.fast_check_finder_lattice.specs.Graph.{HasRoom}
use Rattle.fast_check_finder_lattice.specs.Order.{Entry, found, IsAbsent}
use Rattle.fast_check_finder_lattice.proofs.Lists.{items_at, written_by}
use Rattle.fast_check_finder_lattice.proofs.Extends.{no_place, same_read}
use Rattle.fast_check_finder_lattice.proofs.Sorted.{node_once}
use Rattle.fast_check_finder_lattice.proofs.lattice.nodes.put_name.Goals as goal

pub list_name-requires-clause-absent : goal.list_name-requires-clause-absent
list_name-requires-clause-absent c =
    let nodes = c.args.nodes.now in
    let node = c.index_mut-node.result.now in
    let n = string_bytes c.args.name in
    let within : c.args.at < length nodes.items = omega (arith, nodes.ok.0, c.requires.within) in
    let none = ap (λ (es : List Entry). found es n) (items_at nodes.items c.args.at node within c.index_mut-node.ensures.value) ∙ c.requires.free in
    subst (λ (es : List Entry). IsAbsent es n) (sym c.move_into.ensures.items) (λ k w same. no_place node.names.items (node_once node) n k w same none)

pub list_name-requires-clause-names_room : goal.list_name-requires-clause-names_room
list_name-requires-clause-names_room c =
    let nodes = c.args.nodes.now in
    let node = c.index_mut-node.result.now in
    let within : c.args.at < length nodes.items = omega (arith, nodes.ok.0, c.requires.within) in
    let same = same_read nodes.items c.args.at node c.index-2.result.now within c.index_mut-node.ensures.value c.index-2.ensures in
    let room : HasRoom node.names 1 c.in_ok-names_room.names_room =
    subst (λ (x : Node). HasRoom x.names 1 c.in_ok-names_room.names_room) (sym same) c.in_ok-names_room.ensures in
    omega (arith, c.move_into.ensures.room 1 room, c.move_into.ensures.len)

pub list_name-requires-clause-sorted_room : goal.list_name-requires-clause-sorted_room
list_name-requires-clause-sorted_room c =
    let nodes = c.args.nodes.now in
    let node = c.index_mut-node.result.now in
    let within : c.args.at < length nodes.items = omega (arith, nodes.ok.0, c.requires.within) in
    let same = same_read nodes.items c.args.at node c.index-3.result.now within c.index_mut-node.ensures.value c.index-3.ensures in
    let room : HasRoom node.sorted 1 c.in_ok-sorted_room.sorted_room =
    subst (λ (x : Node). HasRoom x.sorted 1 c.in_ok-sorted_room.sorted_room) (sym same) c.in_ok-sorted_room.ensures in
    omega (arith, c.move_into-2.ensures.room 1 room, c.move_into-2.ensures.len)

pub returns-clause-written : goal.returns-clause-written
returns-clause-written c =
    let nodes = c.args.nodes.now in
    let node = c.index_mut-node.result.now in
    let n = string_bytes c.args.name in
    written_by nodes.items c.args.at node c.list_name.new.node n (Some c.args.below)
    (omega (arith, nodes.ok.0, c.requires.within)) c.index_mut-node.ensures.value
    (λ m. subst (λ (es : List Entry). found c.list_name.new.node.names.items m ≡ cond (bytes_eq n m) (Some c.args.below) (found es m)) c.move_into.ensures.items
    (c.list_name.ensures m))
