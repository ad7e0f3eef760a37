use Rattle.std.proofs.Common.{arith, ◌∙◌, ◌≡◌, ◌+◌, ◌++◌, ap, subst, length, string_bytes, true, is_ok, ℕ, List}
use Rattle.fast_check_finder_lattice.specs.declared.lattice.node.Node.{Node}
use Rattle.fast_check_finder_lattice.specs.Graph.{entry, IsGraft}
use Rattle.fast_check_finder_lattice.specs.Numbers.{AreBehind}
use Rattle.fast_check_finder_lattice.proofs.Lists.{grafts}
use Rattle.fast_check_finder_lattice.proofs.Extends.{room_along}
use Rattle.fast_check_finder_lattice.proofs.Covers.{behind_shifted}
use Rattle.fast_check_finder_lattice.proofs.lattice.nodes.graft.Goals as goal

pub returns-clause-len : goal.returns-clause-len
returns-clause-len c =
    let room = room_along c.args.nodes.now c.put_name.new.nodes c.len-2.result c.in_ok-room.room c.in_ok-put_name.ensures.len
    c.in_ok-put_name.ensures.room c.in_ok-room.ensures in
    let ok : is_ok c.append.result ≡ true = c.append.ensures.succeeds
    (omega (arith, c.move_into.ensures.room c.len-2.result room, c.move_into.ensures.len, c.renumber_nodes.ensures.len, c.len-2.ensures)) in
    let len : c.append.new.self.len ≡ c.move_into.new.items.len + c.renumber_nodes.new.nodes.len = rw (c.append.ensures.len, ok) in
    omega (arith, len, c.move_into.ensures.len, c.in_ok-put_name.ensures.len, c.renumber_nodes.ensures.len)

pub returns-clause-graft : goal.returns-clause-graft
returns-clause-graft c =
    let nodes = c.args.nodes.now in
    let named = c.put_name.new.nodes in
    let name = string_bytes c.args.name in
    let room = room_along nodes named c.len-2.result c.in_ok-room.room c.in_ok-put_name.ensures.len c.in_ok-put_name.ensures.room
    c.in_ok-room.ensures in
    let ok : is_ok c.append.result ≡ true = c.append.ensures.succeeds
    (omega (arith, c.move_into.ensures.room c.len-2.result room, c.move_into.ensures.len, c.renumber_nodes.ensures.len, c.len-2.ensures)) in
    let items : c.append.new.self.items ≡ c.move_into.new.items.items ++ c.renumber_nodes.new.nodes.items = rw (c.append.ensures.items, ok) in
    let first : c.len-first.result ≡ length nodes.items = omega (arith, c.len-first.ensures, nodes.ok.0) in
    subst (λ (m : ℕ). IsGraft (entry nodes.items) m c.args.at name (entry c.args.tree.items) (entry c.append.new.self.items)) c.len-first.ensures
    (grafts nodes.items named.items c.args.tree.items c.renumber_nodes.new.nodes.items c.append.new.self.items c.len-first.result c.args.at name
    first (omega (arith, c.in_ok-put_name.ensures.len, named.ok.0, nodes.ok.0)) c.in_ok-put_name.ensures.written (behind_shifted c.args.tree.items c.renumber_nodes.new.nodes.items c.len-first.result c.args.tree.len c.in_ok-numbers.numbers.items c.requires.tree
    (subst (λ (m : ℕ). AreBehind c.len-first.result m c.in_ok-numbers.numbers.items) c.len.ensures c.in_ok-numbers.ensures) (rw c.as_slice.ensures.value at c.renumber_nodes.ensures.renumbered))
    (items ∙ ap (λ (ns : List Node). ns ++ c.renumber_nodes.new.nodes.items) c.move_into.ensures.items))
