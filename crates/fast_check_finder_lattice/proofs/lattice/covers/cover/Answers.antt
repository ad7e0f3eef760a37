use Rattle.std.proofs.Common.{arith}
use Rattle.fast_check_finder_lattice.specs.declared.lattice.node.NodeNo.{NodeNo}
use Rattle.fast_check_finder_lattice.proofs.Covers.{tree_left, added_left}
use Rattle.fast_check_finder_lattice.proofs.lattice.covers.cover.Goals as goal

pub returns-clause-tree : goal.returns-clause-tree
returns-clause-tree c =
    let no : NodeNo = record { 0 = c.args.no } in
    let all = c.move_down.new.nodes in
    let without = rw c.as_slice.ensures.value at c.in_ok-numbers.ensures.without in
    let renumbered = rw c.as_slice-2.ensures.value at c.renumber_nodes.ensures.renumbered in
    let down = rw c.as_slice-3.ensures.value at c.move_down.ensures.moved in
    let len_is = rw c.as_slice-3.ensures.value at c.move_down.ensures.len in
    tree_left c.args.nodes.now.items c.write_all.new.nodes.items c.renumber_nodes.new.nodes.items all.items c.args.nodes.now.len
    c.renumber_nodes.new.nodes.len all.len c.args.at c.args.name.now no c.in_ok-numbers.numbers.items c.requires.tree c.requires.listed
    without c.in_ok-numbers.ensures.ranks c.write_all.ensures.written renumbered
    (omega (arith, c.renumber_nodes.ensures.len, c.write_all.ensures.len)) down len_is (omega (arith, all.ok.0))

pub returns-clause-added : goal.returns-clause-added
returns-clause-added c =
    let no : NodeNo = record { 0 = c.args.no } in
    let all = c.move_down.new.nodes in
    let without = rw c.as_slice.ensures.value at c.in_ok-numbers.ensures.without in
    let renumbered = rw c.as_slice-2.ensures.value at c.renumber_nodes.ensures.renumbered in
    let down = rw c.as_slice-3.ensures.value at c.move_down.ensures.moved in
    let len_is = rw c.as_slice-3.ensures.value at c.move_down.ensures.len in
    added_left c.args.nodes.now.items c.write_all.new.nodes.items c.renumber_nodes.new.nodes.items all.items c.args.nodes.now.len
    c.renumber_nodes.new.nodes.len all.len c.args.at c.args.name.now no c.in_ok-numbers.numbers.items c.requires.tree c.requires.listed
    without c.in_ok-numbers.ensures.ranks c.write_all.ensures.written renumbered
    (omega (arith, c.renumber_nodes.ensures.len, c.write_all.ensures.len)) down len_is (omega (arith, all.ok.0))
