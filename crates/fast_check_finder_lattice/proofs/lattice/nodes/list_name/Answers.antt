use Rattle.std.proofs.Common.{arith, ◌∙◌, ◌≡◌, ◌++◌, ◌∷◌, [], ap, true, is_ok}
use Rattle.std.specs.List.{insert}
use Rattle.fast_check_finder_lattice.specs.Order.{Entry, found}
use Rattle.fast_check_finder_lattice.proofs.Places.{found_push}
use Rattle.fast_check_finder_lattice.proofs.Sorted.{entry_put, gap_seen}
use Rattle.fast_check_finder_lattice.proofs.lattice.nodes.list_name.Goals as goal

pub invariant_of-node : goal.invariant_of-node
invariant_of-node c =
    let node = c.args.node.now in
    let es = node.names.items in
    let ks = node.sorted.items in
    let e : Entry = (c.args.name, c.args.below) in
    let at = c.slot-at.result in
    let pushed : is_ok c.push.result ≡ true = c.push.ensures.succeeds (omega (arith, c.requires.names_room)) in
    let put : is_ok c.insert.result ≡ true = c.insert.ensures.succeeds (omega (arith, c.requires.sorted_room)) in
    let items : c.push.new.self.items ≡ es ++ e ∷ [] = rw (c.push.ensures.items, pushed) in
    let places : c.insert.new.self.items ≡ insert ks at c.args.place = rw (c.insert.ensures.items, put) in
    record {
      order = entry_put es c.push.new.self.items ks c.insert.new.self.items e at c.args.place node.order
          (gap_seen es c.as_slice.result.now ks c.as_slice-2.result.now _ c.as_str.result.now at c.as_slice.ensures.value
          c.as_slice-2.ensures.value c.as_str.ensures.value c.slot-at.ensures)
          items places (omega (arith, c.requires.place, node.names.ok.0));
    }

pub returns : goal.returns
returns c = λ n.
    let es = c.args.node.now.names.items in
    let e : Entry = (c.args.name, c.args.below) in
    let pushed : is_ok c.push.result ≡ true = c.push.ensures.succeeds (omega (arith, c.requires.names_room)) in
    let items : c.push.new.self.items ≡ es ++ e ∷ [] = rw (c.push.ensures.items, pushed) in
    ap (λ xs. found xs n) items ∙ found_push es e n c.requires.absent
