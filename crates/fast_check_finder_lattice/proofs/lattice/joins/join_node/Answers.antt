use Rattle.std.proofs.Common.{rules, arith, ◌≡◌, ◌≤◌, ◌+◌, ◌∙◌, sym, subst, ap, ℕ, length, vec_len, List}
use Rattle.std.proofs.lemmas.List.{length_push}
use Rattle.fast_check_finder_lattice.specs.declared.lattice.node.Node.{Node}
use Rattle.fast_check_finder_lattice.specs.declared.lattice.joins.Pair.{Pair}
use Rattle.fast_check_finder_lattice.specs.Order.{Entry, found}
use Rattle.fast_check_finder_lattice.specs.Graph.{entry, IsTree}
use Rattle.fast_check_finder_lattice.specs.Pairs.{pair_at, both, IsMade}
use Rattle.fast_check_finder_lattice.proofs.Copies.{past_none}
use Rattle.fast_check_finder_lattice.proofs.Apart.{next_place, next_item}
use Rattle.fast_check_finder_lattice.proofs.Joined.{pair_queued, next_joined, pairs_bound, tree_joined, same_joined}
use Rattle.fast_check_finder_lattice.proofs.lattice.joins.join_node.Goals as goal

pub queue-init : goal.queue-init
queue-init c = record {
  count = ap length c.new-nodes.ensures.items;
  are = pair_queued (entry c.args.old.nodes.now) (entry c.args.new.nodes.now) (length c.args.old.nodes.now) (length c.args.new.nodes.now)
      (record { first = c.args.old.no; second = c.args.new.no }) c.push.new.self.items c.new-queue.result.items
      (entry c.new-nodes.result.items) c.new-queue.ensures.items c.in_ok-push.ensures.items;
}

pub queue-smaller : goal.queue-smaller
queue-smaller c =
    let old = c.args.old.nodes.now in
    let new = c.args.new.nodes.now in
    let queue = c.queue.queue.items in
    let bound : length queue ≤ length old + length new + 1 =
    pairs_bound (entry old) (entry new) (entry c.queue.nodes.items) (length old) (length new) c.queue.i (length queue)
    (record { first = c.args.old.no; second = c.args.new.no }) (pair_at queue)
    c.requires.old_forest c.requires.new_forest
    c.queue.invariant.are in
    let next = next_place c.queue.queue c.queue.i c.len.result c.len.ensures c.queue-test.true in omega (arith, bound, next)

pub queue-preserved : goal.queue-preserved
queue-preserved c =
    let g = entry c.args.old.nodes.now in
    let h = entry c.args.new.nodes.now in
    let a = length c.args.old.nodes.now in
    let b = length c.args.new.nodes.now in
    let queue = c.queue.queue.items in
    let nodes = c.queue.nodes.items in
    let node : Node = c.in_ok-node_of.field-0 in
    let next = next_place c.queue.queue c.queue.i c.len.result c.len.ensures c.queue-test.true in
    let named : IsMade queue c.joined_names.new.queue.items (found node.names.items)
    (λ n. both a b (g c.index-pair.result.now.first n) (h c.index-pair.result.now.second n)) =
    subst (λ (es : List Entry). IsMade queue c.joined_names.new.queue.items (found es)
    (λ n. both a b (g c.index-pair.result.now.first n) (h c.index-pair.result.now.second n))) (sym c.in_ok-node_of.ensures)
    c.in_ok-names.ensures.made in
    let made : IsMade queue c.joined_names.new.queue.items (found node.names.items)
    (λ n. both a b (g (pair_at queue c.queue.i).first n) (h (pair_at queue c.queue.i).second n)) =
    subst (λ (x : Pair). IsMade queue c.joined_names.new.queue.items (found node.names.items) (λ n. both a b (g x.first n) (h x.second n)))
    (next_item queue c.queue.i c.index-pair.result.now (record { first = 0; second = 0 }) next c.index-pair.ensures) named in
    rw c.in_ok-push-2.ensures.items
    (record {
      count = length_push nodes node ∙ ap (λ k. k + 1) c.queue.invariant.count;
      are = next_joined g h a b (record { first = c.args.old.no; second = c.args.new.no }) nodes queue c.joined_names.new.queue.items c.queue.i
          node c.queue.invariant.are c.queue.invariant.count next made;
    })

pub invariant_of-result : goal.invariant_of-result
invariant_of-result c =
    let old = c.args.old.nodes.now in
    let new = c.args.new.nodes.now in
    let queue = c.queue.queue.items in
    let nodes = c.queue.nodes.items in
    let done : length queue ≤ c.queue.i = search rules in
    let within = c.queue.invariant.are.within in
    let same : length queue ≡ vec_len c.queue.nodes = omega (arith, done, within, c.queue.invariant.count, c.queue.nodes.ok.0) in
    record {
      tree = subst (λ (m : ℕ). IsTree (entry nodes) m) same
          (tree_joined (entry old) (entry new) (entry nodes) (length old) (length new) c.queue.i (length queue)
          (record { first = c.args.old.no; second = c.args.new.no }) (pair_at queue)
          c.requires.old_forest c.requires.new_forest
          c.queue.invariant.are done (λ k n h. past_none nodes k (omega (arith, h, c.queue.invariant.count)) n)
          (past_none old (length old) (omega arith)) (past_none new (length new) (omega arith)));
    }

pub returns : goal.returns
returns c =
    let old = c.args.old.nodes.now in
    let new = c.args.new.nodes.now in
    let queue = c.queue.queue.items in
    let nodes = c.queue.nodes.items in
    let done : length queue ≤ c.queue.i = search rules in
    same_joined (entry old) (entry new) (entry nodes) (length old) (length new) c.queue.i (length queue)
    (record { first = c.args.old.no; second = c.args.new.no }) (pair_at queue)
    c.requires.old_forest c.requires.new_forest
    c.queue.invariant.are done (λ k n h. past_none nodes k (omega (arith, h, c.queue.invariant.count)) n)
    (past_none old (length old) (omega arith)) (past_none new (length new) (omega arith))
