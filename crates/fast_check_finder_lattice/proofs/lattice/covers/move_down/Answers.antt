use Rattle.std.proofs.Common.{arith, rules, ap, sym, ◌∙◌, ◌≡◌, ℕ, vec_len}
use Rattle.fast_check_finder_lattice.specs.Graph.{listings}
use Rattle.fast_check_finder_lattice.specs.Numbers.{stays, rank}
use Rattle.fast_check_finder_lattice.proofs.Numbers.{next_upto, moving_swap, moving_end}
use Rattle.fast_check_finder_lattice.proofs.lattice.covers.move_down.Goals as goal

pub swap-requires-clause-i_in_bounds : goal.swap-requires-clause-i_in_bounds
swap-requires-clause-i_in_bounds c =
    let upto = next_upto (stays c.args.numbers.now) c.args.nodes.now.len c.loop-i.i c.loop-i.next (listings c.args.nodes.now.items)
    c.loop-i.nodes.items c.loop-i.invariant in
    let same : vec_len c.loop-i.nodes ≡ vec_len c.args.nodes.now = search rules in
    omega (arith, upto, same, c.loop-i-test.true, c.len-i-end.ensures)

pub overflow_add-next : goal.overflow_add-next
overflow_add-next c =
    let upto = next_upto (stays c.args.numbers.now) c.args.nodes.now.len c.loop-i.i c.loop-i.next (listings c.args.nodes.now.items)
    c.loop-i.nodes.items c.loop-i.invariant in
    omega (arith, upto, c.loop-i-test.true, c.len-i-end.ensures)

pub loop-i-preserved : goal.loop-i-preserved
loop-i-preserved c =
    let same : vec_len c.loop-i.nodes ≡ vec_len c.args.nodes.now = search rules in
    moving_swap (stays c.args.numbers.now) c.args.nodes.now.len c.loop-i.i c.loop-i.next (listings c.args.nodes.now.items)
    c.loop-i.nodes.items c.loop-i.invariant c.swap.new.self.items (sym c.is_staying.ensures ∙ c.if-not-is_staying.false)
    (omega (arith, c.loop-i-test.true, c.len-i-end.ensures)) (omega (arith, same, c.loop-i.nodes.ok.0))
    (omega (arith, same, c.swap.ensures.len, c.swap.new.self.ok.0)) c.swap.ensures.by_index

pub returns-clause-len : goal.returns-clause-len
returns-clause-len c =
    let f = stays c.args.numbers.now in
    let size = c.args.nodes.now.len in
    let upto = next_upto f size c.loop-i.i c.loop-i.next (listings c.args.nodes.now.items) c.loop-i.nodes.items c.loop-i.invariant in
    let same : vec_len c.loop-i.nodes ≡ vec_len c.args.nodes.now = search rules in
    let end : c.loop-i.i ≡ size = omega (arith, c.loop-i-test.false, c.loop-i.auto.i-end, c.len-i-end.ensures) in
    let next : c.loop-i.next ≡ rank f size = c.loop-i.invariant.next_is ∙ ap (λ (m : ℕ). rank f m) end in
    omega (arith, next, upto, end, same, c.truncate.ensures.len)

pub returns-clause-moved : goal.returns-clause-moved
returns-clause-moved c =
    moving_end (stays c.args.numbers.now) c.args.nodes.now.len c.loop-i.i c.loop-i.next (listings c.args.nodes.now.items)
    c.loop-i.nodes.items c.loop-i.invariant c.truncate.new.self.items (omega (arith, c.loop-i-test.false, c.len-i-end.ensures))
    c.truncate.ensures.items
