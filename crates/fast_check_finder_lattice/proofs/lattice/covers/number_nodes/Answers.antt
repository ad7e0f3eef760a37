use Rattle.std.proofs.Common.{arith, rules, ap, sym, ◌∙◌, ◌≡◌, ℕ, Option, List, length, vec_len}
use Rattle.fast_check_finder_lattice.specs.Order.{Entry, found}
use Rattle.fast_check_finder_lattice.specs.Graph.{entry}
use Rattle.fast_check_finder_lattice.specs.Numbers.{stays, lists_node}
use Rattle.fast_check_finder_lattice.proofs.Numbers.{numbering_none, numbering_without, rank_upto, numbering_past, numbering_more, numbering_ranks}
use Rattle.fast_check_finder_lattice.proofs.Numbers.{listed_node, unlisted}
use Rattle.fast_check_finder_lattice.proofs.lattice.covers.number_nodes.Goals as goal

pub loop-at-init : goal.loop-at-init
loop-at-init c =
    let long : length c.args.numbers.now.items ≡ length c.args.nodes.now = omega (arith, c.requires.len, c.args.numbers.now.ok.0) in
    numbering_none (entry c.args.nodes.now) (length c.args.nodes.now) c.args.gone c.args.numbers.now.items c.requires.tree
    c.requires.within long c.requires.all

pub returns-clause-without : goal.returns-clause-without
returns-clause-without c =
    numbering_without (entry c.args.nodes.now) (length c.args.nodes.now) c.args.gone c.loop-at.at c.loop-at.next
    c.loop-at.numbers.items c.requires.tree c.loop-at-test.false c.loop-at.invariant

pub overflow_add-next : goal.overflow_add-next
overflow_add-next c =
    let upto = rank_upto (stays c.loop-at.numbers.items) c.loop-at.at in
    omega (arith, upto, c.loop-at.invariant.next_is, c.loop-at-test.true)

pub loop-at-preserved-then-is_staying : goal.loop-at-preserved-then-is_staying
loop-at-preserved-then-is_staying c =
    let nodes = c.args.nodes.now in
    let at = c.loop-at.at in
    let numbers = c.loop-at.numbers.items in
    let same : vec_len c.loop-at.numbers ≡ length nodes = search rules in
    numbering_past (entry nodes) (length nodes) c.requires.tree c.args.gone at c.loop-at.next numbers c.loop-at.invariant
    (ap (λ (ns : List (Option ℕ)). stays ns at) (sym c.as_slice.ensures.value) ∙ (sym c.is_staying.ensures ∙ c.if-is_staying.true))
    (omega (arith, c.loop-at-test.true, same, c.loop-at.numbers.ok.0))

pub loop-at-preserved : goal.loop-at-preserved
loop-at-preserved c =
    let nodes = c.args.nodes.now in
    let at = c.loop-at.at in
    let numbers = c.loop-at.numbers.items in
    let names = c.names_of.result.now in
    numbering_more (entry nodes) (length nodes) c.requires.tree c.args.gone at c.loop-at.next numbers c.loop-at.invariant
    c.drop_listed.new.numbers.items
    (ap (λ (ns : List (Option ℕ)). stays ns at) (sym c.as_slice.ensures.value) ∙ (sym c.is_staying.ensures ∙ c.if-is_staying.false))
    (lists_node names) c.drop_listed.ensures.gone
    (λ n j e. listed_node names n j (ap (λ (es : List Entry). found es n) c.names_of.ensures.names ∙ e))
    (λ k lacks. unlisted names c.names_of.ensures.once k
    (λ n e. lacks n (ap (λ (es : List Entry). found es n) (sym c.names_of.ensures.names) ∙ e)))

pub returns-clause-ranks : goal.returns-clause-ranks
returns-clause-ranks c =
    let nodes = c.args.nodes.now in
    let same : vec_len c.loop-at.numbers ≡ length nodes = search rules in
    numbering_ranks (entry nodes) (length nodes) c.requires.tree c.args.gone c.loop-at.at c.loop-at.next c.loop-at.numbers.items
    c.loop-at.invariant
    (omega (arith, c.loop-at-test.false, same, c.loop-at.numbers.ok.0))
