use Rattle.std.proofs.Common.{rules, arith, ◌≡◌, ◌∙◌, ap, sym, string_bytes, cond, vec_len, length, Some, Option, List}
use Rattle.fast_check_finder_lattice.specs.declared.lattice.node.Below.{Below}
use Rattle.fast_check_finder_lattice.specs.Order.{Name, Entry, found}
use Rattle.fast_check_finder_lattice.specs.Graph.{entry}
use Rattle.fast_check_finder_lattice.specs.Numbers.{is_node}
use Rattle.fast_check_finder_lattice.specs.Pruned.{under, place_at}
use Rattle.fast_check_finder_lattice.proofs.Lists.{found_read}
use Rattle.fast_check_finder_lattice.proofs.Numbers.{listed_node, unlisted}
use Rattle.fast_check_finder_lattice.proofs.Beside.{noted_more, noted_all, noted_other, noted_listed}
use Rattle.fast_check_finder_lattice.proofs.lattice.differences.note_listed.Goals as goal

pub note_below-requires : goal.note_below-requires
note_below-requires c = λ j e.
    let names = c.names_of-name-items.result.now in
    let d : Entry = c.loop-name-item.result in
    let n = string_bytes d.0 in
    let len : vec_len c.loop-name.places ≡ length c.args.nodes.now = search rules in
    let later = c.requires.tree.later c.args.at n j
    (ap (λ (es : List Entry). found es n) (sym c.names_of-name-items.ensures.names) ∙
    (found_read names c.names_of-name-items.ensures.once c.loop-name.name-index d c.loop-name-test.true c.loop-name-item.is ∙
    ap (λ (b : Below). Some b) e)) in
    omega (arith, later.1, len)

pub loop-name-preserved : goal.loop-name-preserved
loop-name-preserved c = λ k.
    let u = under (entry c.args.old.now) c.noted-place.result in
    let names = c.names_of-name-items.result.now in
    let d : Entry = c.loop-name-item.result in
    c.note_below.ensures.noted k ∙
    (ap (λ (m : Name). cond (is_node d.1 k) (u m) (place_at c.loop-name.places.items k)) c.as_str.ensures.value ∙
    (ap (λ (p : Option Below). cond (is_node d.1 k) (u (string_bytes d.0)) p) (c.loop-name.invariant k) ∙
    sym (noted_more u names c.loop-name.name-index d k (place_at c.args.places.now.items k) c.loop-name-test.true c.loop-name-item.is)))

pub returns-clause-listed : goal.returns-clause-listed
returns-clause-listed c = λ n j e.
    let u = under (entry c.args.old.now) c.noted-place.result in
    let names = c.names_of-name-items.result.now in
    let was = place_at c.args.places.now.items j.0 in
    c.loop-name.invariant j.0 ∙
    (noted_all u names c.loop-name.name-index j.0 was c.loop-name-test.false ∙
    (noted_listed u names j.0 was (u n) c.names_of-name-items.ensures.once
    (listed_node names n j (ap (λ (es : List Entry). found es n) c.names_of-name-items.ensures.names ∙ e))
    (λ m is. ap u (c.requires.tree.once c.args.at m c.args.at n j
    (ap (λ (es : List Entry). found es m) (sym c.names_of-name-items.ensures.names) ∙ is) e).1) ∙
    ap (λ (p : Option Below). under (entry c.args.old.now) p n)
    (c.noted-place.ensures ∙ ap (λ (ps : List (Option Below)). place_at ps c.args.at) c.as_slice.ensures.value)))

pub returns-clause-others : goal.returns-clause-others
returns-clause-others c = λ k lacks.
    let u = under (entry c.args.old.now) c.noted-place.result in
    let names = c.names_of-name-items.result.now in
    let was = place_at c.args.places.now.items k in
    c.loop-name.invariant k ∙
    (noted_all u names c.loop-name.name-index k was c.loop-name-test.false ∙
    noted_other u names k was (unlisted names c.names_of-name-items.ensures.once k
    (λ n e. lacks n (ap (λ (es : List Entry). found es n) (sym c.names_of-name-items.ensures.names) ∙ e))))
