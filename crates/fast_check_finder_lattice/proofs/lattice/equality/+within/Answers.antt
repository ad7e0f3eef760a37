use Rattle.std.proofs.Common.{rules, ◌≡◌, ◌∙◌, sym, ap, refl, subst, length, List, Some, None, Option, string_bytes}
use Rattle.std.proofs.lemmas.Bool.{false≢true}
use Rattle.std.proofs.lemmas.List.{take_all}
use Rattle.fast_check_finder_lattice.specs.declared.lattice.node.Below.{Below}
use Rattle.fast_check_finder_lattice.specs.Order.{Entry, found}
use Rattle.fast_check_finder_lattice.specs.Graph.{entry, reach}
use Rattle.fast_check_finder_lattice.specs.Names.{Name, IsBelow}
use Rattle.fast_check_finder_lattice.specs.EqualityProof.{all_is, subset_within, node_within}
use Rattle.fast_check_finder_lattice.proofs.Lists.{listed_read}
use Rattle.fast_check_finder_lattice.proofs.Copies.{later_at}
use Rattle.fast_check_finder_lattice.proofs.Alike.{Found, WithinP, kept_more, each_within, within_under, some_not_none, all_not_subset}
use Rattle.fast_check_finder_lattice.proofs.lattice.equality.+within.Goals as goal

pub is_within-returns-in_default : goal.is_within-returns-in_default
is_within-returns-in_default t c =
    let nodes = c.args.nodes.now in
    let g = entry nodes in
    let h = entry c.args.others.now in
    let names = c.names_of-name-items in
    let d : Entry = c.loop-name-item.result in
    let name = string_bytes d.0 in
    let listed = listed_read nodes c.args.at names.result.now names.ensures.names names.ensures.once c.loop-name.name-index d
    c.loop-name-test.true c.loop-name-item.is in
    let held : h c.args.other name ≡ None = ap (λ (n : Name). h c.args.other n) (sym c.as_str.ensures.value) ∙
    (sym c.find_at.ensures ∙ c.in_default.is) in (
      λ u. absurd (false≢true u),
      λ e. absurd (some_not_none g h d.1 (within_under g h c.args.at c.args.other name (Some d.1) None listed held e)),
    )

pub is_within-is_within_below-requires : goal.is_within-is_within_below-requires
is_within-is_within_below-requires t c =
    let nodes = c.args.nodes.now in
    let names = c.names_of-name-items in
    let d : Entry = c.loop-name-item.result in
    let listed = listed_read nodes c.args.at names.result.now names.ensures.names names.ensures.once c.loop-name.name-index d
    c.loop-name-test.true c.loop-name-item.is in
    (search rules, (c.requires, later_at nodes (length nodes) c.requires c.args.at (string_bytes d.0) (Some d.1) listed))

pub is_within-returns-then-not-is_within_below : goal.is_within-returns-then-not-is_within_below
is_within-returns-then-not-is_within_below t c =
    let nodes = c.args.nodes.now in
    let g = entry nodes in
    let h = entry c.args.others.now in
    let names = c.names_of-name-items in
    let d : Entry = c.loop-name-item.result in
    let name = string_bytes d.0 in
    let listed = listed_read nodes c.args.at names.result.now names.ensures.names names.ensures.once c.loop-name.name-index d
    c.loop-name-test.true c.loop-name-item.is in
    let held : h c.args.other name ≡ Some c.in-Some.held = ap (λ (n : Name). h c.args.other n) (sym c.as_str.ensures.value) ∙
    (sym c.find_at.ensures ∙ c.in-Some.is) in (
      λ u. absurd (false≢true u),
      λ e.
          sym c.if-not-is_within_below.true ∙ c.is_within_below.ensures.1
          (within_under g h c.args.at c.args.other name (Some d.1) (Some c.in-Some.held) listed held e),
    )

pub is_within-loop-name-preserved : goal.is_within-loop-name-preserved
is_within-loop-name-preserved t c =
    let g = entry c.args.nodes.now in
    let h = entry c.args.others.now in
    let names = c.names_of-name-items in
    let d : Entry = c.loop-name-item.result in
    let held : Some c.in-Some.held ≡ h c.args.other (string_bytes d.0) = sym c.in-Some.is ∙
    (c.find_at.ensures ∙ ap (λ (n : Name). h c.args.other n) c.as_str.ensures.value) in
    kept_more (WithinP g h c.args.other) names.result.now names.ensures.once c.loop-name.name-index d c.loop-name-test.true
    c.loop-name-item.is c.loop-name.invariant
    (subst (λ (o : Option Below). IsBelow (reach g (Some d.1)) (reach h o)) held (c.is_within_below.ensures.0 c.if-not-is_within_below.false))

pub is_within-returns : goal.is_within-returns
is_within-returns t c =
    let g = entry c.args.nodes.now in
    let h = entry c.args.others.now in
    let names = c.names_of-name-items in (
      λ u. each_within g h c.args.at c.args.other (λ n. subst (λ (es : List Entry). Found (WithinP g h c.args.other n) (found es n))
          (take_all c.loop-name.name-index names.result.now c.loop-name-test.false ∙ names.ensures.names) (c.loop-name.invariant n)),
      λ e. refl,
    )

pub is_within_below-returns-in_default-All : goal.is_within_below-returns-in_default-All
is_within_below-returns-in_default-All t c = rw c.in_default-All.is-1 (λ u part q v. all_is (entry c.args.others.now) part q, λ e. refl)

pub is_within_below-returns-in-All-Subset : goal.is_within_below-returns-in-All-Subset
is_within_below-returns-in-All-Subset t c = rw (c.in-All-Subset.is-0, c.in-All-Subset.is-1) (
  λ u. absurd (false≢true u),
  λ e. absurd (all_not_subset (entry c.args.nodes.now) (entry c.args.others.now) c.in-All-Subset.field-0-1 e),
)

pub is_within_below-returns-in-Subset-Subset : goal.is_within_below-returns-in-Subset-Subset
is_within_below-returns-in-Subset-Subset t c =
    let g = entry c.args.nodes.now in
    let h = entry c.args.others.now in
    rw (c.in-Subset-Subset.is-0, c.in-Subset-Subset.is-1) (
      λ u. subset_within g h c.in-Subset-Subset.no c.in-Subset-Subset.other (c.is_within.ensures.0 u),
      λ e. c.is_within.ensures.1 (node_within g h c.in-Subset-Subset.no c.in-Subset-Subset.other e),
    )
