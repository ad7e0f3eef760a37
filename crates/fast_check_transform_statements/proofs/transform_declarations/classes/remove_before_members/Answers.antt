use Rattle.std.proofs.Common.{rules, refl, ap, ◌∙◌, List, [], ◌∷◌}
use Rattle.fast_check_tree_syntax.specs.declared.tree.Tree.{Tree}
use Rattle.fast_check_tree_syntax.specs.Part.{seen}
use Rattle.fast_check_tree_syntax.specs.Shape.{parts}
use Rattle.fast_check_transform_imports.specs.skeleton.KeptComments.{without_all_leading}
use Rattle.fast_check_transform_statements.proofs.transform_declarations.ClassCases.{starts_left, stays_more, goes_more, all_removed}
use Rattle.fast_check_transform_statements.proofs.transform_declarations.classes.remove_before_members.Goals as goal

pub loop-member-init : goal.loop-member-init
loop-member-init c = ([], (c.new-earlier.ensures, refl))

pub loop-member-preserved-then-branch : goal.loop-member-preserved-then-branch
loop-member-preserved-then-branch c =
    let m = seen c.read-member.result in
    let before = c.loop-member.invariant.0 in
    let next = c.in_ok-stays.ensures before c.loop-member.invariant.1.0 in (
      m ∷ before,
      (
        next.knows,
        stays_more c.parts-member-items.result.now c.loop-member.member-index m c.loop-member-test.true (search rules) before
            c.if-branch.true next.stays_is c.loop-member.comments c.loop-member.invariant.1.1,
      ),
    )

pub loop-member-preserved : goal.loop-member-preserved
loop-member-preserved c =
    let m = seen c.read-member.result in
    let before = c.loop-member.invariant.0 in
    let next = c.in_ok-stays.ensures before c.loop-member.invariant.1.0 in (
      m ∷ before,
      (
        next.knows,
        goes_more c.parts-member-items.result.now c.loop-member.member-index m c.loop-member-test.true (search rules) before
            c.if-branch.false next.stays_is c.loop-member.comments c.loop-member.invariant.1.1 (ap (λ r. r.start) c.range_of_node.ensures)
            c.remove_leading.ensures,
      ),
    )

pub returns : goal.returns
returns c =
    all_removed c.parts-member-items.result.now c.loop-member.member-index c.loop-member-test.false c.loop-member.invariant.0
    c.loop-member.comments c.loop-member.invariant.1.1
    ∙ ap (λ (ms : List Tree). without_all_leading (starts_left [] ms) c.args.comments.now)
    (c.parts-member-items.ensures ∙ ap parts c.of.ensures.body)
