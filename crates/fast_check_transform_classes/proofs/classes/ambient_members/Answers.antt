use Rattle.std.proofs.Common.{rules, ap, ◌∙◌, sym, not}
use Rattle.fast_check_tree_syntax.specs.Part.{seen}
use Rattle.fast_check_meaning_signatures.specs.Members.{is_private_computed}
use Rattle.fast_check_transform_classes.proofs.MembersKept.{one_stays, one_goes, all_filtered}
use Rattle.fast_check_transform_classes.proofs.classes.ambient_members.Goals as goal

pub loop-member-preserved : goal.loop-member-preserved
loop-member-preserved c =
    one_stays (λ m. not (is_private_computed m)) c.parts-member-items.result.now c.loop-member.member-index
    (seen c.read-member.result) c.loop-member-test.true
    (search rules)
    (ap not (sym c.is_private_computed.ensures ∙ c.if-is_private_computed.false)) c.loop-member.invariant c.in_ok-to_tree.ensures
    c.in_ok-push.ensures.ok

pub loop-member-preserved-then-is_private_computed : goal.loop-member-preserved-then-is_private_computed
loop-member-preserved-then-is_private_computed c =
    one_goes (λ m. not (is_private_computed m)) c.parts-member-items.result.now c.loop-member.member-index
    (seen c.read-member.result) c.loop-member-test.true
    (search rules) (ap not (sym c.is_private_computed.ensures ∙ c.if-is_private_computed.true)) c.loop-member.invariant

pub returns : goal.returns
returns c =
    all_filtered
    (λ m. not
    (is_private_computed m)) c.loop-member.member-index c.loop-member-test.false c.parts-member-items.ensures c.loop-member.invariant
