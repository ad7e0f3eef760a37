use Rattle.std.proofs.Common.{map}
use Rattle.fast_check_transform_expressions.specs.nodes.Bindings.{names_of}
use Rattle.fast_check_tree_syntax.specs.Part.{seen}
use Rattle.fast_check_tables_modules.specs.diagnostics.PublicRanges.{is_implementation}
use Rattle.fast_check_transform_classes.proofs.MembersKept.{kept_start, kept_step, kept_end}
use Rattle.fast_check_transform_classes.proofs.members.transform_kept.Goals as goal

pub loop-member-init : goal.loop-member-init
loop-member-init c =
    kept_start (names_of c.args.bindings) (is_implementation c.args.public_ranges.now) c.args.items
    (map seen c.args.kept.now) c.args.faults.now.items

pub loop-member-preserved : goal.loop-member-preserved
loop-member-preserved c =
    kept_step (names_of c.args.bindings)
    (is_implementation c.args.public_ranges.now) c.args.kept.now c.loop-member.member-index c.member-item.result
    c.loop-member-test.true c.member-item.is
    c.loop-member.items c.in_ok-transform_member.field-0 c.loop-member.invariant c.in_ok-transform_member.ensures c.in_ok-push.ensures.ok

pub returns : goal.returns
returns c =
    kept_end (names_of c.args.bindings)
    (is_implementation c.args.public_ranges.now) c.args.kept.now c.loop-member.member-index c.loop-member-test.false
    c.loop-member.items c.loop-member.invariant
