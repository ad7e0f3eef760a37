use Rattle.std.proofs.Common.{◌∙◌, is_some}
use Rattle.fast_check_tree_helpers.specs.GlobalCalls.{object_freeze_call_arg}
use Rattle.fast_check_transform_nodes.proofs.Rules.{reads_some}
use Rattle.fast_check_transform_nodes.proofs.rows.freezes.Goals as goal

pub returns : goal.returns
returns c =
    c.is_some.ensures ∙ (reads_some _ _ c.object_freeze_call_arg.ensures ∙
    (λ i. is_some (object_freeze_call_arg c.args.bindings.unresolved (c.of.ensures.callee i) (c.of.ensures.args i))))
