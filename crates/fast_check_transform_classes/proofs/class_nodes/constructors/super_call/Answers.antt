use Rattle.std.proofs.Common.{ap, ◌∙◌}
use Rattle.std.proofs.lemmas.Result.{IfOk-weaker}
use Rattle.fast_check_meaning_signatures.specs.NewNodes.{expr_stmt}
use Rattle.fast_check_transform_classes.proofs.class_nodes.SuperCalls.{never_call}
use Rattle.fast_check_transform_classes.proofs.class_nodes.constructors.super_call.Goals as goal

pub returns : goal.returns
returns c =
    let call = c.in_ok-call.ensures ∙ ap never_call c.of.ensures.expr in
    IfOk-weaker c.node.result _ _ (λ tree e. e ∙ (λ i. expr_stmt (c.of.ensures.span i) (call i))) c.node.ensures
