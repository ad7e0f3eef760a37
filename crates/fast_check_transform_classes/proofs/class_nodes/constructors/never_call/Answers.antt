use Rattle.std.proofs.Common.{ap, ◌∙◌, map}
use Rattle.std.proofs.lemmas.Result.{IfOk-weaker}
use Rattle.fast_check_tree_syntax.specs.declared.tree.Tree.{Tree}
use Rattle.fast_check_tree_syntax.specs.Shape.{parts, list}
use Rattle.fast_check_tree_forms_expressions.specs.Calls.{call_expr}
use Rattle.fast_check_meaning_signatures.specs.Classes.{never_argument}
use Rattle.fast_check_transform_classes.proofs.class_nodes.constructors.never_call.Goals as goal

pub returns : goal.returns
returns c =
    let args = c.in_ok-args.ensures ∙ ap (λ (t : Tree). list (map (λ a. never_argument a) (parts t))) c.of-call.ensures.args in
    let callee = ap (λ (p : Tree × Tree). p.0) c.in_ok-callee.ensures ∙ c.of-call.ensures.callee in
    let type_args = ap (λ (p : Tree × Tree). p.1) c.in_ok-callee.ensures ∙ c.of-call.ensures.type_args in
    IfOk-weaker c.into_tree.result _ _
    (λ tree e. e ∙
    (λ i. call_expr (c.of-call.ensures.span i) (c.of-call.ensures.ctxt i) (callee i) (args i) (type_args i))) c.into_tree.ensures
