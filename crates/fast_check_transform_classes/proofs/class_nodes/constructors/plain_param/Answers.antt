use Rattle.std.proofs.Common.{ap, ◌∙◌, sym}
use Rattle.std.proofs.lemmas.Result.{IfOk-weaker}
use Rattle.fast_check_tree_syntax.specs.declared.kind.Kind.{Kind}
use Rattle.fast_check_tree_syntax.specs.declared.kind.Kind.TheVariants.{TsParamProp}
use Rattle.fast_check_tree_syntax.specs.Part.{seen}
use Rattle.fast_check_tree_syntax.specs.Shape.{◌is◌, list}
use Rattle.fast_check_tree_forms_classes.specs.Functions.{param}
use Rattle.fast_check_transform_classes.proofs.class_nodes.SuperCalls.{plain_property, plain_already}
use Rattle.fast_check_transform_classes.proofs.class_nodes.constructors.plain_param.Goals as goal

pub returns-then-eq : goal.returns-then-eq
returns-then-eq c =
    let property = ap (λ (k : Kind). k is TsParamProp) (sym c.kind.ensures) ∙ (sym c.eq.ensures ∙ c.if-eq.true) in
    let decorators = c.list-decorators.ensures ∙ ap list c.new.ensures in
    let pat = c.in_ok-pat.ensures ∙ c.of.ensures.param in
    IfOk-weaker c.into_tree.result _ _
    (λ tree e. e ∙
    ((λ i. param (c.of.ensures.span i) (decorators i) (pat i)) ∙ plain_property (seen c.args.param) property)) c.into_tree.ensures

pub returns : goal.returns
returns c =
    let plain = ap (λ (k : Kind). k is TsParamProp) (sym c.kind.ensures) ∙ (sym c.eq.ensures ∙ c.if-eq.false) in
    IfOk-weaker c.to_tree-2.result _ _ (λ tree e. e ∙ plain_already (seen c.args.param) plain) c.to_tree-2.ensures
