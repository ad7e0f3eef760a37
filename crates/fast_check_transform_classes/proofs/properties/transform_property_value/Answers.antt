use Rattle.std.proofs.Common.{ap, ◌∙◌, sym, ◌++◌, ◌∷◌, []}
use Rattle.std.proofs.lemmas.Result.{IfOk-weaker}
use Rattle.fast_check_transform_expressions.specs.nodes.Bindings.{names_of}
use Rattle.fast_check_tree_syntax.specs.Part.{seen}
use Rattle.fast_check_tree_syntax.specs.Shape.{is_absent}
use Rattle.fast_check_tree_helpers.specs.ranges.Ranges.{range_of_node}
use Rattle.fast_check_meaning_signatures.specs.Answers.{fault_at}
use Rattle.fast_check_meaning_signatures.specs.declared.fault.FaultKind.TheVariants.{MissingExplicitType}
use Rattle.fast_check_transform_classes.proofs.PropertyCases.{absent_value, present_value}
use Rattle.fast_check_transform_classes.proofs.properties.transform_property_value.Goals as goal

pub returns-then-is_absent : goal.returns-then-is_absent
returns-then-is_absent c =
    let place = c.range_of_node-place.ensures ∙ ap range_of_node c.of.ensures.key in
    absent_value (names_of c.args.bindings) (seen c.args.member)
    (ap is_absent (sym c.of.ensures.value) ∙ (sym c.is_absent.ensures ∙ c.if-is_absent.true))
    (c.in_ok-push.ensures.items ∙ ap (λ r. c.args.faults.now.items ++ fault_at MissingExplicitType r ∷ []) place)

pub returns : goal.returns
returns c =
    let place = c.range_of_node-place.ensures ∙ ap range_of_node c.of.ensures.key in
    IfOk-weaker c.transform_value.result _ _
    (λ tree h. present_value (names_of c.args.bindings) (seen c.args.member) (ap is_absent (sym c.of.ensures.value) ∙
    (sym c.is_absent.ensures ∙ c.if-is_absent.false))
    h place c.of.ensures.value) c.transform_value.ensures
