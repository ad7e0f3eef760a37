use Rattle.std.proofs.Common.{ap, ◌∙◌, sym}
use Rattle.fast_check_transform_expressions.specs.nodes.Bindings.{names_of}
use Rattle.fast_check_tree_syntax.specs.Part.{seen}
use Rattle.fast_check_meaning_signatures.specs.Answers.{declared_property, valued_property}
use Rattle.fast_check_transform_classes.proofs.PropertyCases.{typed_property_stays, valued_property_stays}
use Rattle.fast_check_meaning_signatures.proofs.Adding.{some_of}
use Rattle.fast_check_transform_classes.proofs.properties.transform_property.Goals as goal

pub returns-in_ok-property_head-in-Some : goal.returns-in_ok-property_head-in-Some
returns-in_ok-property_head-in-Some c =
    some_of c.declared.result c.declared.ensures
    (typed_property_stays (names_of c.args.bindings) (seen c.args.member) c.in-Some.ty
    (sym c.in_ok-ty.ensures ∙ c.in-Some.is) c.args.faults.now.items)
    (ap (λ h. declared_property h c.in-Some.ty) c.in_ok-property_head-in-Some.ensures)

pub returns-in_ok-property_head-in-None : goal.returns-in_ok-property_head-in-None
returns-in_ok-property_head-in-None c =
    some_of c.valued.result c.valued.ensures
    (valued_property_stays (names_of c.args.bindings) (seen c.args.member)
    (sym c.in_ok-ty.ensures ∙ c.in-None.is) c.in_ok-value-in-None.ensures)
    (ap (λ h. valued_property h c.in_ok-value-in-None.value) c.in_ok-property_head-in-None.ensures)
