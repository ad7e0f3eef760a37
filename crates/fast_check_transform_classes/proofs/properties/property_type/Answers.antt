use Rattle.std.proofs.Common.{ap, ◌∙◌}
use Rattle.std.proofs.lemmas.Result.{IfOk-weaker}
use Rattle.fast_check_meaning_signatures.specs.Classes.{mutability_of_property}
use Rattle.fast_check_meaning_signatures.specs.Members.{is_private}
use Rattle.fast_check_meaning_signatures.specs.Typing.{type_of}
use Rattle.fast_check_transform_classes.proofs.properties.property_type.Goals as goal

pub returns : goal.returns
returns c =
    let private = c.is_private.ensures ∙ ap is_private c.of-prop.ensures.accessibility in
    let mutability = c.mutability_of_property.ensures ∙ ap mutability_of_property c.of-prop.ensures.readonly in
    IfOk-weaker c.type_of.result _ _ (λ ty h. h ∙ (λ i. type_of c.args.unresolved (record {
      is_private = private i;
      type = c.of-prop.ensures.type_ann i;
      value = c.of-prop.ensures.value i;
      mutability = mutability i;
    }))) c.type_of.ensures
