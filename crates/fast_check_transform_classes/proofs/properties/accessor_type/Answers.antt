use Rattle.std.proofs.Common.{ap, ◌∙◌}
use Rattle.std.proofs.lemmas.Result.{IfOk-weaker}
use Rattle.fast_check_tree_helpers.specs.declared.literal_type.DeclMutabilityKind.TheVariants.{Mutable}
use Rattle.fast_check_meaning_signatures.specs.Members.{is_private}
use Rattle.fast_check_meaning_signatures.specs.Typing.{type_of}
use Rattle.fast_check_transform_classes.proofs.properties.accessor_type.Goals as goal

pub returns : goal.returns
returns c =
    let private = c.is_private.ensures ∙ ap is_private c.of-accessor.ensures.accessibility in
    IfOk-weaker c.type_of.result _ _ (λ ty h. h ∙ (λ i. type_of c.args.unresolved (record {
      is_private = private i;
      type = c.of-accessor.ensures.type_ann i;
      value = c.of-accessor.ensures.value i;
      mutability = Mutable;
    }))) c.type_of.ensures
