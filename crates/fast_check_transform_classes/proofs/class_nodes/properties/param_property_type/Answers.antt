use Rattle.std.specs.Prelude.{if◌then◌else◌}
use Rattle.std.proofs.Common.{ap, ◌∙◌}
use Rattle.std.proofs.lemmas.Result.{IfOk-weaker}
use Rattle.fast_check_tree_syntax.specs.Shape.{◌is◌, kind_of}
use Rattle.fast_check_tree_syntax.specs.declared.kind.Kind.TheVariants.{AssignPat}
use Rattle.fast_check_tree_forms_expressions.specs.Patterns.{AssignPat-right}
use Rattle.fast_check_tree_forms_programs.specs.Names.{BindingIdent-type_ann}
use Rattle.fast_check_meaning_signatures.specs.Classes.{mutability_of_property}
use Rattle.fast_check_meaning_signatures.specs.Members.{is_private}
use Rattle.fast_check_meaning_signatures.specs.Typing.{type_of}
use Rattle.fast_check_transform_classes.proofs.class_nodes.properties.param_property_type.Goals as goal

pub returns : goal.returns
returns c =
    let prop = c.of-prop.ensures in
    let private = c.is_private.ensures ∙ ap is_private prop.accessibility in
    let type = c.of.ensures.type_ann ∙ ap BindingIdent-type_ann c.param_target.ensures in
    let value = c.default_or.ensures ∙ (λ i. if kind_of (prop.param i) is AssignPat then AssignPat-right (prop.param i) else c.read.ensures i) in
    let mutability = c.mutability_of_property.ensures ∙ ap mutability_of_property prop.readonly in
    IfOk-weaker c.type_of.result _ _ (λ ty h. h ∙ (λ i. type_of c.args.unresolved (record {
      is_private = private i;
      type = type i;
      value = value i;
      mutability = mutability i;
    }))) c.type_of.ensures
