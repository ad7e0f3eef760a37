use Rattle.std.proofs.Common.{ap, ◌∙◌}
use Rattle.std.specs.Prelude.{false}
use Rattle.std.proofs.lemmas.Result.{IfOk-weaker}
use Rattle.fast_check_tree_helpers.specs.declared.literal_type.DeclMutabilityKind.TheVariants.{Mutable}
use Rattle.fast_check_tree_forms_programs.specs.Names.{BindingIdent-type_ann}
use Rattle.fast_check_meaning_signatures.specs.Typing.{type_of}
use Rattle.fast_check_transform_nodes.proofs.patterns.default_type.Goals as goal

pub returns : goal.returns
returns c =
    let type = c.of-2.ensures.type_ann ∙ ap BindingIdent-type_ann c.of.ensures.left in
    IfOk-weaker c.type_of.result _ _ (λ ty h. h ∙ (λ i. type_of c.args.unresolved
    (record { is_private = false; type = type i; value = c.of.ensures.right i; mutability = Mutable }))) c.type_of.ensures
