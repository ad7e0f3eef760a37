use Rattle.std.specs.Prelude.{false}
use Rattle.std.proofs.Common.{ap, ◌∙◌}
use Rattle.std.proofs.lemmas.Result.{IfOk-weaker}
use Rattle.fast_check_tree_forms_programs.specs.Names.{BindingIdent-type_ann}
use Rattle.fast_check_meaning_signatures.specs.Typing.{type_of}
use Rattle.fast_check_transform_statements.proofs.declarations.declarator_type.Goals as goal

pub returns : goal.returns
returns c =
    let type = c.of-2.ensures.type_ann ∙ ap BindingIdent-type_ann c.of.ensures.name in
    IfOk-weaker c.type_of.result _ _ (λ ty h. h ∙ (λ i. type_of c.args.facts.bindings.unresolved (record {
      is_private = false;
      type = type i;
      value = c.of.ensures.init i;
      mutability = c.args.mutability;
    }))) c.type_of.ensures
