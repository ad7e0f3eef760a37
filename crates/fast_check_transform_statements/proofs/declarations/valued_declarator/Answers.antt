use Rattle.std.proofs.Common.{ap, ◌∙◌, refl}
use Rattle.fast_check_tree_forms_programs.specs.Names.{Ident-span, BindingIdent-id}
use Rattle.fast_check_tree_syntax.specs.Part.{seen}
use Rattle.fast_check_transform_imports.specs.module_facts.ModuleFacts.{facts_of}
use Rattle.fast_check_transform_statements.proofs.Declared.{value_stays, value_goes}
use Rattle.fast_check_meaning_signatures.proofs.Adding.{some_of}
use Rattle.fast_check_transform_statements.proofs.declarations.valued_declarator.Goals as goal

pub returns-in-Some : goal.returns-in-Some
returns-in-Some c =
    let place = c.of-3.ensures.span ∙ ap Ident-span (c.of-2.ensures.id ∙ ap BindingIdent-id c.of.ensures.name) in
    some_of c.retyped.result c.retyped.ensures
    (value_stays (facts_of c.args.facts) (seen c.args.declarator) c.in_ok-value.ensures place c.of.ensures.init c.in-Some.is) refl

pub returns-in_ok-push-in-None : goal.returns-in_ok-push-in-None
returns-in_ok-push-in-None c =
    let place = c.of-3.ensures.span ∙ ap Ident-span (c.of-2.ensures.id ∙ ap BindingIdent-id c.of.ensures.name) in
    some_of c.retyped-in-None.result c.retyped-in-None.ensures
    (value_goes (facts_of c.args.facts)
    (seen c.args.declarator) c.in_ok-value.ensures place c.of.ensures.init c.in-None.is c.in_ok-push-in-None.ensures.items) refl
