use Rattle.std.proofs.Common.{refl, sym, ◌∙◌}
use Rattle.std.proofs.lemmas.Result.{IfOk-weaker}
use Rattle.fast_check_tree_syntax.specs.Part.{seen}
use Rattle.fast_check_transform_imports.specs.module_facts.ModuleFacts.{facts_of}
use Rattle.fast_check_transform_statements.proofs.Declared.{given_ident, valued_ident}
use Rattle.fast_check_meaning_signatures.proofs.Adding.{some_of}
use Rattle.fast_check_transform_statements.proofs.declarations.ident_declarator.Goals as goal

pub returns-in-Some : goal.returns-in-Some
returns-in-Some c =
    some_of c.declared.result c.declared.ensures
    (given_ident (facts_of c.args.facts) c.args.mutability (seen c.args.declarator) c.in-Some.ty
    (sym c.in_ok-ty.ensures ∙ c.in-Some.is) c.args.faults.now.items)
    refl

pub returns-in-None : goal.returns-in-None
returns-in-None c =
    IfOk-weaker c.valued_declarator.result _ _
    (λ tree h. valued_ident (facts_of c.args.facts) c.args.mutability (seen c.args.declarator)
    (sym c.in_ok-ty.ensures ∙ c.in-None.is) h) c.valued_declarator.ensures
