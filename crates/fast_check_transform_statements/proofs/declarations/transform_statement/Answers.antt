use Rattle.std.proofs.Common.{refl, ◌∙◌}
use Rattle.std.proofs.lemmas.Bool.{false≢true}
use Rattle.fast_check_tree_forms_statements.specs.Declarations.{var_decl}
use Rattle.fast_check_tree_syntax.specs.Part.{seen}
use Rattle.fast_check_transform_imports.specs.module_facts.ModuleFacts.{facts_of}
use Rattle.fast_check_transform_statements.proofs.Declared.{no_statement, made_statement}
use Rattle.fast_check_transform_statements.proofs.declarations.transform_statement.Goals as goal

pub returns-then-is_empty : goal.returns-then-is_empty
returns-then-is_empty c = no_statement (facts_of c.args.facts) (seen c.args.statement) c.in_ok-decls.ensures
    (c.if-is_empty.ensures.0 refl)

pub returns : goal.returns
returns c =
    made_statement (facts_of c.args.facts) (seen c.args.statement) c.in_ok-decls.ensures (λ e. false≢true (c.if-is_empty.ensures.1 e))
    (c.in_ok-into_tree.ensures ∙ (λ i. var_decl (c.of-declare.ensures.span i) (c.of-declare.ensures.ctxt i)
    ((c.in_ok-kind.ensures ∙ c.of-declare.ensures.kind) i) (c.of-declare.ensures.declare i) (c.list.ensures i)))
