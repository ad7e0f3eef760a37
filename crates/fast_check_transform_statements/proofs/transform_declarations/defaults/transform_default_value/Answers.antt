use Rattle.std.proofs.Common.{ap}
use Rattle.fast_check_tree_forms_programs.specs.ModuleDecls.{export_default_expr}
use Rattle.fast_check_tree_syntax.specs.Part.{seen}
use Rattle.fast_check_tree_syntax.specs.declared.tree.Tree.{Absent}
use Rattle.fast_check_transform_imports.specs.module_facts.ModuleFacts.{facts_of}
use Rattle.fast_check_transform_statements.proofs.transform_declarations.DefaultCases.{value_stays, value_goes}
use Rattle.fast_check_meaning_signatures.proofs.Adding.{some_of}
use Rattle.fast_check_transform_statements.proofs.transform_declarations.defaults.transform_default_value.Goals as goal

pub returns-in-Some : goal.returns-in-Some
returns-in-Some c =
    some_of c.into_tree.result c.into_tree.ensures
    (value_stays (facts_of c.args.facts) (seen c.args.item) c.in_ok-expr.ensures c.of.ensures.expr c.in-Some.is)
    (ap (λ s. export_default_expr s c.in-Some.expr) c.of.ensures.span)

pub returns-in_ok-push-in-None : goal.returns-in_ok-push-in-None
returns-in_ok-push-in-None c =
    some_of c.into_tree-in-None.result c.into_tree-in-None.ensures
    (value_goes (facts_of c.args.facts) (seen c.args.item) c.in_ok-expr.ensures c.of.ensures.expr c.in-None.is c.of.ensures.span
    c.in_ok-push-in-None.ensures.items)
    (ap (λ s. export_default_expr s Absent) c.of.ensures.span)
