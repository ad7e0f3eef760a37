use Rattle.std.proofs.Common.{sym, ◌∙◌}
use Rattle.std.proofs.lemmas.Result.{IfOk-weaker}
use Rattle.fast_check_tree_syntax.specs.Part.{seen}
use Rattle.fast_check_transform_imports.specs.module_facts.ModuleFacts.{facts_of}
use Rattle.fast_check_transform_statements.proofs.Declared.{absent_value, present_value}
use Rattle.fast_check_transform_statements.proofs.declarations.transform_init.Goals as goal

pub returns-then-is_absent : goal.returns-then-is_absent
returns-then-is_absent c =
    absent_value (facts_of c.args.facts) c.args.place (seen c.args.value)
    (sym c.is_absent.ensures ∙ c.if-is_absent.true) c.args.faults.now.items

pub returns : goal.returns
returns c = IfOk-weaker c.transform_expr.result _ _
    (λ tree h. present_value (facts_of c.args.facts) c.args.place (seen c.args.value)
    (sym c.is_absent.ensures ∙ c.if-is_absent.false) h)
    c.transform_expr.ensures
