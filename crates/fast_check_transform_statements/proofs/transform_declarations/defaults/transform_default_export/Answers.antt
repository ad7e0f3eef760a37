use Rattle.std.proofs.Common.{sym, ◌∙◌}
use Rattle.fast_check_tree_syntax.specs.Part.{seen}
use Rattle.fast_check_transform_imports.specs.module_facts.ModuleFacts.{facts_of}
use Rattle.fast_check_transform_statements.proofs.transform_declarations.DefaultCases.{public_default_stays, private_default}
use Rattle.fast_check_transform_statements.proofs.transform_declarations.defaults.transform_default_export.Goals as goal

pub returns-then-not-is_public_default : goal.returns-then-not-is_public_default
returns-then-not-is_public_default c =
    private_default (facts_of c.args.facts) (seen c.args.item) c.args.rule
    (sym c.is_public_default.ensures ∙ c.if-not-is_public_default.true)
    c.args.faults.now.items

pub returns : goal.returns
returns c =
    public_default_stays (facts_of c.args.facts) (seen c.args.item) c.args.rule
    (sym c.is_public_default.ensures ∙ c.if-not-is_public_default.false)
    c.in_ok-transform_public_default.ensures
