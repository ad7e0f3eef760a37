use Rattle.std.proofs.Common.{sym, ◌∙◌}
use Rattle.fast_check_tree_syntax.specs.Part.{seen}
use Rattle.fast_check_transform_imports.specs.module_facts.ModuleFacts.{facts_of}
use Rattle.fast_check_transform_statements.proofs.PublicCases.{standing_stays, standing_goes}
use Rattle.fast_check_transform_statements.proofs.declarations.transform_standing.Goals as goal

pub returns-then-not-contains : goal.returns-then-not-contains
returns-then-not-contains c =
    standing_goes (facts_of c.args.facts) c.args.place (seen c.args.decl) (sym c.contains.ensures ∙ c.if-not-contains.true)

pub returns : goal.returns
returns c =
    standing_stays (facts_of c.args.facts) c.args.place (seen c.args.decl) (sym c.contains.ensures ∙ c.if-not-contains.false)
    c.in_ok-to_tree.ensures
