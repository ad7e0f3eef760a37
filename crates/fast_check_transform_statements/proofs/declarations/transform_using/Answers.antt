use Rattle.std.proofs.Common.{sym, ◌∙◌}
use Rattle.fast_check_tree_syntax.specs.Part.{seen}
use Rattle.fast_check_transform_imports.specs.module_facts.ModuleFacts.{facts_of}
use Rattle.fast_check_transform_statements.proofs.Declared.{private_using, public_using}
use Rattle.fast_check_transform_statements.proofs.declarations.transform_using.Goals as goal

pub returns-then-not-is_public_using : goal.returns-then-not-is_public_using
returns-then-not-is_public_using c =
    private_using (facts_of c.args.facts) c.args.place (seen c.args.decl)
    (sym c.is_public_using.ensures ∙ c.if-not-is_public_using.true)
    c.args.faults.now.items

pub returns : goal.returns
returns c =
    public_using (facts_of c.args.facts) c.args.place (seen c.args.decl)
    (sym c.is_public_using.ensures ∙ c.if-not-is_public_using.false)
    c.using_place.ensures c.in_ok-push.ensures.items
