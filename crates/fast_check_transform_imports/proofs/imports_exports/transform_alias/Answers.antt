use Rattle.std.proofs.Common.{◌∙◌, ap, sym}
use Rattle.fast_check_tree_syntax.specs.Part.{seen}
use Rattle.fast_check_tables_diagnostics.specs.PublicRanges.{is_public}
use Rattle.fast_check_transform_imports.specs.module_facts.ModuleFacts.{facts_of}
use Rattle.fast_check_transform_imports.proofs.ImportExportCases.{no_alias, made_alias}
use Rattle.fast_check_transform_imports.proofs.imports_exports.transform_alias.Goals as goal

pub returns-then-not-contains : goal.returns-then-not-contains
returns-then-not-contains c =
    no_alias (facts_of c.args.facts) (seen c.args.item)
    (ap (is_public c.args.facts.public_ranges.now) (sym c.of.ensures.span) ∙ (sym c.contains.ensures ∙ c.if-not-contains.true))

pub returns : goal.returns
returns c =
    made_alias (facts_of c.args.facts) (seen c.args.item)
    (ap (is_public c.args.facts.public_ranges.now) (sym c.of.ensures.span) ∙
    (sym c.contains.ensures ∙ c.if-not-contains.false)) c.in_ok-to_tree.ensures
