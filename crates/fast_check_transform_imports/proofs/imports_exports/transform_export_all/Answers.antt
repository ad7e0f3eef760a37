use Rattle.std.proofs.Common.{◌∙◌, ap, sym}
use Rattle.fast_check_tree_syntax.specs.Part.{seen}
use Rattle.fast_check_tables_diagnostics.specs.PublicRanges.{is_public}
use Rattle.fast_check_tree_forms_programs.specs.ModuleDecls.{export_all}
use Rattle.fast_check_meaning_skeleton.specs.ImportsExports.{answered_source}
use Rattle.fast_check_transform_imports.specs.module_facts.ModuleFacts.{facts_of}
use Rattle.fast_check_transform_imports.proofs.ImportExportCases.{no_all, made_all}
use Rattle.fast_check_transform_imports.proofs.imports_exports.transform_export_all.Goals as goal

pub returns-then-not-contains : goal.returns-then-not-contains
returns-then-not-contains c = λ kept. (
  no_all (facts_of c.args.facts) (seen c.args.item)
      (ap (is_public c.args.facts.public_ranges.now) (sym c.of-type_only.ensures.span) ∙ (sym c.contains.ensures ∙ c.if-not-contains.true)),
  kept,
)

pub returns : goal.returns
returns c = λ kept. let src = c.in_ok-src.ensures.source kept in (
  made_all (facts_of c.args.facts) (seen c.args.item)
      (ap (is_public c.args.facts.public_ranges.now) (sym c.of-type_only.ensures.span) ∙ (sym c.contains.ensures ∙ c.if-not-contains.false))
      (c.in_ok-into_tree.ensures ∙ (λ i. export_all (c.of-type_only.ensures.span i)
      ((src.0 ∙ ap (answered_source (facts_of c.args.facts)) c.of-type_only.ensures.src) i)
      (c.of-type_only.ensures.type_only i) ((c.in_ok-src.ensures.attributes ∙ c.of-type_only.ensures.with) i))),
  src.1,
)
