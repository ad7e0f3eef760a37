use Rattle.std.proofs.Common.{refl, ◌∙◌, ap}
use Rattle.std.proofs.lemmas.Bool.{false≢true}
use Rattle.fast_check_tree_syntax.specs.Part.{seen}
use Rattle.fast_check_tree_forms_programs.specs.ModuleDecls.{import_decl}
use Rattle.fast_check_meaning_skeleton.specs.ImportsExports.{answered_source}
use Rattle.fast_check_transform_imports.specs.module_facts.ModuleFacts.{facts_of}
use Rattle.fast_check_transform_imports.proofs.ImportExportCases.{no_import, made_import}
use Rattle.fast_check_transform_imports.proofs.imports_exports.transform_import.Goals as goal

pub returns-then-is_empty : goal.returns-then-is_empty
returns-then-is_empty c = λ kept. (
  no_import (facts_of c.args.facts) (seen c.args.item) c.in_ok-specifiers.ensures c.of-type_only.ensures.specifiers
      (c.if-is_empty.ensures.0 refl),
  kept,
)

pub returns : goal.returns
returns c = λ kept. let src = c.in_ok-src.ensures.source kept in (
  made_import (facts_of c.args.facts) (seen c.args.item) c.in_ok-specifiers.ensures c.of-type_only.ensures.specifiers
      (λ e. false≢true (c.if-is_empty.ensures.1 e))
      (c.in_ok-into_tree.ensures ∙ (λ i. import_decl (c.of-type_only.ensures.span i) (c.list.ensures i)
      ((src.0 ∙ ap (answered_source (facts_of c.args.facts)) c.of-type_only.ensures.src) i)
      (c.of-type_only.ensures.type_only i) ((c.in_ok-src.ensures.attributes ∙ c.of-type_only.ensures.with) i)
      ((c.in_ok-phase.ensures ∙ c.of-type_only.ensures.phase) i))),
  src.1,
)
