-- Inner: no contract of a public call cites what stands here.
-- The answers to what is seen of imports and exports.
use Rattle.std.specs.Prelude.{◌≡◌, Option, List, Result, IfOk}
use Rattle.std.specs.declared.alloc.AllocError.{AllocError}
use Rattle.fast_check_tree_syntax.specs.declared.tree.Tree.{Tree}
use Rattle.fast_check_meaning_signatures.specs.Answers.{Answer, answer_of, faultless}
use Rattle.fast_check_meaning_skeleton.specs.declared.rules.ImportExportRule.{ImportExportRule}
use Rattle.fast_check_meaning_skeleton.specs.ImportsExports.{import_export_seen}
use Rattle.fast_check_meaning_skeleton.specs.ModuleFacts.{ModuleFacts}
use Rattle.fast_check_transform_imports.specs.module_facts.Kept.{as_list}
use Rattle.fast_check_transform_imports.specs.Relative.{WhileRelative}
use Rattle.fast_check_transform_imports.specs.declared.relative.RelativeSources.{RelativeSources}

-- to an import, or to an export of names or of all
unfoldable pub import_export_answer : ModuleFacts → Tree → ImportExportRule → Answer (List Tree)
import_export_answer facts t rule = answer_of (import_export_seen facts t rule)

-- what a call gives of one stays, and nothing is wrong, where the texts that are kept stand for its source
abbrev pub GivesByRule : Result (Option Tree) AllocError → ModuleFacts → Tree → ImportExportRule → RelativeSources → RelativeSources → Type 0
GivesByRule result facts t rule old new =
    IfOk result (λ tree. WhileRelative facts old new (import_export_answer facts t rule ≡ faultless (as_list tree)))
