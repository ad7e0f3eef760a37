use Rattle.std.proofs.Common.{◌≡◌, take}
use Rattle.std.specs.List.{filter}
use Rattle.fast_check_meaning_skeleton.specs.ImportsExports.{is_public_specifier}
use Rattle.fast_check_transform_imports.specs.module_facts.ModuleFacts.{facts_of}
use Rattle.fast_check_transform_imports.proofs.imports_exports.public_specifiers.Given as goal

abbrev pub invariant-loop-specifier : goal.invariant-loop-specifier
invariant-loop-specifier l = l.items ≡ filter (is_public_specifier (facts_of l.facts)) (take l.specifier-index l.specifier-items)
