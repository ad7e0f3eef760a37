-- Inner: no contract of a public call cites what stands here.
-- The answers to assignments that are statements.
use Rattle.std.specs.Prelude.{Option, Some, None, List, []}
use Rattle.fast_check_tree_syntax.specs.declared.source.SourceRange.{SourceRange}
use Rattle.fast_check_tree_syntax.specs.declared.tree.Tree.{Tree}
use Rattle.fast_check_meaning_signatures.specs.declared.fault.Fault.{Fault}
use Rattle.fast_check_meaning_signatures.specs.declared.fault.FaultKind.TheVariants.{MissingExplicitType}
use Rattle.fast_check_meaning_signatures.specs.Answers.{Answer, answer_of, fault_at, unless_stays}
use Rattle.fast_check_meaning_expandos.specs.declared.properties.ExpandoProperty.{ExpandoProperty}
use Rattle.fast_check_meaning_expandos.specs.Assignments.{assignment_seen, declared_properties}
use Rattle.fast_check_transform_imports.specs.skeleton.ModuleFacts.{ModuleFacts}

-- what is answered to one, and the properties that it declares
unfoldable pub assignment_answer : ModuleFacts → Tree → Answer (List Tree)
assignment_answer facts assignment =
    answer_of (assignment_seen facts.is_public facts.bindings facts.objects assignment)

unfoldable pub assignment_properties : ModuleFacts → Tree → List ExpandoProperty
assignment_properties facts assignment = declared_properties facts.is_public facts.bindings facts.objects assignment

-- what is missing at a place, if there is one, where nothing stays
abbrev pub missing_at : Option SourceRange → Option Tree → List Fault
missing_at None value = []
missing_at (Some place) value = unless_stays value (fault_at MissingExplicitType place)
