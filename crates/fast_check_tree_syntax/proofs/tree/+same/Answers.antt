use Rattle.std.proofs.Common.{rules}
use Rattle.fast_check_tree_syntax.proofs.tree.+same.Goals as goal

pub same_tree-returns-in-Absent-Absent : goal.same_tree-returns-in-Absent-Absent
same_tree-returns-in-Absent-Absent t c = search rules

pub same_tree-returns-in-Flag-Flag : goal.same_tree-returns-in-Flag-Flag
same_tree-returns-in-Flag-Flag t c = search rules

pub same_tree-returns-in-Context-Context : goal.same_tree-returns-in-Context-Context
same_tree-returns-in-Context-Context t c = search rules

pub same_tree-returns-in-Text-Text : goal.same_tree-returns-in-Text-Text
same_tree-returns-in-Text-Text t c = search rules

pub same_tree-returns-in-Range-Range : goal.same_tree-returns-in-Range-Range
same_tree-returns-in-Range-Range t c = search rules

pub same_tree-returns-in-Word-Word : goal.same_tree-returns-in-Word-Word
same_tree-returns-in-Word-Word t c = search rules

pub same_tree-returns-else-same_kind : goal.same_tree-returns-else-same_kind
same_tree-returns-else-same_kind t c = search rules

pub same_tree-returns-in_default : goal.same_tree-returns-in_default
same_tree-returns-in_default t c = search rules

pub same_tree-returns-in_default-2 : goal.same_tree-returns-in_default-2
same_tree-returns-in_default-2 t c = search rules

pub same_tree-returns-in_default-3 : goal.same_tree-returns-in_default-3
same_tree-returns-in_default-3 t c = search rules

pub same_tree-returns-in_default-4 : goal.same_tree-returns-in_default-4
same_tree-returns-in_default-4 t c = search rules

pub same_tree-returns-in_default-5 : goal.same_tree-returns-in_default-5
same_tree-returns-in_default-5 t c = search rules

pub same_tree-returns-in_default-6 : goal.same_tree-returns-in_default-6
same_tree-returns-in_default-6 t c = search rules

pub same_tree-returns-in_default-7 : goal.same_tree-returns-in_default-7
same_tree-returns-in_default-7 t c = search rules
