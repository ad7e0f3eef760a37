use Rattle.std.proofs.Common.{rules}
use Rattle.fast_check_tree_helpers.proofs.literal_type.literal_or_keyword.Goals as goal

pub returns-in_err-to_tree-in-Const : goal.returns-in_err-to_tree-in-Const
returns-in_err-to_tree-in-Const c = search rules

pub returns-in_ok-to_tree-in-Const : goal.returns-in_ok-to_tree-in-Const
returns-in_ok-to_tree-in-Const c = search rules

pub returns-in-Mutable : goal.returns-in-Mutable
returns-in-Mutable c = search rules
