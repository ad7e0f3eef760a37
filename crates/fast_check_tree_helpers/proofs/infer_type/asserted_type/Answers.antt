use Rattle.std.proofs.Common.{rules}
use Rattle.fast_check_tree_helpers.proofs.infer_type.asserted_type.Goals as goal

pub returns-in_err-to_tree : goal.returns-in_err-to_tree
returns-in_err-to_tree c = search rules

pub returns-in_ok-to_tree : goal.returns-in_ok-to_tree
returns-in_ok-to_tree c = search rules

pub returns-else-is_simple_type : goal.returns-else-is_simple_type
returns-else-is_simple_type c = search rules
