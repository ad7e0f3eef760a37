use Rattle.std.proofs.Common.{rules}
use Rattle.fast_check_tree_helpers.proofs.global_calls.object_freeze_call_arg.Goals as goal

pub returns-then-is_global_member : goal.returns-then-is_global_member
returns-then-is_global_member c = search rules

pub returns-else-is_global_member : goal.returns-else-is_global_member
returns-else-is_global_member c = search rules
