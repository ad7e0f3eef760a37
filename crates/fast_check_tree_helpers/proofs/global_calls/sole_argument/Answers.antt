use Rattle.std.proofs.Common.{rules}
use Rattle.fast_check_tree_helpers.proofs.global_calls.sole_argument.Goals as goal

pub returns-then-is_absent : goal.returns-then-is_absent
returns-then-is_absent c = search rules

pub returns-else-is_absent : goal.returns-else-is_absent
returns-else-is_absent c = search rules

pub returns-in_default : goal.returns-in_default
returns-in_default c = search rules
