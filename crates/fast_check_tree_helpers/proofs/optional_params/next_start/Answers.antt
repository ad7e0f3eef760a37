use Rattle.std.proofs.Common.{rules}
use Rattle.fast_check_tree_helpers.proofs.optional_params.next_start.Goals as goal

pub returns-then-is_optional : goal.returns-then-is_optional
returns-then-is_optional c = search rules

pub returns-else-is_optional : goal.returns-else-is_optional
returns-else-is_optional c = search rules
