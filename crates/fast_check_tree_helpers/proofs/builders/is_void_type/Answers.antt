use Rattle.std.proofs.Common.{rules}
use Rattle.fast_check_tree_helpers.proofs.builders.is_void_type.Goals as goal

pub returns-then-eq : goal.returns-then-eq
returns-then-eq c = search rules

pub returns-else-eq : goal.returns-else-eq
returns-else-eq c = search rules
