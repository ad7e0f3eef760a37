use Rattle.std.proofs.Common.{rules}
use Rattle.fast_check_tree_helpers.proofs.return_class.after_return.Goals as goal

pub returns-then-has_argument : goal.returns-then-has_argument
returns-then-has_argument c = search rules

pub returns-else-has_argument : goal.returns-else-has_argument
returns-else-has_argument c = search rules

pub returns-in-Single : goal.returns-in-Single
returns-in-Single c = search rules
