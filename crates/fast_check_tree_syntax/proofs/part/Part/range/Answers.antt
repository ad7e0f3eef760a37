use Rattle.std.proofs.Common.{arith, rules}
use Rattle.fast_check_tree_syntax.proofs.Made.{range_of_range}
use Rattle.fast_check_tree_syntax.proofs.part.Part.range.Goals as goal

pub returns-in_default : goal.returns-in_default
returns-in_default c = search rules

pub returns-in-Some-Range : goal.returns-in-Some-Range
returns-in-Some-Range c = grind (arith, range_of_range)
