use Rattle.std.proofs.Common.{arith, rules}
use Rattle.fast_check_tree_syntax.proofs.Made.{flag_of_flag}
use Rattle.fast_check_tree_syntax.proofs.part.Part.flag.Goals as goal

pub returns-in_default : goal.returns-in_default
returns-in_default c = search rules

pub returns-in-Some-Flag : goal.returns-in-Some-Flag
returns-in-Some-Flag c = grind (arith, flag_of_flag)
