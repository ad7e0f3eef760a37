use Rattle.std.proofs.Common.{rules}
use Rattle.fast_check_read.proofs.tree.default_of.Goals as goal

pub returns-in-Option : goal.returns-in-Option
returns-in-Option c = search rules

pub returns-in-List : goal.returns-in-List
returns-in-List c = search rules

pub returns-in-Flag : goal.returns-in-Flag
returns-in-Flag c = search rules

pub returns-in-Context : goal.returns-in-Context
returns-in-Context c = search rules

pub returns-in-Range : goal.returns-in-Range
returns-in-Range c = search rules

pub returns-in_default : goal.returns-in_default
returns-in_default c = search rules
