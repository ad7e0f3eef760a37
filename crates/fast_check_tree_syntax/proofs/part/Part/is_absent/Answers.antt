use Rattle.std.proofs.Common.{rules}
use Rattle.fast_check_tree_syntax.proofs.part.Part.is_absent.Goals as goal

pub returns-in_default : goal.returns-in_default
returns-in_default c = search rules

pub returns-in-None-2 : goal.returns-in-None-2
returns-in-None-2 c = search rules
