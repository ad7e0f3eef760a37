use Rattle.std.proofs.Common.{rules}
use Rattle.fast_check_tree_syntax.proofs.part.Part.context.Goals as goal

pub returns-in_default : goal.returns-in_default
returns-in_default c = search rules
