use Rattle.std.proofs.Common.{rules}
use Rattle.fast_check_tree_syntax.proofs.part.Part.to_tree.Goals as goal

pub returns-in-Some : goal.returns-in-Some
returns-in-Some c = search rules

pub returns-in-None : goal.returns-in-None
returns-in-None c = search rules
