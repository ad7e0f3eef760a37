use Rattle.std.proofs.Common.{arith, rules}
use Rattle.fast_check_tree_syntax.proofs.Made.{kind_of_node}
use Rattle.fast_check_tree_syntax.proofs.part.Part.kind.Goals as goal

pub returns-in_default : goal.returns-in_default
returns-in_default c = search rules

pub returns-in-Some-Node : goal.returns-in-Some-Node
returns-in-Some-Node c = grind (arith, kind_of_node)
