use Rattle.std.proofs.Common.{arith}
use Rattle.fast_check_tree_syntax.proofs.Made.{part_node}
use Rattle.fast_check_tree_syntax.proofs.part.Part.part.Goals as goal

pub returns-in-Some-Node : goal.returns-in-Some-Node
returns-in-Some-Node c = grind (arith, part_node)
