use Rattle.std.proofs.Common.{rules}
use Rattle.fast_check_tree_syntax.proofs.tree.Tree.node.Goals as goal

pub returns-in_err-from_array : goal.returns-in_err-from_array
returns-in_err-from_array g c = search rules

pub returns : goal.returns
returns g c = search rules
