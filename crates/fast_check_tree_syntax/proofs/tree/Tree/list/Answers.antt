use Rattle.std.proofs.Common.{rules}
use Rattle.fast_check_tree_syntax.proofs.tree.Tree.list.Goals as goal

pub returns : goal.returns
returns c = search rules
