use Rattle.std.proofs.Common.{◌≡◌, take}
use Rattle.fast_check_tree_syntax.proofs.tree.+clone.Given as goal

abbrev pub invariant-clone_all-loop-tree : goal.invariant-clone_all-loop-tree
invariant-clone_all-loop-tree l = l.copies ≡ take l.tree-index l.trees
