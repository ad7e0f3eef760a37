use Rattle.std.proofs.Common.{◌≤◌, ◌+◌, ◌*◌, map, take}
use Rattle.fast_check_tree_syntax.specs.Height.{height, highest}
use Rattle.fast_check_source_walks.proofs.height.+height.Given as goal

abbrev pub decreases-is_at_most : goal.decreases-is_at_most
decreases-is_at_most l = 2 * l.most

abbrev pub decreases-are_at_most : goal.decreases-are_at_most
decreases-are_at_most l = 2 * l.most + 1

abbrev pub invariant-are_at_most-loop-tree : goal.invariant-are_at_most-loop-tree
invariant-are_at_most-loop-tree l = highest (map height (take l.tree-index l.trees)) ≤ l.most
