use Rattle.std.proofs.Common.{◌≡◌, ◌+◌, ◌*◌, max, map, drop}
use Rattle.fast_check_tree_syntax.specs.Height.{height, highest}
use Rattle.fast_check_source_walks.specs.Ranges.{end_of}
use Rattle.fast_check_source_walks.proofs.ends.+ends.Given as goal

abbrev pub decreases-end_of : goal.decreases-end_of
decreases-end_of l = 2 * height l.tree.now

abbrev pub decreases-end_of_all : goal.decreases-end_of_all
decreases-end_of_all l = 2 * highest (map height l.trees.now) + 1

abbrev pub invariant-end_of_all-loop-tree : goal.invariant-end_of_all-loop-tree
invariant-end_of_all-loop-tree l = max l.end (highest (map end_of (drop l.tree-index l.trees))) ≡ highest (map end_of l.trees)
