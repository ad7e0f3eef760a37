use Rattle.std.proofs.Common.{◌+◌, ◌*◌, map}
use Rattle.fast_check_tree_syntax.specs.Height.{height, highest}
use Rattle.fast_check_source_mended.proofs.edits.+copies.Given as goal

abbrev pub decreases-with_edits : goal.decreases-with_edits
decreases-with_edits l = 2 * height l.tree.now

abbrev pub decreases-all_with_edits : goal.decreases-all_with_edits
decreases-all_with_edits l = 2 * highest (map height l.trees.now) + 1
