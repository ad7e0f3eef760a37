use Rattle.std.proofs.Common.{◌+◌, ◌*◌, map}
use Rattle.fast_check_tree_syntax.specs.Height.{height, highest}
use Rattle.fast_check_source_scopes.proofs.numbers.+copies.Given as goal

abbrev pub decreases-with_numbers : goal.decreases-with_numbers
decreases-with_numbers l = 2 * height l.tree.now

abbrev pub decreases-all_with_numbers : goal.decreases-all_with_numbers
decreases-all_with_numbers l = 2 * highest (map height l.trees.now) + 1
