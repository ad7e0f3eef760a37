use Rattle.std.proofs.Common.{◌+◌, ◌*◌}
use Rattle.fast_check_tree_syntax.specs.Part.{seen}
use Rattle.fast_check_tree_syntax.specs.Height.{height}
use Rattle.fast_check_source_comments.proofs.leaves.+leaves.Given as goal

abbrev pub decreases-push_leaves : goal.decreases-push_leaves
decreases-push_leaves l = 2 * height (seen l.part) + 1

abbrev pub decreases-push_each : goal.decreases-push_each
decreases-push_each l = 2 * height (seen l.part)
