use Rattle.fast_check_tree_syntax.specs.Part.{seen}
use Rattle.fast_check_tree_syntax.specs.Height.{height}
use Rattle.fast_check_tree_helpers.proofs.infer_type.+shows_type.Given as goal

abbrev pub decreases-shows_type : goal.decreases-shows_type
decreases-shows_type l = height (seen l.value)
