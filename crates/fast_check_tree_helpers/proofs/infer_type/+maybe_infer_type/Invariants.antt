use Rattle.fast_check_tree_syntax.specs.Part.{seen}
use Rattle.fast_check_tree_syntax.specs.Height.{height}
use Rattle.fast_check_tree_helpers.proofs.infer_type.+maybe_infer_type.Given as goal

abbrev pub decreases-maybe_infer_type : goal.decreases-maybe_infer_type
decreases-maybe_infer_type l = height (seen l.value)
