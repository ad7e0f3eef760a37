use Rattle.fast_check_tree_syntax.specs.Part.{seen}
use Rattle.fast_check_tree_syntax.specs.Height.{height}
use Rattle.fast_check_tree_helpers.proofs.named_bodies.+names_type.Given as goal

abbrev pub decreases-names_type : goal.decreases-names_type
decreases-names_type l = height (seen l.value)
