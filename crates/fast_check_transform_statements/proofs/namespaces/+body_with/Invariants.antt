use Rattle.fast_check_tree_syntax.specs.Part.{seen}
use Rattle.fast_check_tree_syntax.specs.Height.{height}
use Rattle.fast_check_transform_statements.proofs.namespaces.+body_with.Given as goal

abbrev pub decreases-body_with : goal.decreases-body_with
decreases-body_with l = height (seen l.body)
