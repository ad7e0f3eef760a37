use Rattle.fast_check_tree_syntax.specs.Part.{seen}
use Rattle.fast_check_tree_syntax.specs.Height.{height}
use Rattle.fast_check_transform_statements.proofs.namespaces.+innermost.Given as goal

abbrev pub decreases-innermost : goal.decreases-innermost
decreases-innermost l = height (seen l.body)
