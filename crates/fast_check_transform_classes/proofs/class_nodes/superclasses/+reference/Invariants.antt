use Rattle.std.proofs.Common.{◌+◌, ◌*◌}
use Rattle.fast_check_tree_syntax.specs.Part.{seen}
use Rattle.fast_check_tree_syntax.specs.Height.{height}
use Rattle.fast_check_transform_classes.proofs.class_nodes.superclasses.+reference.Given as goal

abbrev pub decreases-is_reference : goal.decreases-is_reference
decreases-is_reference l = 2 * height (seen l.expr) + 1

abbrev pub decreases-is_reference_property : goal.decreases-is_reference_property
decreases-is_reference_property l = 2 * height (seen l.prop)
