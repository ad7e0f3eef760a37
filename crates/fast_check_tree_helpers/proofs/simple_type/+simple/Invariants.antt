use Rattle.std.proofs.Common.{◌≡◌, true, take, ◌+◌, ◌*◌}
use Rattle.std.specs.List.{list_all}
use Rattle.fast_check_tree_syntax.specs.Part.{seen}
use Rattle.fast_check_tree_syntax.specs.Height.{height}
use Rattle.fast_check_tree_helpers.specs.SimpleType.{is_simple_type}
use Rattle.fast_check_tree_helpers.proofs.simple_type.+simple.Given as goal

abbrev pub decreases-is_simple_type : goal.decreases-is_simple_type
decreases-is_simple_type l = 2 * height (seen l.ty) + 1

abbrev pub decreases-are_simple_types : goal.decreases-are_simple_types
decreases-are_simple_types l = 2 * height (seen l.types)

abbrev pub invariant-are_simple_types-loop-ty : goal.invariant-are_simple_types-loop-ty
invariant-are_simple_types-loop-ty l = list_all is_simple_type (take l.ty-index l.ty-items) ≡ true
