-- Each form by itself: both lists of members are written out, and are the same.
use Rattle.std.specs.Prelude.{refl}
use Rattle.fast_check_tree_syntax.specs.declared.kind.Kind.TheVariants as kinds
use Rattle.fast_check_json.specs.Places.{FieldsStandInPlace}

pub in_place : FieldsStandInPlace
in_place kinds.Leaf t = refl
in_place _ t = refl
