-- Each choice and each form by itself: both sides are written out, and are the same.
use Rattle.std.specs.Prelude.{refl}
use Rattle.fast_check_tree_syntax.specs.declared.kind.Kind.TheVariants as kinds
use Rattle.fast_check_read.specs.declared.schema.form.Choice.TheVariants as choices
use Rattle.fast_check_json.specs.Variants.{VariantsAreNamed}
use Rattle.fast_check_json.specs.Counts.{FieldsAreCounted}

pub named : VariantsAreNamed
named choices.Lit = refl
named _ = refl

pub counted : FieldsAreCounted
counted kinds.Leaf = refl
counted _ = refl
