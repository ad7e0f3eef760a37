-- The rows of expressions that stay slot by slot: what becomes of each field of a form, in their order.
use Rattle.std.specs.Prelude.{List, [], ◌∷◌}
use Rattle.fast_check_meaning_signatures.specs.declared.rules.Slot.{Slot}
use Rattle.fast_check_meaning_signatures.specs.declared.rules.Slot.TheVariants as slots

-- `value satisfies type`: the value as it stays
abbrev pub satisfies_row : List Slot
satisfies_row = slots.Span ∷ slots.Value ∷ slots.Written ∷ []

-- `value as type`, `<type>value`: the value does not count
abbrev pub assertion_row : List Slot
assertion_row = slots.Span ∷ slots.Never ∷ slots.Written ∷ []

-- a function expression
abbrev pub fn_expr_row : List Slot
fn_expr_row = slots.Written ∷ slots.Function ∷ []

-- `Object.freeze(x)`, and `new C(x)` of a class without type parameters: the arguments as they stay
abbrev pub arguments_row : List Slot
arguments_row = slots.Span ∷ slots.Scope ∷ slots.Written ∷ slots.Value ∷ slots.Written ∷ []
