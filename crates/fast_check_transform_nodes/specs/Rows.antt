-- Inner: no contract of a public call cites what stands here.
-- The row of an expression that stays slot by slot.
use Rattle.std.specs.Prelude.{Bool, Option, Some, None, List}
use Rattle.fast_check_tree_syntax.specs.declared.kind.Kind.{Kind}
use Rattle.fast_check_meaning_signatures.specs.declared.rules.Slot.{Slot}
use Rattle.fast_check_meaning_signatures.specs.Expressions.{Rule, slotted, other_rule}

abbrev pub row_in : Rule → Option (List Slot)
row_in (slotted row) = Some row
row_in _ = None

-- by its kind, and for a call and for `new` by whether it is one that is known
abbrev pub row_of : Kind → Bool → Option (List Slot)
row_of kind known = row_in (other_rule kind known)
