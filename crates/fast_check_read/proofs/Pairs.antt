-- Arrays of two items.
use Rattle.std.proofs.Common.{◌≡◌, ◌∙◌, ◌<◌, ◌≤◌, List, [], ◌∷◌, length, get_or, Some, None, refl}
use Rattle.std.proofs.Common.{ap, arith}
use Rattle.serde_json.specs.View.{view, items_view}
use Rattle.serde_json.specs.declared.value.Value.{Value}
use Rattle.fast_check_read.specs.Pieces.{pair_of_items}

pub two : (vs : List Value) (v w : Value) → 2 ≤ length vs → length vs < 3 → v ≡ get_or vs 0 v → w ≡ get_or vs 1 w
    → Some (view v, view w) ≡ pair_of_items (items_view vs)
two [] v w more less first second = absurd (omega arith)
two (a ∷ []) v w more less first second = absurd (omega arith)
two (a ∷ b ∷ []) v w more less first second = ap (λ x. Some (view x, view w)) first ∙ ap (λ y. Some (view a, view y)) second
two (a ∷ b ∷ d ∷ vs) v w more less first second = absurd (omega arith)

pub too_few : (vs : List Value) → length vs < 2 → pair_of_items (items_view vs) ≡ None
too_few [] less = refl
too_few (a ∷ []) less = refl
too_few (a ∷ b ∷ vs) less = absurd (omega arith)

pub too_many : (vs : List Value) → 3 ≤ length vs → pair_of_items (items_view vs) ≡ None
too_many [] more = absurd (omega arith)
too_many (a ∷ []) more = absurd (omega arith)
too_many (a ∷ b ∷ []) more = absurd (omega arith)
too_many (a ∷ b ∷ d ∷ vs) more = refl
