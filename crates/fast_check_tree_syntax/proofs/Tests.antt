-- Tests of two that are made one after the other.
use Rattle.std.proofs.Common.{◌≡◌, ◌∙◌, sym, ap, Bool, true, false, ◌&&◌, ◌||◌}

pub and_fails : (a b : Bool) → a ≡ false → false ≡ (a && b)
and_fails a b e = sym (ap (λ a. a && b) e)

pub and_holds : (a b : Bool) {c : Bool} → a ≡ true → c ≡ b → c ≡ (a && b)
and_holds a b e f = f ∙ sym (ap (λ a. a && b) e)

pub or_first : (a b : Bool) {c : Bool} → a ≡ true → c ≡ a → c ≡ (a || b)
or_first a b e f = f ∙ (e ∙ sym (ap (λ a. a || b) e))

pub or_second : (a b : Bool) {c : Bool} → a ≡ false → c ≡ b → c ≡ (a || b)
or_second a b e f = f ∙ sym (ap (λ a. a || b) e)
