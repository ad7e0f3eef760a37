-- Equality of values as a test: two values are the same where their codes are.
use Rattle.std.specs.Prelude.{◌≡◌, refl, Bool, true, false, ◌&&◌, nat_eq}
use Rattle.std.proofs.Common.{Decides, ap, subst}
use Rattle.std.specs.Cmp.{IsEquivalence, IsPartialEquivalence, decided, partial_equiv_from_equiv, unsigned_Decides}
use Rattle.std.proofs.lemmas.Bool.{false≢true, and_parts, and_from}
use base.Stored.{Coded, Gv, gnil, gnum, gcons}

unfoldable pub same_code : Gv → Gv → Bool
same_code gnil gnil = true
same_code (gnum m) (gnum n) = nat_eq m n
same_code (gcons a b) (gcons c d) = same_code a c && same_code b d
same_code _ _ = false

-- whether two values of a type are the same
abbrev pub same : {A : Type 0} → Coded A → A → A → Bool
same c x y = same_code (c.code x) (c.code y)

to_same : (x y : Gv) → same_code x y ≡ true → x ≡ y
unfolding same_code
to_same gnil gnil e = refl
to_same gnil (gnum n) e = absurd (false≢true e)
to_same gnil (gcons c d) e = absurd (false≢true e)
to_same (gnum m) gnil e = absurd (false≢true e)
to_same (gnum m) (gnum n) e = ap gnum ((unsigned_Decides m n).0 e)
to_same (gnum m) (gcons c d) e = absurd (false≢true e)
to_same (gcons a b) gnil e = absurd (false≢true e)
to_same (gcons a b) (gnum n) e = absurd (false≢true e)
to_same (gcons a b) (gcons c d) e =
    let s = and_parts (same_code a c) (same_code b d) e in λ i. gcons (to_same a c s.0 i) (to_same b d s.1 i)

itself : (x : Gv) → same_code x x ≡ true
unfolding same_code
itself gnil = refl
itself (gnum n) = (unsigned_Decides n n).1 refl
itself (gcons a b) = and_from (same_code a a) (same_code b b) (itself a) (itself b)

of_same : (x y : Gv) → x ≡ y → same_code x y ≡ true
of_same x y e = subst (λ (z : Gv). same_code x z ≡ true) e (itself x)

-- the test holds exactly of equal values
pub same-decides : {A : Type 0} (c : Coded A) (x y : A) → Decides (same c x y) (x ≡ y)
same-decides c x y =
    (λ e. c.inj x y (to_same (c.code x) (c.code y) e), λ e. of_same (c.code x) (c.code y) (ap c.code e))

pub same-equiv : {A : Type 0} (c : Coded A) → IsEquivalence (same c)
same-equiv c = decided (same c) (same-decides c)

pub same-per : {A : Type 0} (c : Coded A) → IsPartialEquivalence (same c)
same-per c = partial_equiv_from_equiv (same-equiv c)
