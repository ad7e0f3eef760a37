-- The first element that passes a test, as a search from the front comes to it; and one element more.
use Rattle.std.proofs.Common.{◌≡◌, ◌∙◌, sym, ap, ℕ, zero, suc, ◌+◌, ◌<◌, Bool, cond, List, [], ◌∷◌, ◌++◌, Some, None, map}
use Rattle.std.proofs.Common.{take, length, get_or, ⊎_elim, arith, add-one}
use Rattle.std.specs.List.{find}
use Rattle.std.proofs.lemmas.Bool.{cases_Bool}
use Rattle.std.proofs.lemmas.Option.{none-some}

module _ {X Y : Type 0} (p : Y → Bool) (f : X → Y) where
  -- none so far, and the next one
  pub first_at : (xs : List X) (i : ℕ) (x : X) → i < length xs → x ≡ get_or xs i x → find p (map f (take i xs)) ≡ None → (y : Y) →
      find p (f x ∷ []) ≡ Some y → find p (map f xs) ≡ Some y
  first_at [] i x le is none y h = absurd (omega (arith, le))
  first_at (z ∷ zs) zero x le is none y h =
      let g : find p (f z ∷ []) ≡ Some y = ap (λ (w : X). find p (f w ∷ [])) (sym is) ∙ h in
      ⊎_elim (λ t. ap (λ (b : Bool). cond b (Some (f z)) (find p (map f zs))) t ∙ (sym (ap (λ (b : Bool). cond b (Some (f z)) None) t) ∙ g))
      (λ e. absurd (none-some y (sym (ap (λ (b : Bool). cond b (Some (f z)) None) e) ∙ g)))
      (cases_Bool (p (f z)))
  first_at (z ∷ zs) (suc i) x le is none y h =
      ⊎_elim (λ t. absurd (none-some (f z) (sym none ∙ ap (λ (b : Bool). cond b (Some (f z)) (find p (map f (take i zs)))) t)))
      (λ e. ap (λ (b : Bool). cond b (Some (f z)) (find p (map f zs))) e ∙
      first_at zs i x (omega (arith, le)) is (sym (ap (λ (b : Bool). cond b (Some (f z)) (find p (map f (take i zs)))) e) ∙ none) y h)
      (cases_Bool (p (f z)))

module _ {X Y : Type 0} (f : X → Y) where
  one_more : (xs : List X) (i : ℕ) (x : X) → i < length xs → x ≡ get_or xs i x → map f (take (suc i) xs) ≡ map f (take i xs) ++ f x ∷ []
  one_more [] i x le is = absurd (omega (arith, le))
  one_more (z ∷ zs) zero x le is = ap (λ (w : X). f w ∷ []) (sym is)
  one_more (z ∷ zs) (suc i) x le is = ap (λ (ys : List Y). f z ∷ ys) (one_more zs i x (omega (arith, le)) is)

  -- one more comes last
  pub one_after : (xs : List X) (i : ℕ) (x : X) → i < length xs → x ≡ get_or xs i x → map f (take (i + 1) xs) ≡ map f (take i xs) ++ f x ∷ []
  one_after xs i x le is = rw add-one (one_more xs i x le is)
