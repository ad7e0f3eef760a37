-- What a form keeps, whatever is given of the lower trees, holds of what is defined by descent.
use Rattle.std.specs.Prelude.{◌≡◌, ℕ, zero, suc, ◌<◌, Bool, true, false, refl, if◌then◌else◌}
use Rattle.std.proofs.Common.{arith, sym, subst}
use Rattle.std.proofs.lemmas.Bool.{ltb-true}
use Rattle.fast_check_tree_syntax.specs.declared.tree.Tree.{Tree}
use Rattle.fast_check_tree_syntax.specs.Descent.{is_lower, by_descent, by_descent_is, given}
use Rattle.fast_check_tree_syntax.specs.Height.{height}

module _ {A : Type 0} (none : A) (form : Tree → (Tree → A) → A) (P : A → Type 0) (of_none : P none)
    (of_form : (t : Tree) (look : Tree → A) →
    ((u : Tree) → P (look u)) → P (form t look)) where
  given_holds : (t u : Tree) (b : Bool) → is_lower u t ≡ b → (height u < height t → P (by_descent none form u)) →
      P (if b then by_descent none form u else none)
  given_holds t u false e held = of_none
  given_holds t u true e held = held (ltb-true (height u) (height t) e)

  up_to : (n : ℕ) (t : Tree) → height t < n → P (by_descent none form t)
  up_to zero t h = absurd (omega arith)
  up_to (suc n) t h = subst P (sym (by_descent_is none form t))
      (of_form t (given none form t) (λ u. given_holds t u (is_lower u t) refl (λ l. up_to n u (omega (arith, l, h)))))

  pub by_descent_holds : (t : Tree) → P (by_descent none form t)
  by_descent_holds t = up_to (suc (height t)) t (omega arith)
