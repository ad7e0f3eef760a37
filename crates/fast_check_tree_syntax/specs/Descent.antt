-- Functions of a tree that are defined over the lower trees inside of it, by whatever names these have there.
use Rattle.std.specs.Prelude.{ℕ, zero, suc, Bool, true, false, ◌≡◌, ◌<◌, refl, if◌then◌else◌}
use Rattle.std.proofs.Common.{arith, ap}
use mathlib.Core.Path.{fun_ext}
use Rattle.std.proofs.Math.Dec.{ltb}
use Rattle.std.proofs.lemmas.Bool.{lt-ltb, ltb-true}
use Rattle.fast_check_tree_syntax.specs.declared.kind.Kind.TheVariants.{Leaf}
use Rattle.fast_check_tree_syntax.specs.declared.tree.Tree.{Tree}
use Rattle.fast_check_tree_syntax.specs.Shape.{kind_of, part}
use Rattle.fast_check_tree_syntax.specs.Height.{height, height_part, height_inner}

-- whether a tree is lower than another
abbrev pub is_lower : Tree → Tree → Bool
is_lower inner outer = ltb (height inner) (height outer)

-- `form` says what a tree gives, where `given` is what each lower tree gives; of any other it is `none`
module _ {A : Type 0} (none : A) (form : Tree → (Tree → A) → A) where
  -- as far down as a number says
  pub below : ℕ → Tree → A
  below zero t = none
  below (suc n) t = form t (λ u. if is_lower u t then below n u else none)

  unfoldable pub by_descent : Tree → A
  by_descent t = below (suc (height t)) t

  -- what a tree's form is given of another tree
  abbrev pub given : Tree → Tree → A
  given t u = if is_lower u t then by_descent u else none

  -- any depth that is enough gives the same
  enough : (n k : ℕ) (t : Tree) → height t < n → height t < k → below n t ≡ below k t
  unfolding below
  enough zero k t h g = absurd (omega arith)
  enough (suc n) zero t h g = absurd (omega arith)
  enough (suc n) (suc k) t h g = ap (form t) (fun_ext (λ u. pick u (is_lower u t) refl (enough n k u)))
    where
      pick : (u : Tree) (b : Bool) → is_lower u t ≡ b → (height u < n → height u < k → below n u ≡ below k u) →
          (if b then below n u else none) ≡ (if b then below k u else none)
      pick u false e same = refl
      pick u true e same = same (omega (arith, ltb-true (height u) (height t) e))
          (omega (arith, ltb-true (height u) (height t) e))

  -- the equation of `by_descent`
  pub by_descent_is : (t : Tree) → by_descent t ≡ form t (given t)
  unfolding by_descent below
  by_descent_is t = ap (form t) (fun_ext (λ u. go u (is_lower u t) refl))
    where
      go : (u : Tree) (b : Bool) → is_lower u t ≡ b → (if b then below (height t) u else none) ≡
          (if b then by_descent u else none)
      go u false e = refl
      go u true e = enough (height t) (suc (height u)) u (ltb-true (height u) (height t) e) (omega arith)

  -- a lower tree gives what it gives by itself
  pub given_lower : (t u : Tree) → height u < height t → given t u ≡ by_descent u
  given_lower t u h = ap (λ b. if b then by_descent u else none) (lt-ltb (height u) (height t) h)

  -- so does a part
  pub given_part : (t : Tree) (i : ℕ) → (kind_of t ≡ Leaf → ⊥) → given t (part i t) ≡ by_descent (part i t)
  given_part t i e = given_lower t (part i t) (height_part t i e)

  -- and a part of a part
  pub given_inner : (t : Tree) (i k : ℕ) → (kind_of t ≡ Leaf → ⊥) →
      given t (part k (part i t)) ≡ by_descent (part k (part i t))
  given_inner t i k e = given_lower t (part k (part i t)) (height_inner t i k e)
