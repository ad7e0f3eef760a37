-- A move changes no height, so what is defined over the lower trees of a tree moves as its form does.
use Rattle.std.specs.Prelude.{◌≡◌, ℕ, zero, suc, ◌<◌, Bool, true, false, List, [], ◌∷◌, map, refl, if◌then◌else◌}
use Rattle.std.proofs.Common.{arith, ap, ap₂, ◌∙◌, sym, subst}
use Rattle.std.proofs.Math.Dec.{ltb}
use Rattle.std.proofs.lemmas.Bool.{ltb-true}
use Rattle.fast_check_tree_syntax.specs.declared.tree.Tree.{Tree, out-Tree}
use Rattle.fast_check_tree_syntax.specs.declared.tree.Tree.TheOpen.{Tree-F}
use Rattle.fast_check_tree_syntax.specs.declared.tree.Tree.TheFolds.{map-Tree}
use Rattle.fast_check_tree_syntax.specs.Shape.{parts_at, parts, OfAll}
use Rattle.fast_check_tree_syntax.specs.Height.{highest, height_step, height, height_out}
use Rattle.fast_check_tree_syntax.specs.Moves.{Moves, moved, moved_level}
use Rattle.fast_check_tree_syntax.specs.Descent.{is_lower, by_descent, by_descent_is, given}
use Rattle.fast_check_tree_syntax.proofs.Moved.{out_moved, absent_moved}
use Rattle.fast_check_tree_syntax.proofs.Induction.{tree_ind}

module _ (m : Moves) where
  abbrev Stays : Tree → Type 0
  Stays t = height (moved m t) ≡ height t

  each_stays : (ts : List Tree) → OfAll Stays ts → map height (map (moved m) ts) ≡ map height ts
  each_stays [] h = refl
  each_stays (t ∷ ts) h = ap₂ (λ x xs. x ∷ xs) h.0 (each_stays ts h.1)

  level_stays : (l : Tree-F Tree) → OfAll Stays (parts_at l) →
      height_step (map-Tree Tree ℕ height (moved_level m (map-Tree Tree Tree (moved m) l))) ≡ height_step (map-Tree Tree ℕ height l)
  level_stays (Tree-F.Node k ts) h = ap (λ hs. suc (highest hs)) (each_stays ts h)
  level_stays Tree-F.Absent h = refl
  level_stays (Tree-F.Flag x) h = refl
  level_stays (Tree-F.Context x) h = refl
  level_stays (Tree-F.Text x) h = refl
  level_stays (Tree-F.Range x) h = refl
  level_stays (Tree-F.Word x) h = refl

  stays : (t : Tree) → OfAll Stays (parts t) → Stays t
  stays t h =
      height_out (moved m t) ∙
      (ap (λ l. height_step (map-Tree Tree ℕ height l)) (out_moved m t) ∙ (level_stays (out-Tree t) h ∙ sym (height_out t)))

  pub height_moved : (t : Tree) → height (moved m t) ≡ height t
  height_moved = tree_ind Stays (ap height (absent_moved m)) (λ t n h. stays t h)

  pub is_lower_moved : (t u : Tree) → is_lower (moved m u) (moved m t) ≡ is_lower u t
  is_lower_moved t u = ap₂ ltb (height_moved u) (height_moved t)

  -- What two forms give of a tree and of the moved one is related, where it is wherever what they are given of all trees is.
  module _ {A B : Type 0} (R : A → B → Type 0) (none : A) (none' : B) (nones : R none none')
      (form : Tree → (Tree → A) → A) (form' : Tree → (Tree → B) → B)
      (forms : (t : Tree) (look : Tree → A) (look' : Tree → B) → ((u : Tree) → R (look u) (look' (moved m u))) →
      R (form t look) (form' (moved m t) look'))
    where
      pick : (t u : Tree) (b : Bool) → is_lower u t ≡ b →
          (height u < height t → R (by_descent none form u) (by_descent none' form' (moved m u))) →
          R (if b then by_descent none form u else none) (if b then by_descent none' form' (moved m u) else none')
      pick t u false e same = nones
      pick t u true e same = same (ltb-true (height u) (height t) e)

      at_lower : (t u : Tree) → (height u < height t → R (by_descent none form u) (by_descent none' form' (moved m u))) →
          R (given none form t u) (given none' form' (moved m t) (moved m u))
      at_lower t u same =
          subst (λ b. R (given none form t u) (if b then by_descent none' form' (moved m u) else none')) (sym (is_lower_moved t u))
          (pick t u (is_lower u t) refl same)

      limited : (n : ℕ) (t : Tree) → height t < n → R (by_descent none form t) (by_descent none' form' (moved m t))
      limited zero t h = absurd (omega arith)
      limited (suc n) t h =
          subst (λ a. R a (by_descent none' form' (moved m t))) (sym (by_descent_is none form t))
          (subst (λ b. R (form t (given none form t)) b) (sym (by_descent_is none' form' (moved m t)))
          (forms t (given none form t) (given none' form' (moved m t)) (λ u. at_lower t u (λ lower. limited n u (omega arith)))))

      pub by_descent_moved : (t : Tree) → R (by_descent none form t) (by_descent none' form' (moved m t))
      by_descent_moved t = limited (suc (height t)) t (omega arith)
