-- What holds of an empty option, and of each tree of which it holds of the parts, holds of all trees.
use Rattle.std.specs.Prelude.{◌≡◌, ℕ, zero, suc, false, List, [], ◌∷◌, map, refl, slice_get, unwrap_or}
use Rattle.std.proofs.Common.{ap, ◌∙◌, sym, subst}
use Rattle.fast_check_tree_syntax.specs.declared.tree.Tree.{Tree, roll-Tree, Absent, out-roll-Tree}
use Rattle.fast_check_tree_syntax.specs.declared.tree.Tree.TheOpen.{Tree-F}
use Rattle.fast_check_tree_syntax.specs.declared.tree.Tree.TheFolds.{ind-Tree, map-Tree}
use Rattle.fast_check_tree_syntax.specs.Shape.{parts_at, parts, is_absent, is_absent_at, OfAll}

module _ (P : Tree → Type 0) (absent : P Absent) (step : (t : Tree) → is_absent t ≡ false → OfAll P (parts t) → P t) where
  abbrev Held : Type 0
  Held = (t : Tree) × P t

  all_held : (es : List Held) → OfAll P (map (λ e. e.0) es)
  all_held [] = tt
  all_held (e ∷ es) = (e.1, all_held es)

  made : (x : Tree-F Tree) → is_absent_at x ≡ false → OfAll P (parts_at x) → P (roll-Tree x)
  made x n h = step (roll-Tree x) (ap is_absent_at (out-roll-Tree x) ∙ n) (subst (λ z. OfAll P (parts_at z)) (sym (out-roll-Tree x)) h)

  made_absent : P (roll-Tree Tree-F.Absent)
  unfolding roll-Tree denote.Hole.Carrier.roll
  made_absent = absent

  level : (y : Tree-F Held) → P (roll-Tree (map-Tree Held Tree (λ e. e.0) y))
  level Tree-F.Absent = made_absent
  level (Tree-F.Node k es) = made (Tree-F.Node k (map (λ e. e.0) es)) refl (all_held es)
  level (Tree-F.Flag x) = made (Tree-F.Flag x) refl tt
  level (Tree-F.Context x) = made (Tree-F.Context x) refl tt
  level (Tree-F.Text x) = made (Tree-F.Text x) refl tt
  level (Tree-F.Range x) = made (Tree-F.Range x) refl tt
  level (Tree-F.Word x) = made (Tree-F.Word x) refl tt

  pub tree_ind : (t : Tree) → P t
  tree_ind = ind-Tree P (λ x y is. subst (λ z. P (roll-Tree z)) is (level y))

-- of the part at a place
pub at_part : (P : Tree → Type 0) → P Absent → (ts : List Tree) → OfAll P ts → (i : ℕ) → P (unwrap_or (slice_get ts i) Absent)
at_part P a [] h i = a
at_part P a (t ∷ ts) h zero = h.0
at_part P a (t ∷ ts) h (suc i) = at_part P a ts h.1 i
