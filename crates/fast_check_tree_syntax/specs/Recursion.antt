-- Functions of a tree that are defined by one level: what a node gives, where each part comes with its own result.
use Rattle.std.specs.Prelude.{ℕ, zero, suc, List, [], ◌∷◌, ◌≡◌, map, refl, true, false, slice_get, unwrap_or}
use mathlib.Core.Path.{fun_ext}
use Rattle.fast_check_tree_syntax.specs.declared.kind.Kind.{Kind}
use Rattle.fast_check_tree_syntax.specs.declared.kind.Kind.TheVariants.{Leaf}
use Rattle.fast_check_tree_syntax.specs.Shape.{parts_at, kind_of, parts, part, is_absent, is_absent_at, not_absent}
use Rattle.std.proofs.Common.{sym, ap, ◌∙◌, subst}
use Rattle.fast_check_tree_syntax.specs.declared.tree.Tree.{Tree, out-Tree, roll-Tree, roll-out-Tree, Absent}
use Rattle.fast_check_tree_syntax.specs.declared.tree.Tree.TheOpen.{Tree-F}
use Rattle.fast_check_tree_syntax.specs.declared.tree.Tree.TheFolds.{fold-Tree, fold-roll-Tree, fold_out-Tree, ind-Tree}
use Rattle.fast_check_tree_syntax.specs.declared.tree.Tree.TheFolds.{map-Tree}

-- a tree with its result
abbrev pub paired : {A : Type 0} → (Tree-F (Tree × A) → A) → Tree → Tree × A
paired {A} step = fold-Tree (Tree × A) (λ l. (roll-Tree (map-Tree (Tree × A) Tree (λ c. c.0) l), step l))

unfoldable pub recurse : {A : Type 0} → (Tree-F (Tree × A) → A) → Tree → A
recurse step t = (paired step t).1

-- each part with its result
abbrev pub with_results : {A : Type 0} → (Tree → A) → Tree-F Tree → Tree-F (Tree × A)
with_results {A} f = map-Tree Tree (Tree × A) (λ c. (c, f c))

module _ {A : Type 0} (step : Tree-F (Tree × A) → A) where
  same_parts : (es : List ((t : Tree) × ((paired step t).0 ≡ t))) →
      map (λ (c : Tree × A). c.0) (map (paired step) (map (λ e. e.0) es)) ≡ map (λ e. e.0) es
  same_parts [] = refl
  same_parts (e ∷ es) = cc (e.1, same_parts es)

  same_level : (y : Tree-F ((t : Tree) × ((paired step t).0 ≡ t))) →
      map-Tree (Tree × A) Tree (λ c. c.0)
      (map-Tree Tree (Tree × A) (paired step) (map-Tree ((t : Tree) × ((paired step t).0 ≡ t)) Tree (λ e. e.0) y)) ≡
      map-Tree
      ((t : Tree) × ((paired step t).0 ≡ t)) Tree (λ e. e.0) y
  same_level (Tree-F.Node kind es) = ap (λ ps. Tree-F.Node kind ps) (same_parts es)
  same_level Tree-F.Absent = refl
  same_level (Tree-F.Flag x) = refl
  same_level (Tree-F.Context x) = refl
  same_level (Tree-F.Text x) = refl
  same_level (Tree-F.Range x) = refl
  same_level (Tree-F.Word x) = refl

  -- the tree of the pair is the tree itself
  pub paired-tree : (t : Tree) → (paired step t).0 ≡ t
  paired-tree = ind-Tree (λ t. (paired step t).0 ≡ t) (λ x y is.
      ap (λ p. p.0) (fold-roll-Tree (Tree × A) (λ l. (roll-Tree (map-Tree (Tree × A) Tree (λ c. c.0) l), step l)) x)
      ∙ ap roll-Tree
      (subst (λ z. map-Tree (Tree × A) Tree (λ c. c.0) (map-Tree Tree (Tree × A) (paired step) z) ≡ z) is
      (same_level y)))

  pub paired-is : (t : Tree) → paired step t ≡ (t, recurse step t)
  unfolding recurse
  paired-is t = ap (λ u. (u, (paired step t).1)) (paired-tree t)

  all_paired : (ts : List Tree) → map (paired step) ts ≡ map (λ c. (c, recurse step c)) ts
  all_paired [] = refl
  all_paired (t ∷ ts) = cc (paired-is t, all_paired ts)

  level_paired : (l : Tree-F Tree) → map-Tree Tree (Tree × A) (paired step) l ≡ with_results (recurse step) l
  level_paired (Tree-F.Node kind ts) = ap (λ ps. Tree-F.Node kind ps) (all_paired ts)
  level_paired Tree-F.Absent = refl
  level_paired (Tree-F.Flag x) = refl
  level_paired (Tree-F.Context x) = refl
  level_paired (Tree-F.Text x) = refl
  level_paired (Tree-F.Range x) = refl
  level_paired (Tree-F.Word x) = refl

  -- the equation of `recurse`
  pub recurse_out : (t : Tree) → recurse step t ≡ step (with_results (recurse step) (out-Tree t))
  unfolding recurse
  recurse_out t =
      ap (λ p. p.1) (fold_out-Tree (Tree × A) (λ l. (roll-Tree (map-Tree (Tree × A) Tree (λ c. c.0) l), step l)) t)
      ∙ ap step (level_paired (out-Tree t))

-- A function of a tree by its forms: what a tree gives of what its parts give. `given` is what the part at a place
-- gives, and `all` what each part gives.
module _ {A : Type 0} (absent : A) (form : Tree → (ℕ → A) → List A → A) where
  abbrev by_form_step : Tree-F (Tree × A) → A
  by_form_step Tree-F.Absent = absent
  by_form_step l = form (roll-Tree (map-Tree (Tree × A) Tree (λ c. c.0) l))
      (λ i. unwrap_or (slice_get (map (λ (c : Tree × A). c.1) (parts_at l)) i) absent)
      (map (λ (c : Tree × A). c.1) (parts_at l))

  unfoldable pub by_form : Tree → A
  by_form = recurse by_form_step

  pub by_form_absent : by_form Absent ≡ absent
  unfolding by_form out-Tree recurse denote.Hole.Carrier.out
  by_form_absent = recurse_out by_form_step Absent

  trees_of : (ts : List Tree) → map (λ (c : Tree × A). c.0) (map (λ c. (c, by_form c)) ts) ≡ ts
  trees_of [] = refl
  trees_of (t ∷ ts) = ap (λ us. t ∷ us) (trees_of ts)

  results_of : (ts : List Tree) → map (λ (c : Tree × A). c.1) (map (λ c. (c, by_form c)) ts) ≡ map by_form ts
  results_of [] = refl
  results_of (t ∷ ts) = ap (λ us. by_form t ∷ us) (results_of ts)

  result_at : (ts : List Tree) (i : ℕ) → unwrap_or (slice_get (map by_form ts) i) absent ≡ by_form
      (unwrap_or (slice_get ts i) Absent)
  result_at [] i = sym by_form_absent
  result_at (t ∷ ts) zero = refl
  result_at (t ∷ ts) (suc i) = result_at ts i

  at_leaf : (l : Tree-F Tree) → form (roll-Tree l) (λ i. absent) [] ≡ form (roll-Tree l) (λ i. by_form Absent) []
  at_leaf l = ap (λ a. form (roll-Tree l) (λ i. a) []) (sym by_form_absent)

  at_level : (l : Tree-F Tree) → is_absent_at l ≡ false → by_form_step (with_results by_form l) ≡
      form (roll-Tree l) (λ i. by_form (unwrap_or (slice_get (parts_at l) i) Absent)) (map by_form (parts_at l))
  at_level (Tree-F.Node k ts) not_absent =
      ap (λ us. form (roll-Tree (Tree-F.Node k us))
      (λ i. unwrap_or (slice_get (map (λ (c : Tree × A). c.1) (map (λ c. (c, by_form c)) ts)) i) absent)
      (map (λ (c : Tree × A). c.1) (map (λ c. (c, by_form c)) ts))) (trees_of ts)
      ∙ (ap (λ rs. form (roll-Tree (Tree-F.Node k ts)) (λ i. unwrap_or (slice_get rs i) absent) rs) (results_of ts)
      ∙ ap (λ at. form (roll-Tree (Tree-F.Node k ts)) at (map by_form ts)) (fun_ext (result_at ts)))
  at_level Tree-F.Absent not_absent = cc
  at_level (Tree-F.Flag x) not_absent = at_leaf (Tree-F.Flag x)
  at_level (Tree-F.Context x) not_absent = at_leaf (Tree-F.Context x)
  at_level (Tree-F.Text x) not_absent = at_leaf (Tree-F.Text x)
  at_level (Tree-F.Range x) not_absent = at_leaf (Tree-F.Range x)
  at_level (Tree-F.Word x) not_absent = at_leaf (Tree-F.Word x)

  -- the equation of `by_form`
  pub by_form_is : (t : Tree) → is_absent t ≡ false → by_form t ≡ form t (λ i. by_form (part i t))
      (map by_form (parts t))
  unfolding by_form
  by_form_is t not_absent = recurse_out by_form_step t ∙ (at_level (out-Tree t) not_absent
      ∙ ap (λ u. form u (λ i. by_form (part i t)) (map by_form (parts t))) (roll-out-Tree t))

  -- the same, of a node of a known kind
  pub by_form_node : (t : Tree) (kind : Kind) → kind_of t ≡ kind → (kind ≡ Leaf → ⊥) →
      by_form t ≡ form t (λ i. by_form (part i t)) (map by_form (parts t))
  by_form_node t kind e not_leaf = by_form_is t (not_absent t kind e not_leaf)

  absent_level : (l : Tree-F Tree) → is_absent_at l ≡ true → by_form_step (with_results by_form l) ≡ absent
  absent_level Tree-F.Absent e = refl
  absent_level (Tree-F.Node j ts) e = cc
  absent_level (Tree-F.Flag x) e = cc
  absent_level (Tree-F.Context x) e = cc
  absent_level (Tree-F.Text x) e = cc
  absent_level (Tree-F.Range x) e = cc
  absent_level (Tree-F.Word x) e = cc

  -- at an empty option
  pub by_form_is_absent : (t : Tree) → is_absent t ≡ true → by_form t ≡ absent
  unfolding by_form
  by_form_is_absent t e = recurse_out by_form_step t ∙ absent_level (out-Tree t) e
