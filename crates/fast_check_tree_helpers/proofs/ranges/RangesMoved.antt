-- The range of a moved node is the node's range, moved.
use Rattle.std.specs.Prelude.{◌≡◌, ℕ, refl}
use Rattle.std.proofs.Common.{ap, ◌∙◌}
use Rattle.fast_check_tree_syntax.specs.declared.kind.Kind.{Kind}
use Rattle.fast_check_tree_syntax.specs.declared.kind.Kind.TheVariants as kinds
use Rattle.fast_check_tree_syntax.specs.declared.tree.Tree.{Tree}
use Rattle.fast_check_tree_syntax.specs.Shape.{kind_of, part, range_of}
use Rattle.fast_check_tree_syntax.specs.Moves.{Moves, Keeps, moved, moved_range}
use Rattle.fast_check_tree_syntax.proofs.Moved.{kind_of_moved, part_moved, range_of_moved}
use Rattle.fast_check_tree_helpers.specs.ranges.Ranges.{target_by_kind, without_target, expr_by_kind, without_marks, range_by_kind, range_of_form}
use Rattle.fast_check_tree_helpers.specs.ranges.Ranges.{range_of_node}

module _ (m : Moves) where
  target_moved : (k : Kind) (t : Tree) → target_by_kind k (moved m t) ≡ moved m (target_by_kind k t)
  target_moved kinds.TargetPat t = part_moved m 0 t
  target_moved _ t = refl

  pub without_target_moved : (t : Tree) → without_target (moved m t) ≡ moved m (without_target t)
  without_target_moved t = ap (λ k. target_by_kind k (moved m t)) (kind_of_moved m t) ∙ target_moved (kind_of t) t

  expr_moved : (k : Kind) (t : Tree) → expr_by_kind k (moved m t) ≡ moved m (expr_by_kind k t)
  expr_moved kinds.PatExpr t = part_moved m 0 t
  expr_moved _ t = refl

  pub without_marks_moved : (t : Tree) → without_marks (moved m t) ≡ moved m (without_marks t)
  without_marks_moved t =
      let pat = without_target t in
      ap (λ u. expr_by_kind (kind_of u) u) (without_target_moved t)
      ∙ (ap (λ k. expr_by_kind k (moved m pat)) (kind_of_moved m pat) ∙ expr_moved (kind_of pat) pat)

module _ (m : Moves) (ok : Keeps m) where
  own : (i : ℕ) (t : Tree) → range_of (part i (moved m t)) ≡ moved_range m (range_of (part i t))
  own i t = ap range_of (part_moved m i t) ∙ range_of_moved m ok (part i t)

  inner : (i k : ℕ) (t : Tree) → range_of (part k (part i (moved m t))) ≡ moved_range m (range_of (part k (part i t)))
  inner i k t = ap (λ u. range_of (part k u)) (part_moved m i t) ∙ own k (part i t)

  range_moved : (k : Kind) (t : Tree) → range_by_kind k (moved m t) ≡ moved_range m (range_by_kind k t)
  range_moved kinds.ClassDecl t = inner 2 0 t
  range_moved kinds.ClassExpr t = inner 1 0 t
  range_moved kinds.FnDecl t = inner 2 0 t
  range_moved kinds.FnExpr t = inner 1 0 t
  range_moved kinds.BindingIdent t = inner 0 0 t
  range_moved kinds.ExportDefaultSpecifier t = inner 0 0 t
  range_moved _ t = own 0 t

  pub range_of_form_moved : (t : Tree) → range_of_form (moved m t) ≡ moved_range m (range_of_form t)
  range_of_form_moved t = ap (λ k. range_by_kind k (moved m t)) (kind_of_moved m t) ∙ range_moved (kind_of t) t

  pub range_of_node_moved : (t : Tree) → range_of_node (moved m t) ≡ moved_range m (range_of_node t)
  range_of_node_moved t = ap range_of_form (without_marks_moved m t) ∙ range_of_form_moved (without_marks t)
