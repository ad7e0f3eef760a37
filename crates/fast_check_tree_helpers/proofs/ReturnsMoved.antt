-- A move changes neither how a body returns nor which parameters are optional.
use Rattle.std.proofs.Common.{◌≡◌, ℕ, Bool, List, [], ◌∷◌, map, refl, ap, ap₂, ◌∙◌}
use Rattle.fast_check_tree_syntax.specs.declared.kind.Kind.{Kind}
use Rattle.fast_check_tree_syntax.specs.declared.kind.Kind.TheVariants as kinds
use Rattle.fast_check_tree_syntax.specs.declared.tree.Tree.{Tree}
use Rattle.fast_check_tree_syntax.specs.Shape.{kind_of, parts}
use Rattle.fast_check_tree_syntax.specs.Moves.{Moves, moved}
use Rattle.fast_check_tree_syntax.proofs.Moved.{kind_of_moved, part_moved, parts_moved, is_absent_moved, flag_of_moved}
use Rattle.fast_check_tree_forms_statements.specs.Statements.{BlockStmt-stmts}
use Rattle.fast_check_tree_helpers.specs.Places.{at-BlockStmt-stmts}
use Rattle.fast_check_tree_helpers.specs.OptionalParams.{optional_by_kind, is_optional_param}
use Rattle.fast_check_tree_helpers.specs.ReturnClass.{returns, returns_form, returns_by_kind, class_of_body, return_class}
use Rattle.fast_check_tree_helpers.proofs.Levels.{moved_stays}
use Rattle.fast_check_tree_helpers.proofs.Returns.{returns_out}

module _ (m : Moves) where
  by_kind_moved : (k : Kind) (t : Tree) (inside : ℕ → List Bool) (each : List (List Bool)) →
      returns_by_kind k (moved m t) inside each ≡ returns_by_kind k t inside each
  by_kind_moved kinds.ReturnStmt t inside each = simp (part_moved, is_absent_moved)
  by_kind_moved _ t inside each = refl

  pub returns_moved : (t : Tree) → returns (moved m t) ≡ returns t
  returns_moved = moved_stays m returns returns_form returns_out
      (λ t inside each. ap (λ k. returns_by_kind k (moved m t) inside each) (kind_of_moved m t) ∙ by_kind_moved (kind_of t) t inside each)

  class_of_map : (ts : List Tree) (rs : List Bool) → class_of_body (map (moved m) ts) rs ≡ class_of_body ts rs
  class_of_map [] rs = refl
  class_of_map (t ∷ ts) rs = refl

  pub return_class_moved : (t : Tree) → return_class (moved m t) ≡ return_class t
  return_class_moved t =
      ap₂ class_of_body (ap parts (part_moved m at-BlockStmt-stmts.place t) ∙ parts_moved m (BlockStmt-stmts t)) (returns_moved t)
      ∙ class_of_map (parts (BlockStmt-stmts t)) (returns t)

  optional_moved : (k : Kind) (t : Tree) → optional_by_kind k (moved m t) ≡ optional_by_kind k t
  optional_moved kinds.BindingIdent t = simp (part_moved, flag_of_moved)
  optional_moved kinds.ArrayPat t = simp (part_moved, flag_of_moved)
  optional_moved kinds.ObjectPat t = simp (part_moved, flag_of_moved)
  optional_moved _ t = refl

  pub is_optional_param_moved : (t : Tree) → is_optional_param (moved m t) ≡ is_optional_param t
  is_optional_param_moved t = ap (λ k. optional_by_kind k (moved m t)) (kind_of_moved m t) ∙ optional_moved (kind_of t) t
