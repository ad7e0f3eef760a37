-- A type stays simple when it is moved.
use Rattle.std.proofs.Common.{◌≡◌, ℕ, Bool, List, refl, ap, ◌∙◌}
use Rattle.fast_check_tree_syntax.specs.declared.kind.Kind.{Kind}
use Rattle.fast_check_tree_syntax.specs.declared.kind.Kind.TheVariants as kinds
use Rattle.fast_check_tree_syntax.specs.declared.tree.Tree.{Tree}
use Rattle.fast_check_tree_syntax.specs.Shape.{kind_of}
use Rattle.fast_check_tree_syntax.specs.Moves.{Moves, moved}
use Rattle.fast_check_tree_syntax.proofs.Moved.{kind_of_moved, part_moved, is_absent_moved}
use Rattle.fast_check_tree_helpers.specs.SimpleType.{is_simple_type, simple_form, simple_by_kind}
use Rattle.fast_check_tree_helpers.proofs.Levels.{moved_stays}
use Rattle.fast_check_tree_helpers.proofs.SimpleTypes.{simple_out}

module _ (m : Moves) where
  by_kind_moved : (k : Kind) (t : Tree) (inside : ℕ → Bool) (each : List Bool) →
      simple_by_kind k (moved m t) inside each ≡ simple_by_kind k t inside each
  by_kind_moved kinds.TsLitType t inside each = simp (part_moved, kind_of_moved)
  by_kind_moved kinds.TsTypeRef t inside each = simp (part_moved, is_absent_moved)
  by_kind_moved _ t inside each = refl

  pub is_simple_type_moved : (t : Tree) → is_simple_type (moved m t) ≡ is_simple_type t
  is_simple_type_moved = moved_stays m is_simple_type simple_form simple_out
      (λ t inside each. ap (λ k. simple_by_kind k (moved m t) inside each) (kind_of_moved m t) ∙ by_kind_moved (kind_of t) t inside each)
