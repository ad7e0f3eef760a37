-- The equation of `is_reference`, and moves.
use Rattle.std.specs.Prelude.{◌≡◌, Bool, false, ◌&&◌, refl}
use Rattle.std.proofs.Common.{ap, ap₂, ◌∙◌}
use Rattle.fast_check_tree_syntax.specs.declared.kind.Kind.{Kind}
use Rattle.fast_check_tree_syntax.specs.declared.kind.Kind.TheVariants as kinds
use Rattle.fast_check_tree_syntax.specs.declared.tree.Tree.{Tree}
use Rattle.fast_check_tree_syntax.specs.Shape.{kind_of}
use Rattle.fast_check_tree_syntax.specs.Moves.{Moves, moved}
use Rattle.fast_check_tree_syntax.specs.Descent.{by_descent_is, given, given_part, given_inner}
use Rattle.fast_check_tree_syntax.proofs.Moved.{kind_of_moved}
use Rattle.fast_check_tree_syntax.proofs.DescentMoved.{by_descent_moved}
use Rattle.fast_check_tree_forms_expressions.specs.Calls.{MemberExpr-obj, MemberExpr-prop}
use Rattle.fast_check_tree_forms_expressions.specs.Properties.{ComputedPropName-expr}
use Rattle.fast_check_meaning_signatures.proofs.MovedParts.{field_moved, kind_moved_at}
use Rattle.fast_check_meaning_signatures.specs.Classes.{property_of_kind, reference_of_kind, reference_form, is_reference}

module _ (t : Tree) where
  abbrev look : Tree → Bool
  look = given false reference_form t

  same_property : kind_of t ≡ kinds.MemberExpr → (k : Kind) → property_of_kind k (MemberExpr-prop t) look ≡ property_of_kind k
      (MemberExpr-prop t) is_reference
  unfolding is_reference
  same_property e kinds.ComputedPropName = given_inner false reference_form t _ _ (λ l. cc)
  same_property e _ = refl

  same_kind : (k : Kind) → kind_of t ≡ k → reference_of_kind k t look ≡ reference_of_kind k t is_reference
  unfolding is_reference
  same_kind kinds.MemberExpr e = ap₂ ◌&&◌ (given_part false reference_form t _ (λ l. cc)) (same_property e (kind_of (MemberExpr-prop t)))
  same_kind _ e = refl

-- what a superclass may be, by its parts
pub is_reference_is : (t : Tree) → is_reference t ≡ reference_form t is_reference
unfolding is_reference
is_reference_is t = by_descent_is false reference_form t ∙ same_kind t (kind_of t) refl

module _ (m : Moves) (look look' : Tree → Bool) (at : (u : Tree) → look' (moved m u) ≡ look u) where
  property_moved : (k : Kind) (prop : Tree) → property_of_kind k (moved m prop) look' ≡ property_of_kind k prop look
  property_moved kinds.ComputedPropName prop = ap look' (field_moved m ComputedPropName-expr _ (λ t. refl) prop) ∙
      at (ComputedPropName-expr prop)
  property_moved _ prop = refl

  kind_moved : (k : Kind) (t : Tree) → reference_of_kind k (moved m t) look' ≡ reference_of_kind k t look
  kind_moved kinds.MemberExpr t =
      ap₂ ◌&&◌ (ap look' (field_moved m MemberExpr-obj _ (λ t. refl) t) ∙ at (MemberExpr-obj t))
      (ap₂ (λ k prop. property_of_kind k prop look') (kind_moved_at m MemberExpr-prop _ (λ t. refl) t)
      (field_moved m MemberExpr-prop _ (λ t. refl) t)
      ∙ property_moved (kind_of (MemberExpr-prop t)) (MemberExpr-prop t))
  kind_moved _ t = refl

  form_moved : (t : Tree) → reference_form (moved m t) look' ≡ reference_form t look
  form_moved t = ap (λ k. reference_of_kind k (moved m t) look') (kind_of_moved m t) ∙ kind_moved (kind_of t) t

pub is_reference_moved : (m : Moves) (t : Tree) → is_reference (moved m t) ≡ is_reference t
unfolding is_reference
is_reference_moved m = by_descent_moved m (λ b b'. b' ≡ b) false false refl reference_form reference_form
    (λ t look look' at. form_moved m look look' at t)
