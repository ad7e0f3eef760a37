-- Of two expressions that agree neither is absent, or both are.
use Rattle.std.specs.Prelude.{◌≡◌, true, false, ◌||◌, not, refl}
use Rattle.std.proofs.Common.{ap, ◌∙◌, sym, true≢false}
use Rattle.fast_check_tree_syntax.specs.declared.kind.Kind.{Kind}
use Rattle.fast_check_tree_syntax.specs.declared.kind.Kind.TheVariants.{Leaf, CallExpr, NewExpr, TsSatisfiesExpr, TsAsExpr, TsTypeAssertion}
use Rattle.fast_check_tree_syntax.specs.declared.kind.Kind.TheVariants.{FnExpr, ArrowExpr}
use Rattle.fast_check_tree_syntax.specs.declared.tree.Tree.{Tree}
use Rattle.fast_check_tree_syntax.specs.Shape.{◌is◌, is_kind, not_absent, kind_of, is_absent}
use Rattle.fast_check_tree_syntax.specs.Moves.{Renaming, IsRenaming}
use Rattle.fast_check_tree_syntax.proofs.Same.{tree_to}
use Rattle.fast_check_meaning_signatures.specs.Bindings.{Bindings}
use Rattle.fast_check_meaning_signatures.specs.Expressions.{is_plain, is_compound, is_among, other_kinds, freezes, is_frozen, makes_plain, is_made}
use Rattle.fast_check_meaning_signatures.specs.Expressions.{is_known, is_refused}
use Rattle.fast_check_meaning_signatures.proofs.Choices.{both_true}
use Rattle.fast_check_meaning_skeleton.specs.SameValues.{Both, SameExpr}
use Rattle.fast_check_meaning_skeleton.specs.SameValues as v
use Rattle.fast_check_meaning_skeleton.proofs.AlikeTrees.{absent_alike}

there : (t : Tree) (k : Kind) → kind_of t ≡ k → (k ≡ Leaf → ⊥) → is_absent t ≡ false
there t k e n = not_absent t k e n

both_there : (k : Kind) (t u : Tree) → Both k t u → (k ≡ Leaf → ⊥) → is_absent t ≡ is_absent u
both_there k t u d n = there t k d.left n ∙ sym (there u k d.right n)

compound_there : (k : Kind) → is_compound k ≡ true → k ≡ Leaf → ⊥
compound_there k e l = true≢false (sym e ∙ ap is_compound l)

refused_there : (c : Bindings) (t : Tree) → is_refused c t ≡ true → is_absent t ≡ false
refused_there c t e = there t (kind_of t) refl
    (λ l. true≢false
    (sym e ∙ ap (λ k. not (is_plain k || (is_compound (kind_of t) || (is_among other_kinds (kind_of t) || is_known c t)))) l))

frozen_there : (c : Bindings) (t : Tree) → is_frozen c t ≡ true → is_absent t ≡ false
frozen_there c t e = there t CallExpr (is_kind (kind_of t) CallExpr (both_true (kind_of t is CallExpr) (freezes c t) e).0) (λ l. cc)

made_there : (c : Bindings) (t : Tree) → is_made c t ≡ true → is_absent t ≡ false
made_there c t e = there t NewExpr (is_kind (kind_of t) NewExpr (both_true (kind_of t is NewExpr) (makes_plain c t) e).0) (λ l. cc)

module _ (r : Renaming) (ok : IsRenaming r) (c d : Bindings) where
  -- neither is absent, or both are
  pub expr_absent : {t u : Tree} → SameExpr r c d t u → is_absent t ≡ is_absent u
  expr_absent (v.SameExpr.plain {t = t} {u = u} e s) = absent_alike r ok t u (tree_to r ok s)
  expr_absent (v.SameExpr.refused {t = t} {u = u} e f) = refused_there c t e ∙ sym (refused_there d u f)
  expr_absent (v.SameExpr.compound {t = t} {u = u} k d e xs) = both_there k t u d (compound_there k e)
  expr_absent (v.SameExpr.satisfies {t = t} {u = u} d x y z) = both_there TsSatisfiesExpr t u d (λ l. cc)
  expr_absent (v.SameExpr.as_type {t = t} {u = u} d x y) = both_there TsAsExpr t u d (λ l. cc)
  expr_absent (v.SameExpr.assertion {t = t} {u = u} d x y) = both_there TsTypeAssertion t u d (λ l. cc)
  expr_absent (v.SameExpr.frozen {t = t} {u = u} e f x y z w m) = frozen_there c t e ∙ sym (frozen_there d u f)
  expr_absent (v.SameExpr.made {t = t} {u = u} e f x y z w m) = made_there c t e ∙ sym (made_there d u f)
  expr_absent (v.SameExpr.function {t = t} {u = u} d x y) = both_there FnExpr t u d (λ l. cc)
  expr_absent (v.SameExpr.arrow {t = t} {u = u} d x y z) = both_there ArrowExpr t u d (λ l. cc)
