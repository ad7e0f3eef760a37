-- The equation of `inferred_type`.
use Rattle.std.proofs.Common.{◌≡◌, ℕ, Bool, true, false, Option, Some, None, map, refl, ap, is_some, if◌then◌else◌, ◌∙◌, sym, IsTrue, inl}
use Rattle.std.proofs.Common.{inr}
use Rattle.std.specs.Prelude.{Result, IfOk, unwrap_or}
use Rattle.std.specs.Option.{option_map}
use Rattle.std.proofs.lemmas.Result.{IfOk-weaker}
use Rattle.fast_check_tree_syntax.specs.declared.kind.Kind.{Kind}
use Rattle.fast_check_tree_syntax.specs.declared.kind.Kind.TheVariants as kinds
use Rattle.fast_check_tree_syntax.specs.declared.kind.Kind.TheVariants.{TsAsExpr, TsTypeAssertion}
use Rattle.fast_check_tree_syntax.specs.declared.source.SyntaxContext.{SyntaxContext}
use Rattle.fast_check_tree_syntax.specs.declared.tree.Tree.{Tree, Absent}
use Rattle.fast_check_tree_syntax.specs.Shape.{kind_of, part, parts}
use Rattle.fast_check_tree_syntax.specs.Recursion.{by_form_absent}
use Rattle.fast_check_tree_helpers.specs.declared.literal_type.DeclMutabilityKind.{DeclMutabilityKind}
use Rattle.fast_check_tree_helpers.specs.declared.literal_type.DeclMutabilityKind.TheVariants.{Mutable}
use Rattle.fast_check_tree_helpers.specs.SimpleType.{is_simple_type}
use Rattle.fast_check_tree_helpers.specs.LiteralType.{literal_by_kind, type_of_literal}
use Rattle.fast_check_tree_helpers.specs.InferredType.{value_in, inferred_type, shows_type, inferred_by_kind, inferred_form, asserted_type}
use Rattle.fast_check_tree_helpers.specs.InferredType.{Asserts}
use Rattle.fast_check_tree_helpers.proofs.Levels.{by_form_out}

pub inferred_absent : (m : DeclMutabilityKind) (u : SyntaxContext) → inferred_type m u Absent ≡ None
unfolding inferred_type
inferred_absent m u = by_form_absent None (inferred_form m u)

module _ (m : DeclMutabilityKind) (u : SyntaxContext) (t : Tree) where
  pub inferred_out : inferred_type m u t ≡ inferred_form m u t (λ i. inferred_type m u (part i t)) (map (inferred_type m u) (parts t))
  unfolding inferred_type
  inferred_out = by_form_out None (inferred_form m u) (λ t inside each e.
      ap (λ k. inferred_by_kind k m u t inside) e ∙ ap (λ k. literal_by_kind k m t) e) t

  pub inferred_at : (k : Kind) → kind_of t ≡ k → inferred_type m u t ≡ inferred_by_kind k m u t (λ i. inferred_type m u (part i t))
  inferred_at k e = inferred_out ∙ ap (λ k. inferred_by_kind k m u t (λ i. inferred_type m u (part i t))) e

-- a kind that is none of those that show a type of their own, but of a literal
pub record IsPassedOn (k : Kind) : Type 0 where
  pub as_type : k ≡ kinds.TsAsExpr → ⊥
  pub assertion : k ≡ kinds.TsTypeAssertion → ⊥
  pub call : k ≡ kinds.CallExpr → ⊥
  pub template : k ≡ kinds.Tpl → ⊥

by_value : (k : Kind) (m : DeclMutabilityKind) (u : SyntaxContext) (t : Tree) (inside : ℕ → Option Tree) → IsPassedOn k →
    inferred_by_kind k m u t inside ≡ unwrap_or (option_map inside (value_in k)) (type_of_literal m t)
by_value kinds.TsAsExpr m u t inside o = absurd (o.as_type refl)
by_value kinds.TsTypeAssertion m u t inside o = absurd (o.assertion refl)
by_value kinds.CallExpr m u t inside o = absurd (o.call refl)
by_value kinds.Tpl m u t inside o = absurd (o.template refl)
by_value _ m u t inside o = refl

-- it shows the type of the value inside of it, if there is one, or is a literal
pub inferred_value : (m : DeclMutabilityKind) (u : SyntaxContext) (t : Tree) (k : Kind) {field : Option ℕ} → kind_of t ≡ k → IsPassedOn k →
    field ≡ value_in k →
    inferred_type m u t ≡ unwrap_or (option_map (λ i. inferred_type m u (part i t)) field) (type_of_literal m t)
inferred_value m u t k e o f =
    inferred_at m u t k e
    ∙ (by_value k m u t (λ i. inferred_type m u (part i t)) o
    ∙ ap (λ field. unwrap_or (option_map (λ i. inferred_type m u (part i t)) field) (type_of_literal m t)) (sym f))

-- no leaf has a value inside
pub passes : (k : Kind) (i : ℕ) → Some i ≡ value_in k → k ≡ kinds.Leaf → ⊥
passes k i e leaf = cc (e ∙ ap value_in leaf)

-- an assertion to a simple type shows it
pub inferred_asserted : (m : DeclMutabilityKind) (u : SyntaxContext) (t type : Tree) → Asserts type t → IsTrue (is_simple_type type) →
    inferred_type m u t ≡ Some type
inferred_asserted m u t type (inl (k, e)) s = inferred_at m u t TsAsExpr k ∙
    (ap asserted_type e ∙ ap (λ b. if b then Some type else None) s)
inferred_asserted m u t type (inr (k, e)) s = inferred_at m u t TsTypeAssertion k ∙
    (ap asserted_type e ∙ ap (λ b. if b then Some type else None) s)

pub asserted_result : (m : DeclMutabilityKind) (u : SyntaxContext) (t : Tree) {E : Type 0} (r : Result (Option Tree) E) →
    IfOk r (λ found. found ≡ inferred_type m u t) → (type : Tree) → Asserts type t → IsTrue (is_simple_type type) →
    IfOk r (λ found. found ≡ Some type)
asserted_result m u t r h type a s = IfOk-weaker r _ _ (λ found e. e ∙ inferred_asserted m u t type a s) h

-- whether a type is shown
pub shown_if : (b : Bool) (type : Tree) → is_some (if b then Some type else None) ≡ b
shown_if true type = refl
shown_if false type = refl

pub shows_at : (u : SyntaxContext) (t : Tree) (k : Kind) → kind_of t ≡ k →
    shows_type u t ≡ is_some (inferred_by_kind k Mutable u t (λ i. inferred_type Mutable u (part i t)))
shows_at u t k e = ap is_some (inferred_at Mutable u t k e)
