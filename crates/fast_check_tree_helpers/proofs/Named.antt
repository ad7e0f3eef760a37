-- The equation of `names_type`, and statements that return nowhere.
use Rattle.std.proofs.Common.{◌≡◌, ℕ, Bool, true, false, Option, List, [], ◌∷◌, map, refl, ap, is_some, ◌∙◌, sym}
use Rattle.std.specs.Prelude.{unwrap_or}
use Rattle.std.specs.Option.{option_map}
use Rattle.std.specs.List.{fold}
use Rattle.fast_check_tree_syntax.specs.declared.kind.Kind.{Kind}
use Rattle.fast_check_tree_syntax.specs.declared.kind.Kind.TheVariants as kinds
use Rattle.fast_check_tree_syntax.specs.declared.tree.Tree.{Tree}
use Rattle.fast_check_tree_syntax.specs.Shape.{kind_of, part, parts}
use Rattle.fast_check_tree_helpers.specs.declared.literal_type.DeclMutabilityKind.TheVariants.{Mutable}
use Rattle.fast_check_tree_helpers.specs.declared.return_class.ReturnStatementAnalysis.{ReturnStatementAnalysis}
use Rattle.fast_check_tree_helpers.specs.declared.return_class.ReturnStatementAnalysis.TheVariants as class
use Rattle.fast_check_tree_helpers.specs.InferredType.{value_in}
use Rattle.fast_check_tree_helpers.specs.LiteralType.{literal_by_kind, type_of_literal}
use Rattle.fast_check_tree_helpers.specs.NamedBodies.{is_empty, names_by_kind, names_form, names_type}
use Rattle.fast_check_tree_helpers.specs.ReturnStep.{after_return}
use Rattle.fast_check_tree_helpers.proofs.Levels.{by_form_out}
use Rattle.fast_check_tree_helpers.proofs.Returns.{from_multiple}

pub names_out : (t : Tree) → names_type t ≡ names_form t (λ i. names_type (part i t)) (map names_type (parts t))
unfolding names_type
names_out = by_form_out false names_form (λ t inside each e.
    ap (λ k. names_by_kind k t inside) e ∙ ap (λ k. is_some (literal_by_kind k Mutable t)) e)

pub names_at : (t : Tree) (k : Kind) → kind_of t ≡ k → names_type t ≡ names_by_kind k t (λ i. names_type (part i t))
names_at t k e = names_out t ∙ ap (λ k. names_by_kind k t (λ i. names_type (part i t))) e

by_value : (k : Kind) (t : Tree) (inside : ℕ → Bool) → (k ≡ kinds.TsAsExpr → ⊥) → (k ≡ kinds.TsTypeAssertion → ⊥) → (k ≡ kinds.Tpl → ⊥) →
    names_by_kind k t inside ≡ unwrap_or (option_map inside (value_in k)) (is_some (type_of_literal Mutable t))
by_value kinds.TsAsExpr t inside a b c = absurd (a refl)
by_value kinds.TsTypeAssertion t inside a b c = absurd (b refl)
by_value kinds.Tpl t inside a b c = absurd (c refl)
by_value _ t inside a b c = refl

-- what is no assertion and no template names what the value inside of it names, or is a literal
pub names_value : (t : Tree) (k : Kind) {field : Option ℕ} → kind_of t ≡ k → (k ≡ kinds.TsAsExpr → ⊥) → (k ≡ kinds.TsTypeAssertion → ⊥) →
    (k ≡ kinds.Tpl → ⊥) → field ≡ value_in k →
    names_type t ≡ unwrap_or (option_map (λ i. names_type (part i t)) field) (is_some (type_of_literal Mutable t))
names_value t k e a b c f =
    names_at t k e
    ∙ (by_value k t (λ i. names_type (part i t)) a b c
    ∙ ap (λ field. unwrap_or (option_map (λ i. names_type (part i t)) field) (is_some (type_of_literal Mutable t))) (sym f))

-- ---- statements that return nowhere

abbrev pub is_none : ReturnStatementAnalysis → Bool
is_none class.None = true
is_none _ = false

after_single : (rs : List Bool) → is_none (fold after_return class.Single rs) ≡ false
after_single [] = refl
after_single (r ∷ rs) = ap is_none (from_multiple rs)

after_void : (rs : List Bool) → is_none (fold after_return class.Void rs) ≡ false
after_void [] = refl
after_void (true ∷ rs) = after_single rs
after_void (false ∷ rs) = after_void rs

pub none_is_empty : (rs : List Bool) → is_none (fold after_return class.None rs) ≡ is_empty rs
none_is_empty [] = refl
none_is_empty (true ∷ rs) = after_single rs
none_is_empty (false ∷ rs) = after_void rs
