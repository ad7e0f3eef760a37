-- The type that a value shows by itself, with no checking of types.
use Rattle.std.specs.Prelude.{◌≡◌, ℕ, Bool, is_some, Option, Some, None, List, ◌⊎◌, if◌then◌else◌, unwrap_or}
use Rattle.std.specs.Option.{option_map}
use Rattle.fast_check_tree_syntax.specs.declared.kind.Kind.{Kind}
use Rattle.fast_check_tree_syntax.specs.declared.kind.Kind.TheVariants.{TsAsExpr, TsTypeAssertion}
use Rattle.fast_check_tree_syntax.specs.declared.kind.Kind.TheVariants as kinds
use Rattle.fast_check_tree_syntax.specs.declared.source.SyntaxContext.{SyntaxContext}
use Rattle.fast_check_tree_syntax.specs.declared.tree.Tree.{Tree}
use Rattle.fast_check_tree_syntax.specs.Shape.{kind_of}
use Rattle.fast_check_tree_syntax.specs.Recursion.{by_form}
use Rattle.fast_check_tree_forms_expressions.specs.Assertions.{TsAsExpr-type_ann, TsTypeAssertion-type_ann}
use Rattle.fast_check_tree_forms_expressions.specs.Calls.{CallExpr-callee, CallExpr-args}
use Rattle.fast_check_tree_helpers.specs.declared.literal_type.DeclMutabilityKind.{DeclMutabilityKind}
use Rattle.fast_check_tree_helpers.specs.declared.literal_type.DeclMutabilityKind.TheVariants.{Mutable}
use Rattle.fast_check_tree_helpers.specs.Builders.{unique_symbol}
use Rattle.fast_check_tree_helpers.specs.GlobalCalls.{is_symbol_call}
use Rattle.fast_check_tree_helpers.specs.LiteralType.{type_of_literal}
use Rattle.fast_check_tree_helpers.specs.Places.{at-ParenExpr-expr, at-TsSatisfiesExpr-expr}
use Rattle.fast_check_tree_helpers.specs.SimpleType.{is_simple_type}
use Rattle.fast_check_tree_helpers.specs.TemplateType.{type_of_template}

-- an assertion shows the type itself, if that is simple
abbrev pub asserted_type : Tree → Option Tree
asserted_type type = if is_simple_type type then Some type else None

-- a call that makes a symbol shows `unique symbol`
abbrev pub symbol_type : SyntaxContext → Tree → Tree → Option Tree
symbol_type unresolved callee args = if is_symbol_call unresolved callee args then Some unique_symbol else None

-- the field with the value in parentheses, or before `satisfies`
abbrev pub value_in : Kind → Option ℕ
value_in kinds.ParenExpr = Some at-ParenExpr-expr.place
value_in kinds.TsSatisfiesExpr = Some at-TsSatisfiesExpr-expr.place
value_in _ = None

-- Of `value as type` and `<type>value` it is the type, if that is simple; of a call that makes a symbol `unique
-- symbol`; of a template and of a literal their type; of `(value)` and `value satisfies type` that of the value, which
-- `inside` gives of the part at a place. No other value shows its type.
abbrev pub inferred_by_kind : Kind → DeclMutabilityKind → SyntaxContext → Tree → (ℕ → Option Tree) → Option Tree
inferred_by_kind kinds.TsAsExpr mutability unresolved value inside = asserted_type (TsAsExpr-type_ann value)
inferred_by_kind kinds.TsTypeAssertion mutability unresolved value inside =
    asserted_type (TsTypeAssertion-type_ann value)
inferred_by_kind kinds.CallExpr mutability unresolved value inside =
    symbol_type unresolved (CallExpr-callee value) (CallExpr-args value)
inferred_by_kind kinds.Tpl mutability unresolved value inside = Some (type_of_template mutability value)
inferred_by_kind kind mutability unresolved value inside =
    unwrap_or (option_map inside (value_in kind)) (type_of_literal mutability value)

abbrev pub inferred_form : DeclMutabilityKind → SyntaxContext → Tree → (ℕ → Option Tree) → List (Option Tree) →
    Option Tree
inferred_form mutability unresolved value inside each =
    inferred_by_kind (kind_of value) mutability unresolved value inside

unfoldable pub inferred_type : DeclMutabilityKind → SyntaxContext → Tree → Option Tree
inferred_type mutability unresolved = by_form None (inferred_form mutability unresolved)

-- the value shows a type, whatever it is declared as
abbrev pub shows_type : SyntaxContext → Tree → Bool
shows_type unresolved value = is_some (inferred_type Mutable unresolved value)

-- the value is `value as type`, or `<type>value`
abbrev pub Asserts : Tree → Tree → Type 0
Asserts type value =
    ((kind_of value ≡ TsAsExpr) × (TsAsExpr-type_ann value ≡ type)) ⊎
    ((kind_of value ≡ TsTypeAssertion) × (TsTypeAssertion-type_ann value ≡ type))
