-- Written by forms/write.py from forms/forms.txt.
-- TypeScript's own expressions.
-- Each form has its fields by their names, what it holds once it reads a node, and the node of its fields.
use Rattle.std.specs.Prelude.{◌≡◌, [], ◌∷◌}
use Rattle.fast_check_tree_syntax.specs.declared.kind.Kind.TheVariants as kinds
use Rattle.fast_check_tree_syntax.specs.declared.part.Part.{Part}
use Rattle.fast_check_tree_syntax.specs.declared.source.SourceRange.{SourceRange}
use Rattle.fast_check_tree_syntax.specs.declared.tree.Tree.{Tree, Range}
use Rattle.fast_check_tree_syntax.specs.Part.{seen}
use Rattle.fast_check_tree_syntax.specs.Shape.{node, part, range_of}
use Rattle.fast_check_tree_forms_expressions.specs.declared.assertions.TsTypeAssertion.{TsTypeAssertion}
use Rattle.fast_check_tree_forms_expressions.specs.declared.assertions.TsAsExpr.{TsAsExpr}
use Rattle.fast_check_tree_forms_expressions.specs.declared.assertions.TsSatisfiesExpr.{TsSatisfiesExpr}
use Rattle.fast_check_tree_forms_expressions.specs.declared.assertions.TsConstAssertion.{TsConstAssertion}
use Rattle.fast_check_tree_forms_expressions.specs.declared.assertions.TsNonNullExpr.{TsNonNullExpr}
use Rattle.fast_check_tree_forms_expressions.specs.declared.assertions.TsInstantiation.{TsInstantiation}

-- `<type_ann>expr`.
abbrev pub TsTypeAssertion-span : Tree → SourceRange
TsTypeAssertion-span t = range_of (part 0 t)

abbrev pub TsTypeAssertion-expr : Tree → Tree
TsTypeAssertion-expr t = part 1 t

abbrev pub TsTypeAssertion-type_ann : Tree → Tree
TsTypeAssertion-type_ann t = part 2 t

pub record ReadsTsTypeAssertion (form : TsTypeAssertion Part) (t : Tree) : Type 0 where
  pub span : form.span ≡ TsTypeAssertion-span t
  pub expr : seen form.expr ≡ TsTypeAssertion-expr t
  pub type_ann : seen form.type_ann ≡ TsTypeAssertion-type_ann t

abbrev pub ts_type_assertion : SourceRange → Tree → Tree → Tree
ts_type_assertion span expr type_ann = node kinds.TsTypeAssertion (Range span ∷ expr ∷ type_ann ∷ [])

-- `expr as type_ann`.
abbrev pub TsAsExpr-span : Tree → SourceRange
TsAsExpr-span t = range_of (part 0 t)

abbrev pub TsAsExpr-expr : Tree → Tree
TsAsExpr-expr t = part 1 t

abbrev pub TsAsExpr-type_ann : Tree → Tree
TsAsExpr-type_ann t = part 2 t

pub record ReadsTsAsExpr (form : TsAsExpr Part) (t : Tree) : Type 0 where
  pub span : form.span ≡ TsAsExpr-span t
  pub expr : seen form.expr ≡ TsAsExpr-expr t
  pub type_ann : seen form.type_ann ≡ TsAsExpr-type_ann t

abbrev pub ts_as_expr : SourceRange → Tree → Tree → Tree
ts_as_expr span expr type_ann = node kinds.TsAsExpr (Range span ∷ expr ∷ type_ann ∷ [])

-- `expr satisfies type_ann`.
abbrev pub TsSatisfiesExpr-span : Tree → SourceRange
TsSatisfiesExpr-span t = range_of (part 0 t)

abbrev pub TsSatisfiesExpr-expr : Tree → Tree
TsSatisfiesExpr-expr t = part 1 t

abbrev pub TsSatisfiesExpr-type_ann : Tree → Tree
TsSatisfiesExpr-type_ann t = part 2 t

pub record ReadsTsSatisfiesExpr (form : TsSatisfiesExpr Part) (t : Tree) : Type 0 where
  pub span : form.span ≡ TsSatisfiesExpr-span t
  pub expr : seen form.expr ≡ TsSatisfiesExpr-expr t
  pub type_ann : seen form.type_ann ≡ TsSatisfiesExpr-type_ann t

abbrev pub ts_satisfies_expr : SourceRange → Tree → Tree → Tree
ts_satisfies_expr span expr type_ann = node kinds.TsSatisfiesExpr (Range span ∷ expr ∷ type_ann ∷ [])

-- `expr as const`.
abbrev pub TsConstAssertion-span : Tree → SourceRange
TsConstAssertion-span t = range_of (part 0 t)

abbrev pub TsConstAssertion-expr : Tree → Tree
TsConstAssertion-expr t = part 1 t

pub record ReadsTsConstAssertion (form : TsConstAssertion Part) (t : Tree) : Type 0 where
  pub span : form.span ≡ TsConstAssertion-span t
  pub expr : seen form.expr ≡ TsConstAssertion-expr t

abbrev pub ts_const_assertion : SourceRange → Tree → Tree
ts_const_assertion span expr = node kinds.TsConstAssertion (Range span ∷ expr ∷ [])

-- `expr!`.
abbrev pub TsNonNullExpr-span : Tree → SourceRange
TsNonNullExpr-span t = range_of (part 0 t)

abbrev pub TsNonNullExpr-expr : Tree → Tree
TsNonNullExpr-expr t = part 1 t

pub record ReadsTsNonNullExpr (form : TsNonNullExpr Part) (t : Tree) : Type 0 where
  pub span : form.span ≡ TsNonNullExpr-span t
  pub expr : seen form.expr ≡ TsNonNullExpr-expr t

abbrev pub ts_non_null_expr : SourceRange → Tree → Tree
ts_non_null_expr span expr = node kinds.TsNonNullExpr (Range span ∷ expr ∷ [])

-- `expr<type_args>`, with no call behind it.
abbrev pub TsInstantiation-span : Tree → SourceRange
TsInstantiation-span t = range_of (part 0 t)

abbrev pub TsInstantiation-expr : Tree → Tree
TsInstantiation-expr t = part 1 t

abbrev pub TsInstantiation-type_args : Tree → Tree
TsInstantiation-type_args t = part 2 t

pub record ReadsTsInstantiation (form : TsInstantiation Part) (t : Tree) : Type 0 where
  pub span : form.span ≡ TsInstantiation-span t
  pub expr : seen form.expr ≡ TsInstantiation-expr t
  pub type_args : seen form.type_args ≡ TsInstantiation-type_args t

abbrev pub ts_instantiation : SourceRange → Tree → Tree → Tree
ts_instantiation span expr type_args = node kinds.TsInstantiation (Range span ∷ expr ∷ type_args ∷ [])
