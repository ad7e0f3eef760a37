-- Written by forms/write.py from forms/forms.txt.
-- Expressions.
-- Each form has its fields by their names, what it holds once it reads a node, and the node of its fields.
use Rattle.std.specs.Prelude.{◌≡◌, Bool, ℕ, List, [], ◌∷◌}
use Rattle.std.specs.Borrow.{Bor}
use Rattle.fast_check_tree_syntax.specs.declared.kind.Kind.TheVariants as kinds
use Rattle.fast_check_tree_syntax.specs.declared.part.Part.{Part}
use Rattle.fast_check_tree_syntax.specs.declared.source.SourceRange.{SourceRange}
use Rattle.fast_check_tree_syntax.specs.declared.source.SyntaxContext.{SyntaxContext}
use Rattle.fast_check_tree_syntax.specs.declared.tree.Tree.{Tree, Range, Flag, Context, Text}
use Rattle.fast_check_tree_syntax.specs.Part.{seen}
use Rattle.fast_check_tree_syntax.specs.Shape.{node, part, range_of, text_of, flag_of, context_of}
use Rattle.fast_check_tree_forms_expressions.specs.declared.expressions.ThisExpr.{ThisExpr}
use Rattle.fast_check_tree_forms_expressions.specs.declared.expressions.ArrayLit.{ArrayLit}
use Rattle.fast_check_tree_forms_expressions.specs.declared.expressions.ExprOrSpread.{ExprOrSpread}
use Rattle.fast_check_tree_forms_expressions.specs.declared.expressions.ObjectLit.{ObjectLit}
use Rattle.fast_check_tree_forms_expressions.specs.declared.expressions.FnExpr.{FnExpr}
use Rattle.fast_check_tree_forms_expressions.specs.declared.expressions.ClassExpr.{ClassExpr}
use Rattle.fast_check_tree_forms_expressions.specs.declared.expressions.ArrowExpr.{ArrowExpr}
use Rattle.fast_check_tree_forms_expressions.specs.declared.expressions.SeqExpr.{SeqExpr}
use Rattle.fast_check_tree_forms_expressions.specs.declared.expressions.ParenExpr.{ParenExpr}
use Rattle.fast_check_tree_forms_expressions.specs.declared.expressions.YieldExpr.{YieldExpr}
use Rattle.fast_check_tree_forms_expressions.specs.declared.expressions.AwaitExpr.{AwaitExpr}
use Rattle.fast_check_tree_forms_expressions.specs.declared.expressions.MetaPropExpr.{MetaPropExpr}
use Rattle.fast_check_tree_forms_expressions.specs.declared.expressions.Invalid.{Invalid}

-- `this`.
abbrev pub ThisExpr-span : Tree → SourceRange
ThisExpr-span t = range_of (part 0 t)

pub record ReadsThisExpr (form : ThisExpr) (t : Tree) : Type 0 where
  pub span : form.span ≡ ThisExpr-span t

abbrev pub this_expr : SourceRange → Tree
this_expr span = node kinds.ThisExpr (Range span ∷ [])

-- `[elems]`.
abbrev pub ArrayLit-span : Tree → SourceRange
ArrayLit-span t = range_of (part 0 t)

abbrev pub ArrayLit-elems : Tree → Tree
ArrayLit-elems t = part 1 t

pub record ReadsArrayLit (form : ArrayLit Part) (t : Tree) : Type 0 where
  pub span : form.span ≡ ArrayLit-span t
  pub elems : seen form.elems ≡ ArrayLit-elems t

abbrev pub array_lit : SourceRange → Tree → Tree
array_lit span elems = node kinds.ArrayLit (Range span ∷ elems ∷ [])

-- `expr` or `...expr`, in an array or as an argument.
abbrev pub ExprOrSpread-spread : Tree → Tree
ExprOrSpread-spread t = part 0 t

abbrev pub ExprOrSpread-expr : Tree → Tree
ExprOrSpread-expr t = part 1 t

pub record ReadsExprOrSpread (form : ExprOrSpread Part) (t : Tree) : Type 0 where
  pub spread : seen form.spread ≡ ExprOrSpread-spread t
  pub expr : seen form.expr ≡ ExprOrSpread-expr t

abbrev pub expr_or_spread : Tree → Tree → Tree
expr_or_spread spread expr = node kinds.ExprOrSpread (spread ∷ expr ∷ [])

-- `{ props }`.
abbrev pub ObjectLit-span : Tree → SourceRange
ObjectLit-span t = range_of (part 0 t)

abbrev pub ObjectLit-props : Tree → Tree
ObjectLit-props t = part 1 t

pub record ReadsObjectLit (form : ObjectLit Part) (t : Tree) : Type 0 where
  pub span : form.span ≡ ObjectLit-span t
  pub props : seen form.props ≡ ObjectLit-props t

abbrev pub object_lit : SourceRange → Tree → Tree
object_lit span props = node kinds.ObjectLit (Range span ∷ props ∷ [])

-- `function ident ..`, with the rest in `function`.
abbrev pub FnExpr-ident : Tree → Tree
FnExpr-ident t = part 0 t

abbrev pub FnExpr-function : Tree → Tree
FnExpr-function t = part 1 t

pub record ReadsFnExpr (form : FnExpr Part) (t : Tree) : Type 0 where
  pub ident : seen form.ident ≡ FnExpr-ident t
  pub function : seen form.function ≡ FnExpr-function t

abbrev pub fn_expr : Tree → Tree → Tree
fn_expr ident function = node kinds.FnExpr (ident ∷ function ∷ [])

-- `class ident ..`, with the rest in `class`.
abbrev pub ClassExpr-ident : Tree → Tree
ClassExpr-ident t = part 0 t

abbrev pub ClassExpr-class : Tree → Tree
ClassExpr-class t = part 1 t

pub record ReadsClassExpr (form : ClassExpr Part) (t : Tree) : Type 0 where
  pub ident : seen form.ident ≡ ClassExpr-ident t
  pub class : seen form.class ≡ ClassExpr-class t

abbrev pub class_expr : Tree → Tree → Tree
class_expr ident class = node kinds.ClassExpr (ident ∷ class ∷ [])

-- `<type_params>(params): return_type => body`.
abbrev pub ArrowExpr-span : Tree → SourceRange
ArrowExpr-span t = range_of (part 0 t)

abbrev pub ArrowExpr-ctxt : Tree → SyntaxContext
ArrowExpr-ctxt t = context_of (part 1 t)

abbrev pub ArrowExpr-params : Tree → Tree
ArrowExpr-params t = part 2 t

abbrev pub ArrowExpr-body : Tree → Tree
ArrowExpr-body t = part 3 t

abbrev pub ArrowExpr-is_async : Tree → Bool
ArrowExpr-is_async t = flag_of (part 4 t)

abbrev pub ArrowExpr-is_generator : Tree → Bool
ArrowExpr-is_generator t = flag_of (part 5 t)

abbrev pub ArrowExpr-type_params : Tree → Tree
ArrowExpr-type_params t = part 6 t

abbrev pub ArrowExpr-return_type : Tree → Tree
ArrowExpr-return_type t = part 7 t

pub record ReadsArrowExpr (form : ArrowExpr Part) (t : Tree) : Type 0 where
  pub span : form.span ≡ ArrowExpr-span t
  pub ctxt : form.ctxt ≡ ArrowExpr-ctxt t
  pub params : seen form.params ≡ ArrowExpr-params t
  pub body : seen form.body ≡ ArrowExpr-body t
  pub is_async : form.is_async ≡ ArrowExpr-is_async t
  pub is_generator : form.is_generator ≡ ArrowExpr-is_generator t
  pub type_params : seen form.type_params ≡ ArrowExpr-type_params t
  pub return_type : seen form.return_type ≡ ArrowExpr-return_type t

abbrev pub arrow_expr : SourceRange → SyntaxContext → Tree → Tree → Bool → Bool → Tree → Tree → Tree
arrow_expr span ctxt params body is_async is_generator type_params return_type =
    node kinds.ArrowExpr (Range span ∷ Context ctxt ∷ params ∷ body ∷ Flag is_async ∷ Flag is_generator ∷
    type_params ∷ return_type ∷ [])

-- Expressions with commas between them: `exprs`.
abbrev pub SeqExpr-span : Tree → SourceRange
SeqExpr-span t = range_of (part 0 t)

abbrev pub SeqExpr-exprs : Tree → Tree
SeqExpr-exprs t = part 1 t

pub record ReadsSeqExpr (form : SeqExpr Part) (t : Tree) : Type 0 where
  pub span : form.span ≡ SeqExpr-span t
  pub exprs : seen form.exprs ≡ SeqExpr-exprs t

abbrev pub seq_expr : SourceRange → Tree → Tree
seq_expr span exprs = node kinds.SeqExpr (Range span ∷ exprs ∷ [])

-- `(expr)`.
abbrev pub ParenExpr-span : Tree → SourceRange
ParenExpr-span t = range_of (part 0 t)

abbrev pub ParenExpr-expr : Tree → Tree
ParenExpr-expr t = part 1 t

pub record ReadsParenExpr (form : ParenExpr Part) (t : Tree) : Type 0 where
  pub span : form.span ≡ ParenExpr-span t
  pub expr : seen form.expr ≡ ParenExpr-expr t

abbrev pub paren_expr : SourceRange → Tree → Tree
paren_expr span expr = node kinds.ParenExpr (Range span ∷ expr ∷ [])

-- `yield arg`.
abbrev pub YieldExpr-span : Tree → SourceRange
YieldExpr-span t = range_of (part 0 t)

abbrev pub YieldExpr-arg : Tree → Tree
YieldExpr-arg t = part 1 t

abbrev pub YieldExpr-delegate : Tree → Bool
YieldExpr-delegate t = flag_of (part 2 t)

pub record ReadsYieldExpr (form : YieldExpr Part) (t : Tree) : Type 0 where
  pub span : form.span ≡ YieldExpr-span t
  pub arg : seen form.arg ≡ YieldExpr-arg t
  pub delegate : form.delegate ≡ YieldExpr-delegate t

abbrev pub yield_expr : SourceRange → Tree → Bool → Tree
yield_expr span arg delegate = node kinds.YieldExpr (Range span ∷ arg ∷ Flag delegate ∷ [])

-- `await arg`.
abbrev pub AwaitExpr-span : Tree → SourceRange
AwaitExpr-span t = range_of (part 0 t)

abbrev pub AwaitExpr-arg : Tree → Tree
AwaitExpr-arg t = part 1 t

pub record ReadsAwaitExpr (form : AwaitExpr Part) (t : Tree) : Type 0 where
  pub span : form.span ≡ AwaitExpr-span t
  pub arg : seen form.arg ≡ AwaitExpr-arg t

abbrev pub await_expr : SourceRange → Tree → Tree
await_expr span arg = node kinds.AwaitExpr (Range span ∷ arg ∷ [])

-- `new.target` or `import.meta`.
abbrev pub MetaPropExpr-span : Tree → SourceRange
MetaPropExpr-span t = range_of (part 0 t)

abbrev pub MetaPropExpr-kind : Tree → List ℕ
MetaPropExpr-kind t = text_of (part 1 t)

pub record ReadsMetaPropExpr (form : MetaPropExpr (Bor (List ℕ))) (t : Tree) : Type 0 where
  pub span : form.span ≡ MetaPropExpr-span t
  pub kind : form.kind.now ≡ MetaPropExpr-kind t

abbrev pub meta_prop_expr : SourceRange → List ℕ → Tree
meta_prop_expr span kind = node kinds.MetaPropExpr (Range span ∷ Text kind ∷ [])

-- What could not be read, as an expression or a pattern.
abbrev pub Invalid-span : Tree → SourceRange
Invalid-span t = range_of (part 0 t)

pub record ReadsInvalid (form : Invalid) (t : Tree) : Type 0 where
  pub span : form.span ≡ Invalid-span t

abbrev pub invalid : SourceRange → Tree
invalid span = node kinds.Invalid (Range span ∷ [])
