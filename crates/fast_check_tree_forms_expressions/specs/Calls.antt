-- Written by forms/write.py from forms/forms.txt.
-- Members and calls.
-- Each form has its fields by their names, what it holds once it reads a node, and the node of its fields.
use Rattle.std.specs.Prelude.{◌≡◌, Bool, ℕ, List, [], ◌∷◌}
use Rattle.std.specs.Borrow.{Bor}
use Rattle.fast_check_tree_syntax.specs.declared.kind.Kind.TheVariants as kinds
use Rattle.fast_check_tree_syntax.specs.declared.part.Part.{Part}
use Rattle.fast_check_tree_syntax.specs.declared.source.SourceRange.{SourceRange}
use Rattle.fast_check_tree_syntax.specs.declared.source.SyntaxContext.{SyntaxContext}
use Rattle.fast_check_tree_syntax.specs.declared.tree.Tree.{Tree, Range, Flag, Context, Text}
use Rattle.fast_check_tree_syntax.specs.Part.{seen}
use Rattle.fast_check_tree_syntax.specs.Shape.{node, part, range_of, text_of, flag_of, context_of}
use Rattle.fast_check_tree_forms_expressions.specs.declared.calls.MemberExpr.{MemberExpr}
use Rattle.fast_check_tree_forms_expressions.specs.declared.calls.SuperPropExpr.{SuperPropExpr}
use Rattle.fast_check_tree_forms_expressions.specs.declared.calls.CallExpr.{CallExpr}
use Rattle.fast_check_tree_forms_expressions.specs.declared.calls.Super.{Super}
use Rattle.fast_check_tree_forms_expressions.specs.declared.calls.Import.{Import}
use Rattle.fast_check_tree_forms_expressions.specs.declared.calls.NewExpr.{NewExpr}
use Rattle.fast_check_tree_forms_expressions.specs.declared.calls.OptChainExpr.{OptChainExpr}
use Rattle.fast_check_tree_forms_expressions.specs.declared.calls.OptCall.{OptCall}

-- `obj.prop`, `obj.#prop` or `obj[prop]`.
abbrev pub MemberExpr-span : Tree → SourceRange
MemberExpr-span t = range_of (part 0 t)

abbrev pub MemberExpr-obj : Tree → Tree
MemberExpr-obj t = part 1 t

abbrev pub MemberExpr-prop : Tree → Tree
MemberExpr-prop t = part 2 t

pub record ReadsMemberExpr (form : MemberExpr Part) (t : Tree) : Type 0 where
  pub span : form.span ≡ MemberExpr-span t
  pub obj : seen form.obj ≡ MemberExpr-obj t
  pub prop : seen form.prop ≡ MemberExpr-prop t

abbrev pub member_expr : SourceRange → Tree → Tree → Tree
member_expr span obj prop = node kinds.MemberExpr (Range span ∷ obj ∷ prop ∷ [])

-- `super.prop` or `super[prop]`.
abbrev pub SuperPropExpr-span : Tree → SourceRange
SuperPropExpr-span t = range_of (part 0 t)

abbrev pub SuperPropExpr-prop : Tree → Tree
SuperPropExpr-prop t = part 1 t

pub record ReadsSuperPropExpr (form : SuperPropExpr Part) (t : Tree) : Type 0 where
  pub span : form.span ≡ SuperPropExpr-span t
  pub prop : seen form.prop ≡ SuperPropExpr-prop t

abbrev pub super_prop_expr : SourceRange → Tree → Tree
super_prop_expr span prop = node kinds.SuperPropExpr (Range span ∷ prop ∷ [])

-- `callee<type_args>(args)`.
abbrev pub CallExpr-span : Tree → SourceRange
CallExpr-span t = range_of (part 0 t)

abbrev pub CallExpr-ctxt : Tree → SyntaxContext
CallExpr-ctxt t = context_of (part 1 t)

abbrev pub CallExpr-callee : Tree → Tree
CallExpr-callee t = part 2 t

abbrev pub CallExpr-args : Tree → Tree
CallExpr-args t = part 3 t

abbrev pub CallExpr-type_args : Tree → Tree
CallExpr-type_args t = part 4 t

pub record ReadsCallExpr (form : CallExpr Part) (t : Tree) : Type 0 where
  pub span : form.span ≡ CallExpr-span t
  pub ctxt : form.ctxt ≡ CallExpr-ctxt t
  pub callee : seen form.callee ≡ CallExpr-callee t
  pub args : seen form.args ≡ CallExpr-args t
  pub type_args : seen form.type_args ≡ CallExpr-type_args t

abbrev pub call_expr : SourceRange → SyntaxContext → Tree → Tree → Tree → Tree
call_expr span ctxt callee args type_args =
    node kinds.CallExpr (Range span ∷ Context ctxt ∷ callee ∷ args ∷ type_args ∷ [])

-- `super`, as what is called.
abbrev pub Super-span : Tree → SourceRange
Super-span t = range_of (part 0 t)

pub record ReadsSuper (form : Super) (t : Tree) : Type 0 where
  pub span : form.span ≡ Super-span t

abbrev pub super : SourceRange → Tree
super span = node kinds.Super (Range span ∷ [])

-- `import`, as what is called.
abbrev pub Import-span : Tree → SourceRange
Import-span t = range_of (part 0 t)

abbrev pub Import-phase : Tree → List ℕ
Import-phase t = text_of (part 1 t)

pub record ReadsImport (form : Import (Bor (List ℕ))) (t : Tree) : Type 0 where
  pub span : form.span ≡ Import-span t
  pub phase : form.phase.now ≡ Import-phase t

abbrev pub import : SourceRange → List ℕ → Tree
import span phase = node kinds.Import (Range span ∷ Text phase ∷ [])

-- `new callee<type_args>(args)`.
abbrev pub NewExpr-span : Tree → SourceRange
NewExpr-span t = range_of (part 0 t)

abbrev pub NewExpr-ctxt : Tree → SyntaxContext
NewExpr-ctxt t = context_of (part 1 t)

abbrev pub NewExpr-callee : Tree → Tree
NewExpr-callee t = part 2 t

abbrev pub NewExpr-args : Tree → Tree
NewExpr-args t = part 3 t

abbrev pub NewExpr-type_args : Tree → Tree
NewExpr-type_args t = part 4 t

pub record ReadsNewExpr (form : NewExpr Part) (t : Tree) : Type 0 where
  pub span : form.span ≡ NewExpr-span t
  pub ctxt : form.ctxt ≡ NewExpr-ctxt t
  pub callee : seen form.callee ≡ NewExpr-callee t
  pub args : seen form.args ≡ NewExpr-args t
  pub type_args : seen form.type_args ≡ NewExpr-type_args t

abbrev pub new_expr : SourceRange → SyntaxContext → Tree → Tree → Tree → Tree
new_expr span ctxt callee args type_args =
    node kinds.NewExpr (Range span ∷ Context ctxt ∷ callee ∷ args ∷ type_args ∷ [])

-- `base` with a `?.` in it, as `a?.b` or `a?.b()`.
abbrev pub OptChainExpr-span : Tree → SourceRange
OptChainExpr-span t = range_of (part 0 t)

abbrev pub OptChainExpr-optional : Tree → Bool
OptChainExpr-optional t = flag_of (part 1 t)

abbrev pub OptChainExpr-base : Tree → Tree
OptChainExpr-base t = part 2 t

pub record ReadsOptChainExpr (form : OptChainExpr Part) (t : Tree) : Type 0 where
  pub span : form.span ≡ OptChainExpr-span t
  pub optional : form.optional ≡ OptChainExpr-optional t
  pub base : seen form.base ≡ OptChainExpr-base t

abbrev pub opt_chain_expr : SourceRange → Bool → Tree → Tree
opt_chain_expr span optional base = node kinds.OptChainExpr (Range span ∷ Flag optional ∷ base ∷ [])

-- A call in an optional chain: `callee?.<type_args>(args)`.
abbrev pub OptCall-span : Tree → SourceRange
OptCall-span t = range_of (part 0 t)

abbrev pub OptCall-ctxt : Tree → SyntaxContext
OptCall-ctxt t = context_of (part 1 t)

abbrev pub OptCall-callee : Tree → Tree
OptCall-callee t = part 2 t

abbrev pub OptCall-args : Tree → Tree
OptCall-args t = part 3 t

abbrev pub OptCall-type_args : Tree → Tree
OptCall-type_args t = part 4 t

pub record ReadsOptCall (form : OptCall Part) (t : Tree) : Type 0 where
  pub span : form.span ≡ OptCall-span t
  pub ctxt : form.ctxt ≡ OptCall-ctxt t
  pub callee : seen form.callee ≡ OptCall-callee t
  pub args : seen form.args ≡ OptCall-args t
  pub type_args : seen form.type_args ≡ OptCall-type_args t

abbrev pub opt_call : SourceRange → SyntaxContext → Tree → Tree → Tree → Tree
opt_call span ctxt callee args type_args =
    node kinds.OptCall (Range span ∷ Context ctxt ∷ callee ∷ args ∷ type_args ∷ [])
