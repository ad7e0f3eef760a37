-- Calls of what TypeScript declares for all modules. A name that nothing in the module binds has the scope number of
-- the unresolved.
use Rattle.std.specs.Prelude.{ℕ, Bool, true, false, ◌==◌, ◌&&◌, ◌||◌, Option, Some, None, List, [], ◌∷◌, if◌then◌else◌}
use Rattle.std.specs.Prelude.{codes}
use Rattle.std.specs.Str.{bytes_eq}
use Rattle.fast_check_tree_syntax.specs.declared.kind.Kind.TheVariants.{Ident, IdentName, MemberExpr, Str}
use Rattle.fast_check_tree_syntax.specs.declared.part.Part.{Part}
use Rattle.fast_check_tree_syntax.specs.declared.source.SyntaxContext.{SyntaxContext}
use Rattle.fast_check_tree_syntax.specs.declared.tree.Tree.{Tree}
use Rattle.fast_check_tree_syntax.specs.Shape.{◌is◌, kind_of, parts, is_absent}
use Rattle.fast_check_tree_forms_programs.specs.Names.{Ident-ctxt, Ident-sym, IdentName-sym}
use Rattle.fast_check_tree_forms_expressions.specs.Calls.{MemberExpr-obj, MemberExpr-prop}
use Rattle.fast_check_tree_forms_expressions.specs.Expressions.{ExprOrSpread-spread, ExprOrSpread-expr, ReadsExprOrSpread}
use Rattle.fast_check_tree_forms_expressions.specs.declared.expressions.ExprOrSpread.{ExprOrSpread}

-- an identifier of this name that nothing in the module binds
abbrev pub is_global : List ℕ → SyntaxContext → Tree → Bool
is_global name unresolved expr = (kind_of expr is Ident) &&
    (bytes_eq (Ident-sym expr) name && ((Ident-ctxt expr).0 == unresolved.0))

-- `.name` of a member
abbrev pub is_plain_name : List ℕ → Tree → Bool
is_plain_name name prop = (kind_of prop is IdentName) && bytes_eq (IdentName-sym prop) name

-- `object.name`, the object global
abbrev pub is_global_member : List ℕ → List ℕ → SyntaxContext → Tree → Bool
is_global_member object name unresolved expr =
    (kind_of expr is MemberExpr) &&
    (is_global object unresolved (MemberExpr-obj expr) && is_plain_name name (MemberExpr-prop expr))

-- the argument, where there is exactly one and it is no spread
abbrev pub sole_argument : List Tree → Option Tree
sole_argument (arg ∷ []) = if is_absent (ExprOrSpread-spread arg) then Some arg else None
sole_argument _ = None

-- the argument of `Object.freeze(x)`, from what is called and the list of arguments
abbrev pub object_freeze_call_arg : SyntaxContext → Tree → Tree → Option Tree
object_freeze_call_arg unresolved callee args =
    if is_global_member (codes "Object") (codes "freeze") unresolved callee then sole_argument (parts args) else None

-- what reads an argument, if there is one
abbrev pub ReadsArgument : Option (ExprOrSpread Part) → Option Tree → Type 0
ReadsArgument (Some form) (Some arg) = ReadsExprOrSpread form arg
ReadsArgument None None = Unit {0}
ReadsArgument _ _ = ⊥

-- `Symbol` or `Symbol.for`
abbrev pub is_symbol_function : SyntaxContext → Tree → Bool
is_symbol_function unresolved callee =
    is_global (codes "Symbol") unresolved callee || is_global_member (codes "Symbol") (codes "for") unresolved callee

-- no argument, or one text
abbrev pub is_symbol_description : List Tree → Bool
is_symbol_description [] = true
is_symbol_description (arg ∷ []) = kind_of (ExprOrSpread-expr arg) is Str
is_symbol_description _ = false

-- `Symbol()`, `Symbol("a")`, `Symbol.for("a")`, which make a symbol
abbrev pub is_symbol_call : SyntaxContext → Tree → Tree → Bool
is_symbol_call unresolved callee args = is_symbol_function unresolved callee && is_symbol_description (parts args)
