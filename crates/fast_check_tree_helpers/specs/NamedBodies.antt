-- Bodies that name their return type: the last statement returns a value that shows its type, and no other statement
-- returns.
use Rattle.std.specs.Prelude.{ℕ, Bool, true, false, is_some, Option, Some, None, List, [], ◌∷◌, if◌then◌else◌}
use Rattle.std.specs.Prelude.{unwrap_or}
use Rattle.std.specs.Option.{option_map}
use Rattle.fast_check_tree_syntax.specs.declared.kind.Kind.{Kind}
use Rattle.fast_check_tree_syntax.specs.declared.kind.Kind.TheVariants.{ReturnStmt}
use Rattle.fast_check_tree_syntax.specs.declared.kind.Kind.TheVariants as kinds
use Rattle.fast_check_tree_syntax.specs.declared.source.SyntaxContext.{SyntaxContext}
use Rattle.fast_check_tree_syntax.specs.declared.tree.Tree.{Tree}
use Rattle.fast_check_tree_syntax.specs.Shape.{◌is◌, kind_of, parts, is_absent}
use Rattle.fast_check_tree_syntax.specs.Recursion.{by_form}
use Rattle.fast_check_tree_forms_statements.specs.Statements.{ReturnStmt-arg, BlockStmt-stmts}
use Rattle.fast_check_tree_helpers.specs.declared.literal_type.DeclMutabilityKind.TheVariants.{Mutable}
use Rattle.fast_check_tree_helpers.specs.InferredType.{inferred_type, value_in}
use Rattle.fast_check_tree_helpers.specs.LiteralType.{type_of_literal}
use Rattle.fast_check_tree_helpers.specs.ReturnClass.{returns}

-- the argument of a return statement that has one
abbrev pub return_arg : Tree → Option Tree
return_arg stmt =
    if kind_of stmt is ReturnStmt then
    (if is_absent (ReturnStmt-arg stmt) then None else Some (ReturnStmt-arg stmt)) else None

abbrev pub is_empty : List Bool → Bool
is_empty [] = true
is_empty (_ ∷ _) = false

-- no return statement is reached from a statement
abbrev pub returns_nowhere : Tree → Bool
returns_nowhere stmt = is_empty (returns stmt)

-- the argument of the last statement, if that is a return statement with an argument and none before it returns
abbrev pub arg_of_last : List Tree → Option Tree
arg_of_last [] = None
arg_of_last (last ∷ []) = return_arg last
arg_of_last (stmt ∷ next ∷ rest) = if returns_nowhere stmt then arg_of_last (next ∷ rest) else None

-- the argument of the only return statement of a body, a block, if that is its last statement and has an argument
abbrev pub single_return_arg : Tree → Option Tree
single_return_arg body = arg_of_last (parts (BlockStmt-stmts body))

-- A literal that shows its type, a template without a tag, `value as type` or `<type>value`; in parentheses and before
-- `satisfies` too, where `inside` has the answer of the part at a place. The call that makes a symbol is none of these.
abbrev pub names_by_kind : Kind → Tree → (ℕ → Bool) → Bool
names_by_kind kinds.TsAsExpr value inside = true
names_by_kind kinds.TsTypeAssertion value inside = true
names_by_kind kinds.Tpl value inside = true
names_by_kind kind value inside = unwrap_or (option_map inside (value_in kind))
    (is_some (type_of_literal Mutable value))

abbrev pub names_form : Tree → (ℕ → Bool) → List Bool → Bool
names_form value inside each = names_by_kind (kind_of value) value inside

unfoldable pub names_type : Tree → Bool
names_type = by_form false names_form

-- the type that an argument names, as of what may change
abbrev pub named_by : SyntaxContext → Option Tree → Option Tree
named_by unresolved (Some arg) = if names_type arg then inferred_type Mutable unresolved arg else None
named_by unresolved None = None

-- the return type that a body names; that of a generator names none
abbrev pub named_return : SyntaxContext → Bool → Tree → Option Tree
named_return unresolved is_generator body = if is_generator then None else named_by unresolved (single_return_arg body)
