-- Expando statements: `object.name = value;`, by which a property is declared for a function.
use Rattle.std.specs.Prelude.{ℕ, Bool, ◌&&◌, List, [], ◌∷◌, ◌++◌, codes, if◌then◌else◌}
use Rattle.std.specs.List.{flat_map}
use Rattle.std.specs.Str.{bytes_eq}
use Rattle.fast_check_tree_syntax.specs.declared.atom.Id.{Id}
use Rattle.fast_check_tree_syntax.specs.declared.kind.Kind.TheVariants as kinds
use Rattle.fast_check_tree_syntax.specs.declared.tree.Tree.{Tree}
use Rattle.fast_check_tree_syntax.specs.Shape.{◌is◌, kind_of}
use Rattle.fast_check_tree_syntax.specs.Recursion.{by_form}
use Rattle.fast_check_tree_forms_programs.specs.Names.{Ident-sym, Ident-ctxt}
use Rattle.fast_check_tree_forms_statements.specs.Statements.{ExprStmt-expr}
use Rattle.fast_check_tree_forms_expressions.specs.Calls.{MemberExpr-obj, MemberExpr-prop}
use Rattle.fast_check_tree_forms_expressions.specs.Operators.{AssignExpr-span, AssignExpr-op, AssignExpr-left}
use Rattle.fast_check_tables_modules.specs.declared.expandos.Expando.{Expando}

-- a plain identifier property of an identifier
abbrev pub is_expando_target : Tree → Bool
is_expando_target t =
    (kind_of t is kinds.MemberExpr) &&
    ((kind_of (MemberExpr-obj t) is kinds.Ident) && (kind_of (MemberExpr-prop t) is kinds.IdentName))

-- such a property is assigned to, by `=`
abbrev pub is_expando_assignment : Tree → Bool
is_expando_assignment t = (kind_of t is kinds.AssignExpr) &&
    (bytes_eq (AssignExpr-op t) (codes "=") && is_expando_target (AssignExpr-left t))

-- a statement that is such an assignment
abbrev pub is_expando : Tree → Bool
is_expando t = (kind_of t is kinds.ExprStmt) && is_expando_assignment (ExprStmt-expr t)

abbrev pub id_of : Tree → Id
id_of ident = record { 0 = Ident-sym ident; 1 = Ident-ctxt ident }

-- its object, and the range of its assignment
abbrev pub expando_of : Tree → Expando
expando_of assignment =
    record { object = id_of (MemberExpr-obj (AssignExpr-left assignment)); range = AssignExpr-span assignment }

-- what a tree is itself, if it is an expando statement
abbrev pub own_expando : Tree → List Expando
own_expando t = if is_expando t then expando_of (ExprStmt-expr t) ∷ [] else []

-- the expando statements of a tree: itself, if it is one, and those of its parts, in order
abbrev pub expandos_form : Tree → (ℕ → List Expando) → List (List Expando) → List Expando
expandos_form t inside each = own_expando t ++ flat_map (λ found. found) each

unfoldable pub expandos : Tree → List Expando
expandos = by_form [] expandos_form
