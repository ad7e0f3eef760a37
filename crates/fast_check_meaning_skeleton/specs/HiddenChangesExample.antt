-- Two modules, public all, that agree, and differ by hidden changes of all kinds:
-- `function f([a]: number[], n: number = 1, p = 1): void {} f.a = x as number;
-- @d class C { private m(): void {} } z = h();`, and
-- `function f([]: number[], n: number = 2, p = 2): void { ; } f.a = y as number;
-- class C { static {} private m(a): void {} } z = h, h;`.
-- These are a body behind a written return type, the elements of a pattern, a default behind a written type and one
-- that shows the same type, the operand of an assertion, a decorator, the signature of a private method, and a value
-- that may not stay. What agrees stands at the place of no text. The static block begins at 7.
use Rattle.std.specs.Prelude.{ℕ, false, List, [], ◌∷◌, codes}
use Rattle.fast_check_tree_syntax.specs.declared.kind.Kind.TheVariants as kinds
use Rattle.fast_check_tree_syntax.specs.declared.tree.Tree as tree
use Rattle.fast_check_tree_syntax.specs.declared.tree.Tree.{Tree, Absent}
use Rattle.fast_check_tree_syntax.specs.Shape.{none_range, node, list}
use Rattle.fast_check_tree_syntax.specs.Moves.{IsRenaming}
use Rattle.fast_check_tree_forms_classes.specs.Classes.{class}
use Rattle.fast_check_tree_forms_classes.specs.Functions.{param}
use Rattle.fast_check_tree_forms_programs.specs.Literals.{number}
use Rattle.fast_check_tree_forms_programs.specs.Names.{binding_ident}
use Rattle.fast_check_tree_forms_statements.specs.Declarations.{class_decl, fn_decl}
use Rattle.fast_check_tree_helpers.specs.Builders.{new_ident}
use Rattle.fast_check_meaning_signatures.specs.NewNodes.{no_scope}
use Rattle.fast_check_meaning_skeleton.specs.HiddenChanges.{void_function, pattern, typed_default, shown_default, call, sequence}
use Rattle.fast_check_meaning_skeleton.specs.ClassExample.{method_m, static_block, empty_statement, parameter}
use Rattle.fast_check_meaning_skeleton.specs.ClassExample.{module_of, no_places, all_public}
use Rattle.fast_check_meaning_skeleton.specs.ExpandoExample.{x_value, y_value, assigned}
use Rattle.fast_check_meaning_skeleton.specs.Hidden.{AgreeHidden}

-- `a`, and `[elements]: number[], n: number = value, p = value`
abbrev pub name_a : Tree
name_a = binding_ident (new_ident (97 ∷ [])) Absent

abbrev pub parameters : List Tree → List ℕ → List Tree
parameters elements value =
    param none_range (list []) (pattern elements) ∷ param none_range (list []) (typed_default (number none_range value)) ∷
    param none_range (list []) (shown_default value) ∷ []

-- `function f(parameters): void { stmts }`
abbrev pub function_of : List Tree → List ℕ → List Tree → Tree
function_of elements value stmts =
    fn_decl (new_ident (102 ∷ [])) false (void_function (parameters elements value) stmts)

-- `class C { members }` behind decorators, and `@d`
abbrev pub decorated : List Tree → List Tree → Tree
decorated decorators members =
    class none_range no_scope (list decorators) (list members) Absent false Absent Absent (list [])

abbrev pub class_of : List Tree → List Tree → Tree
class_of decorators members = class_decl (new_ident (67 ∷ [])) false (decorated decorators members)

abbrev pub decorator : Tree
decorator = node kinds.Decorator (tree.Range none_range ∷ new_ident (100 ∷ []) ∷ [])

-- `z = value` and `z = value;`
abbrev pub assignment_z : Tree → Tree
assignment_z value =
    node kinds.AssignExpr (tree.Range none_range ∷ tree.Text (codes "=") ∷
    binding_ident (new_ident (122 ∷ [])) Absent ∷ value ∷ [])

abbrev pub assigned_z : Tree → Tree
assigned_z value = node kinds.ExprStmt (tree.Range none_range ∷ assignment_z value ∷ [])

abbrev pub first : Tree
first =
    module_of (function_of (name_a ∷ []) (49 ∷ []) [] ∷ assigned x_value ∷
    class_of (decorator ∷ []) (method_m [] ∷ []) ∷ assigned_z call ∷ [])

abbrev pub second : Tree
second =
    module_of (function_of [] (50 ∷ []) (empty_statement ∷ []) ∷ assigned y_value ∷
    class_of [] (static_block ∷ method_m (parameter ∷ []) ∷ []) ∷ assigned_z sequence ∷ [])

-- They agree.
pub record HiddenChangesExample : Type 0 where
  pub one_to_one : IsRenaming no_places
  pub agree : AgreeHidden no_places all_public all_public first second
