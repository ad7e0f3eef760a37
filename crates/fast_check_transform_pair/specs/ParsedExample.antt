-- Two modules at the positions that a parser gives. They differ by hidden changes of all eight kinds, and agree:
-- `function f([a]: number[], n: number = 1, p = 1): void {} z = x as number; @d class C { private m(): void {} } z = h();`
-- `function f([]: number[], n: number = 22, p = 22): void { ; } z = yy as number; class C { private m(a): void {} } z = h(1);`
-- Each stands in one line, whose first byte is at 1. All names are in one scope.
use Rattle.std.specs.Prelude.{ℕ, ◌+◌, false, List, [], ◌∷◌, codes, length}
use Rattle.fast_check_tree_syntax.specs.declared.kind.Kind.TheVariants as kinds
use Rattle.fast_check_tree_syntax.specs.declared.kind.Word.TheVariants as words
use Rattle.fast_check_tree_syntax.specs.declared.source.SourceRange.{SourceRange}
use Rattle.fast_check_tree_syntax.specs.declared.tree.Tree as tree
use Rattle.fast_check_tree_syntax.specs.declared.tree.Tree.{Tree, Absent}
use Rattle.fast_check_tree_syntax.specs.Shape.{node, list}
use Rattle.fast_check_tree_syntax.specs.Moves.{Renaming}
use Rattle.fast_check_tree_forms_classes.specs.Classes.{class}
use Rattle.fast_check_tree_forms_classes.specs.Functions.{function, param}
use Rattle.fast_check_tree_forms_classes.specs.Methods.{class_method}
use Rattle.fast_check_tree_forms_expressions.specs.Assertions.{ts_as_expr}
use Rattle.fast_check_tree_forms_expressions.specs.Calls.{call_expr}
use Rattle.fast_check_tree_forms_expressions.specs.Patterns.{array_pat, assign_pat}
use Rattle.fast_check_tree_forms_programs.specs.Literals.{number}
use Rattle.fast_check_tree_forms_programs.specs.Names.{ident, binding_ident}
use Rattle.fast_check_tree_forms_programs.specs.Programs.{module'}
use Rattle.fast_check_tree_forms_statements.specs.Declarations.{class_decl, fn_decl}
use Rattle.fast_check_tree_forms_statements.specs.Statements.{block_stmt}
use Rattle.fast_check_meaning_skeleton.specs.signatures.NewNodes.{no_scope, ident_name}
use Rattle.fast_check_meaning_skeleton.specs.Example.{at}
use Rattle.fast_check_tree_forms_types.specs.Types.{ts_array_type, ts_keyword_type}
use Rattle.fast_check_tree_forms_types.specs.TypeParams.{ts_type_ann}

-- a name of one letter, with its first byte at a place
abbrev pub letter : List ℕ → ℕ → Tree
letter text start = ident (at start (start + 1)) no_scope text false

-- `number`, `: number`, `: number[]` and `: void` at a place
abbrev pub number_at : ℕ → Tree
number_at start = ts_keyword_type (at start (start + 6)) (tree.Word words.TsNumberKeyword)

abbrev pub typed_number : ℕ → Tree
typed_number start = ts_type_ann (at start (start + 8)) (number_at (start + 2))

abbrev pub typed_numbers : ℕ → Tree
typed_numbers start = ts_type_ann (at start (start + 10)) (ts_array_type (at (start + 2) (start + 10)) (number_at (start + 2)))

abbrev pub typed_void : ℕ → Tree
typed_void start =
    ts_type_ann (at start (start + 6)) (ts_keyword_type (at (start + 2) (start + 6)) (tree.Word words.TsVoidKeyword))

-- `[elements]: number[]`, with the place of its type; `n: number = value` and `p = value`, from a place to another
abbrev pub pattern : ℕ → ℕ → List Tree → Tree
pattern start type elements = array_pat (at start (type + 10)) (list elements) false (typed_numbers type)

abbrev pub typed_default : ℕ → ℕ → List ℕ → Tree
typed_default start end value =
    assign_pat (at start end) (binding_ident (letter (codes "n") start) (typed_number (start + 1)))
    (number (at (start + 12) end) value)

abbrev pub shown_default : ℕ → ℕ → List ℕ → Tree
shown_default start end value =
    assign_pat (at start end) (binding_ident (letter (codes "p") start) Absent) (number (at (start + 4) end) value)

abbrev pub parameter : ℕ → ℕ → Tree → Tree
parameter start end pat = param (at start end) (list []) pat

-- `(params): void body` of a function or a method, where it stands, with the place of its type
abbrev pub void_function : SourceRange → List Tree → ℕ → Tree → Tree
void_function place params type body =
    function place (list params) (list []) no_scope body false false Absent (typed_void type)

-- `z = value;`
abbrev pub assignment : ℕ → ℕ → Tree → Tree
assignment start end value =
    node kinds.AssignExpr (tree.Range (at start end) ∷ tree.Text (codes "=") ∷
    binding_ident (letter (codes "z") start) Absent ∷ value ∷ [])

abbrev pub assigned : ℕ → ℕ → Tree → Tree
assigned start end value = node kinds.ExprStmt (tree.Range (at start (end + 1)) ∷ assignment start end value ∷ [])

-- `private m(params): void {}`, with the place of its type
abbrev pub method : ℕ → List Tree → ℕ → ℕ → Tree
method start params type end =
    class_method (at start end) (ident_name (at (start + 8) (start + 9)) (codes "m"))
    (void_function (at (start + 8) end) params type (block_stmt (at (type + 7) end) no_scope (list [])))
    (tree.Word words.Method) false (tree.Word words.Private) false false false

-- `class C { member }` behind decorators, with the place of `C`
abbrev pub class_c : SourceRange → ℕ → List Tree → Tree → Tree
class_c place name decorators member =
    class_decl (letter (codes "C") name) false
    (class place no_scope (list decorators) (list (member ∷ [])) Absent false Absent Absent (list []))

abbrev pub letter_pat : List ℕ → ℕ → Tree
letter_pat text start = binding_ident (letter text start) Absent

abbrev pub function_f : SourceRange → List Tree → ℕ → Tree → Tree
function_f place params type body = fn_decl (letter (codes "f") 10) false (void_function place params type body)

-- the items of the first module
abbrev pub first_params : List Tree
first_params =
    parameter 12 25 (pattern 12 15 (letter_pat (codes "a") 13 ∷ [])) ∷
    parameter 27 40 (typed_default 27 40 (codes "1")) ∷ parameter 42 47 (shown_default 42 47 (codes "1")) ∷ []

abbrev pub first_function : Tree
first_function = function_f (at 1 57) first_params 48 (block_stmt (at 55 57) no_scope (list []))

abbrev pub first_value : Tree
first_value = ts_as_expr (at 62 73) (letter (codes "x") 62) (number_at 67)

abbrev pub first_class : Tree
first_class =
    class_c (at 75 110) 84 (node kinds.Decorator (tree.Range (at 75 77) ∷ letter (codes "d") 76 ∷ []) ∷ [])
    (method 88 [] 99 108)

abbrev pub first_call : Tree
first_call = call_expr (at 115 118) no_scope (letter (codes "h") 115) (list []) Absent

abbrev pub first : Tree
first = module' (at 1 119)
    (list (first_function ∷ assigned 58 73 first_value ∷ first_class ∷ assigned 111 118 first_call ∷ [])) Absent

-- those of the second one
abbrev pub second_params : List Tree
second_params =
    parameter 12 24 (pattern 12 14 []) ∷ parameter 26 40 (typed_default 26 40 (codes "22")) ∷
    parameter 42 48 (shown_default 42 48 (codes "22")) ∷ []

abbrev pub second_function : Tree
second_function = function_f (at 1 61) second_params 49
    (block_stmt (at 56 61) no_scope (list (node kinds.EmptyStmt (tree.Range (at 58 59) ∷ []) ∷ [])))

abbrev pub second_value : Tree
second_value = ts_as_expr (at 66 78) (ident (at 66 68) no_scope (codes "yy") false) (number_at 72)

abbrev pub second_class : Tree
second_class = class_c (at 80 113) 86 [] (method 90 (parameter 100 101 (letter_pat (codes "a") 100) ∷ []) 102 111)

abbrev pub second_call : Tree
second_call = call_expr (at 118 122) no_scope (letter (codes "h") 118)
    (list (node kinds.ExprOrSpread (Absent ∷ number (at 120 121) (codes "1") ∷ []) ∷ [])) Absent

abbrev pub second : Tree
second = module' (at 1 123)
    (list (second_function ∷ assigned 62 78 second_value ∷ second_class ∷ assigned 114 122 second_call ∷ [])) Absent

-- the items, which are public
abbrev pub first_public : List SourceRange
first_public = at 1 57 ∷ at 58 73 ∷ at 75 110 ∷ at 111 118 ∷ []

abbrev pub second_public : List SourceRange
second_public = at 1 61 ∷ at 62 78 ∷ at 80 113 ∷ at 114 122 ∷ []

-- the places of what is not hidden
abbrev pub renaming : Renaming
renaming = record {
  starts =
      (0, 0) ∷ (1, 1) ∷ (10, 10) ∷ (12, 12) ∷ (15, 14) ∷ (17, 16) ∷ (27, 26) ∷ (28, 27) ∷ (30, 29) ∷ (42, 42) ∷
      (48, 49) ∷ (50, 51) ∷ (58, 62) ∷ (62, 66) ∷ (67, 72) ∷ (75, 80) ∷ (84, 86) ∷ (88, 90) ∷ (96, 98) ∷
      (111, 114) ∷ (115, 118) ∷ [];
  ends =
      (0, 0) ∷ (11, 11) ∷ (23, 22) ∷ (25, 24) ∷ (28, 27) ∷ (36, 35) ∷ (40, 40) ∷ (43, 43) ∷ (47, 48) ∷ (54, 55) ∷
      (57, 61) ∷ (73, 78) ∷ (74, 79) ∷ (85, 87) ∷ (97, 99) ∷ (108, 111) ∷ (110, 113) ∷ (118, 122) ∷ (119, 123) ∷ [];
  scopes = (0, 0) ∷ [];
}
