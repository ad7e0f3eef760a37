-- Two modules with a function and a class, public both, that agree but for what is hidden:
-- `function f(): void {} class C { private m(): void {} }`, and
-- `function f(): void { ; } class C { static {} private m(a): void {} }`.
-- What agrees stands at the place of no text, so that the renaming has the pair of 0 alone. The static block begins at
-- 7.
use Rattle.std.specs.Prelude.{◌≡◌, true, false, None, List, [], ◌∷◌}
use Rattle.fast_check_tree_syntax.specs.declared.kind.Kind.TheVariants as kinds
use Rattle.fast_check_tree_syntax.specs.declared.kind.Word.TheVariants as words
use Rattle.fast_check_tree_syntax.specs.declared.tree.Tree as tree
use Rattle.fast_check_tree_syntax.specs.declared.tree.Tree.{Tree, Absent}
use Rattle.fast_check_tree_syntax.specs.Shape.{none_range, node, list}
use Rattle.fast_check_tree_syntax.specs.Moves.{Renaming, IsRenaming}
use Rattle.fast_check_tree_forms_classes.specs.Classes.{class}
use Rattle.fast_check_tree_forms_classes.specs.Functions.{param}
use Rattle.fast_check_tree_forms_classes.specs.Methods.{class_method}
use Rattle.fast_check_tree_forms_programs.specs.Names.{binding_ident}
use Rattle.fast_check_tree_forms_programs.specs.Programs.{module'}
use Rattle.fast_check_tree_forms_statements.specs.Declarations.{class_decl, fn_decl}
use Rattle.fast_check_tree_helpers.specs.Builders.{new_ident, any_type_ann}
use Rattle.fast_check_meaning_signatures.specs.Answers.{declared_property}
use Rattle.fast_check_meaning_signatures.specs.Bindings.{Bindings}
use Rattle.fast_check_meaning_signatures.specs.NewNodes.{no_scope, new_block, ident_name}
use Rattle.fast_check_meaning_skeleton.specs.Example.{at}
use Rattle.fast_check_meaning_skeleton.specs.HiddenChanges.{void_function}
use Rattle.fast_check_meaning_expandos.specs.Objects.{no_objects}
use Rattle.fast_check_meaning_skeleton.specs.ModuleFacts.{ModuleFacts}
use Rattle.fast_check_meaning_skeleton.specs.Hidden.{AgreeHidden}
use Rattle.fast_check_meaning_skeleton.specs.Skeleton.{skeleton_of}

-- `function f(): void { stmts }`
abbrev pub function_f : List Tree → Tree
function_f stmts = fn_decl (new_ident (102 ∷ [])) false (void_function [] stmts)

-- `private m(params): void {}`
abbrev pub method_m : List Tree → Tree
method_m params =
    class_method none_range (ident_name none_range (109 ∷ [])) (void_function params []) (tree.Word words.Method) false
    (tree.Word words.Private) false false
    false

-- `class C { members }`
abbrev pub class_of_members : List Tree → Tree
class_of_members members = class none_range no_scope (list []) (list members) Absent false Absent Absent (list [])

abbrev pub class_c : List Tree → Tree
class_c members = class_decl (new_ident (67 ∷ [])) false (class_of_members members)

abbrev pub static_block : Tree
static_block = node kinds.StaticBlock (tree.Range (at 7 16) ∷ new_block [] ∷ [])

-- `;` and `a`
abbrev pub empty_statement : Tree
empty_statement = node kinds.EmptyStmt (tree.Range none_range ∷ [])

abbrev pub parameter : Tree
parameter = param none_range (list []) (binding_ident (new_ident (97 ∷ [])) Absent)

abbrev pub module_of : List Tree → Tree
module_of items = module' none_range (list items) Absent

abbrev pub first : Tree
first = module_of (function_f [] ∷ class_c (method_m [] ∷ []) ∷ [])

abbrev pub second : Tree
second = module_of (function_f (empty_statement ∷ []) ∷ class_c (static_block ∷ method_m (parameter ∷ []) ∷ []) ∷ [])

-- the place of no text, and no scope
abbrev pub no_places : Renaming
no_places = record { starts = (0, 0) ∷ []; ends = (0, 0) ∷ []; scopes = (0, 0) ∷ [] }

-- no name is that of a class
abbrev pub no_classes : Bindings
no_classes = record { unresolved = no_scope; is_plain_class = λ id. false }

-- all is public, and nothing is an implementation behind overloads
abbrev pub all_public : ModuleFacts
all_public = record {
  is_public = λ r. true;
  is_implementation = λ r. false;
  bindings = no_classes;
  is_ambient = false;
  relative = λ text. None;
  objects = no_objects;
}

-- `declare private m: any;`
abbrev pub property_m : Tree
property_m = declared_property (record {
  span = none_range;
  key = ident_name none_range (109 ∷ []);
  is_static = false;
  accessibility = tree.Word words.Private;
  is_abstract = false;
  is_optional = false;
  is_override = false;
  readonly = false;
}) any_type_ann

-- They agree, and the skeleton of both is `function f(): void {} class C { declare private m: any; }`.
pub record ClassExample : Type 0 where
  pub one_to_one : IsRenaming no_places
  pub agree : AgreeHidden no_places all_public all_public first second
  pub first_skeleton : skeleton_of all_public first ≡ module_of (function_f [] ∷ class_c (property_m ∷ []) ∷ [])
  pub second_skeleton : skeleton_of all_public second ≡ module_of (function_f [] ∷ class_c (property_m ∷ []) ∷ [])
