-- Two modules with a function and a property that is assigned to it, public all, that agree but for what is hidden:
-- `function f(): void {} f.a = x as number;`, and `function f(): void { ; } f.a = y as number;`.
-- What agrees stands at the place of no text.
use Rattle.std.specs.Prelude.{◌≡◌, true, false, None, [], ◌∷◌, codes}
use Rattle.fast_check_tree_syntax.specs.declared.kind.Kind.TheVariants as kinds
use Rattle.fast_check_tree_syntax.specs.declared.kind.Word.TheVariants as words
use Rattle.fast_check_tree_syntax.specs.declared.tree.Tree as tree
use Rattle.fast_check_tree_syntax.specs.declared.tree.Tree.{Tree}
use Rattle.fast_check_tree_syntax.specs.Shape.{none_range, node}
use Rattle.fast_check_tree_syntax.specs.Moves.{IsRenaming}
use Rattle.fast_check_tree_forms_expressions.specs.Assertions.{ts_as_expr}
use Rattle.fast_check_tree_helpers.specs.Builders.{new_ident, ts_keyword_type}
use Rattle.fast_check_meaning_signatures.specs.NewNodes.{ident_name, never_in_parens}
use Rattle.fast_check_meaning_expandos.specs.Expandos.{property_declarator, namespace_decl}
use Rattle.fast_check_meaning_skeleton.specs.ClassExample.{function_f, empty_statement, module_of, no_places, no_classes}
use Rattle.fast_check_meaning_skeleton.specs.ClassExample.{all_public}
use Rattle.fast_check_meaning_skeleton.specs.Hidden.{AgreeHidden}
use Rattle.fast_check_meaning_skeleton.specs.SameAssignments.{SameObject}
use Rattle.fast_check_meaning_skeleton.specs.Skeleton.{skeleton_of}
use Rattle.fast_check_meaning_skeleton.specs.ModuleFacts.{ModuleFacts}

-- `operand as number`
abbrev pub as_number : Tree → Tree
as_number operand = ts_as_expr none_range operand (ts_keyword_type words.TsNumberKeyword)

-- `x as number` and `y as number`
abbrev pub x_value : Tree
x_value = as_number (new_ident (120 ∷ []))

abbrev pub y_value : Tree
y_value = as_number (new_ident (121 ∷ []))

-- `f.a`
abbrev pub target : Tree
target = node kinds.MemberExpr (tree.Range none_range ∷ new_ident (102 ∷ []) ∷ ident_name none_range (97 ∷ []) ∷ [])

-- `f.a = value` and `f.a = value;`
abbrev pub assignment : Tree → Tree
assignment value = node kinds.AssignExpr (tree.Range none_range ∷ tree.Text (codes "=") ∷ target ∷ value ∷ [])

abbrev pub assigned : Tree → Tree
assigned value = node kinds.ExprStmt (tree.Range none_range ∷ assignment value ∷ [])

abbrev pub first : Tree
first = module_of (function_f [] ∷ assigned x_value ∷ [])

abbrev pub second : Tree
second = module_of (function_f (empty_statement ∷ []) ∷ assigned y_value ∷ [])

-- `namespace f { export var a = ({} as never) as number; }`
abbrev pub namespace_f : Tree
namespace_f = namespace_decl (102 ∷ []) (property_declarator none_range target (as_number never_in_parens) ∷ [])

abbrev pub answered : Tree
answered = module_of (function_f [] ∷ namespace_f ∷ [])

-- the same facts, but each object stands behind the keyword `export`
abbrev pub all_exported : ModuleFacts
all_exported = record {
  is_public = all_public.is_public;
  is_implementation = all_public.is_implementation;
  bindings = no_classes;
  is_ambient = false;
  relative = λ text. None;
  objects = record { exports = λ id name. false; has_export_keyword = λ id. true };
}

-- They agree, and the skeleton of both is `function f(): void {} namespace f { export var a = ({} as never) as number;
-- }`.
pub record ExpandoExample : Type 0 where
  pub one_to_one : IsRenaming no_places
  pub agree : AgreeHidden no_places all_public all_public first second
  pub first_skeleton : skeleton_of all_public first ≡ answered
  pub second_skeleton : skeleton_of all_public second ≡ answered
  -- an object that is exported does not agree with one that is not
  pub other_object : SameObject no_places all_public all_exported target target → ⊥
