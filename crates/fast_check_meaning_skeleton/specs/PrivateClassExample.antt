-- Two modules that agree but for what is hidden: a class that is not public comes and goes.
-- `class H {} export const x: number = 1;`, and `export const x: number = 1;`.
-- The tables of the first say of `H` that it is a class without type parameters, and those of the second of no name.
-- What agrees stands at the place of no text. The class begins at 7.
use Rattle.std.specs.Prelude.{◌≡◌, ◌==◌, false, None, [], ◌∷◌}
use Rattle.std.specs.Str.{bytes_eq}
use Rattle.fast_check_tree_syntax.specs.declared.kind.Kind.TheVariants as kinds
use Rattle.fast_check_tree_syntax.specs.declared.kind.Word.TheVariants as words
use Rattle.fast_check_tree_syntax.specs.declared.tree.Tree as tree
use Rattle.fast_check_tree_syntax.specs.declared.tree.Tree.{Tree, Absent}
use Rattle.fast_check_tree_syntax.specs.Shape.{none_range, node, list}
use Rattle.fast_check_tree_syntax.specs.Moves.{IsRenaming}
use Rattle.fast_check_tree_forms_classes.specs.Classes.{class}
use Rattle.fast_check_tree_forms_programs.specs.Literals.{number}
use Rattle.fast_check_tree_forms_programs.specs.ModuleDecls.{export_decl}
use Rattle.fast_check_tree_forms_programs.specs.Names.{binding_ident}
use Rattle.fast_check_tree_forms_statements.specs.Declarations.{class_decl, var_decl, var_declarator}
use Rattle.fast_check_tree_helpers.specs.Builders.{new_ident, ts_keyword_type, type_ann, never_value}
use Rattle.fast_check_meaning_signatures.specs.Bindings.{Bindings}
use Rattle.fast_check_meaning_signatures.specs.NewNodes.{no_scope}
use Rattle.fast_check_meaning_expandos.specs.Objects.{no_objects}
use Rattle.fast_check_meaning_skeleton.specs.SameValues.{SameExpr}
use Rattle.fast_check_meaning_skeleton.specs.ModuleFacts.{ModuleFacts}
use Rattle.fast_check_meaning_skeleton.specs.Example.{at}
use Rattle.fast_check_meaning_skeleton.specs.ClassExample.{module_of, no_places, no_classes}
use Rattle.fast_check_meaning_skeleton.specs.Hidden.{AgreeHidden}
use Rattle.fast_check_meaning_skeleton.specs.Skeleton.{skeleton_of}

-- `class H {}` at 7
abbrev pub class_h : Tree
class_h =
    class_decl (new_ident (72 ∷ [])) false
    (class (at 7 17) no_scope (list []) (list []) Absent false Absent Absent (list []))

-- `x: number = value`
abbrev pub declarator_x : Tree → Tree
declarator_x value =
    var_declarator none_range (binding_ident (new_ident (120 ∷ [])) (type_ann (ts_keyword_type words.TsNumberKeyword)))
    value false

-- `export const x: number = value;`
abbrev pub statement_x : Tree → Tree
statement_x value = var_decl none_range no_scope (tree.Word words.Const) false (list (declarator_x value ∷ []))

abbrev pub export_x : Tree → Tree
export_x value = export_decl none_range (statement_x value)

-- `1`
abbrev pub one : Tree
one = number none_range (49 ∷ [])

-- `new H()`
abbrev pub new_h : Tree
new_h = node kinds.NewExpr (tree.Range none_range ∷ tree.Context no_scope ∷ new_ident (72 ∷ []) ∷ list [] ∷ Absent ∷ [])

abbrev pub first : Tree
first = module_of (class_h ∷ export_x one ∷ [])

abbrev pub second : Tree
second = module_of (export_x one ∷ [])

-- `H` is a class without type parameters
abbrev pub class_h_known : Bindings
class_h_known = record { unresolved = no_scope; is_plain_class = λ id. bytes_eq id.0 (72 ∷ []) }

-- what stands at the place of no text is public
abbrev pub facts : Bindings → ModuleFacts
facts bindings = record {
  is_public = λ r. r.start.0 == 0;
  is_implementation = λ r. false;
  bindings = bindings;
  is_ambient = false;
  relative = λ text. None;
  objects = no_objects;
}

-- They agree, and the skeleton of both is `export const x: number = {} as never;`.
pub record PrivateClassExample : Type 0 where
  pub one_to_one : IsRenaming no_places
  pub agree : AgreeHidden no_places (facts class_h_known) (facts no_classes) first second
  pub first_skeleton : skeleton_of (facts class_h_known) first ≡ module_of (export_x never_value ∷ [])
  pub second_skeleton : skeleton_of (facts no_classes) second ≡ module_of (export_x never_value ∷ [])
  -- where `H` is called it has to be such a class in both
  pub other_class : SameExpr no_places class_h_known no_classes new_h new_h → ⊥
