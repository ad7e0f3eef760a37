-- Two modules that agree but for what is hidden: an assignment to a property of a function, which is not public, comes
-- and goes.
-- `function f(): void {} f.a = c; f.b = c;`, and `function f(): void { ; } f.a = c;`.
-- The table of the first has `b` for an export of `f`, and that of the second has none. What agrees stands at the place
-- of no text. The second assignment begins at 7.
use Rattle.std.specs.Prelude.{◌==◌, false, None, [], ◌∷◌, codes}
use Rattle.std.specs.Str.{bytes_eq}
use Rattle.fast_check_tree_syntax.specs.declared.kind.Kind.TheVariants as kinds
use Rattle.fast_check_tree_syntax.specs.declared.tree.Tree as tree
use Rattle.fast_check_tree_syntax.specs.declared.tree.Tree.{Tree}
use Rattle.fast_check_tree_syntax.specs.Shape.{node}
use Rattle.fast_check_tree_syntax.specs.Moves.{IsRenaming}
use Rattle.fast_check_tree_helpers.specs.Builders.{new_ident}
use Rattle.fast_check_meaning_signatures.specs.NewNodes.{ident_name}
use Rattle.fast_check_meaning_expandos.specs.Objects.{Objects, no_objects}
use Rattle.fast_check_meaning_skeleton.specs.ModuleFacts.{ModuleFacts}
use Rattle.fast_check_meaning_skeleton.specs.Example.{at}
use Rattle.fast_check_meaning_skeleton.specs.ClassExample.{function_f, empty_statement, module_of, no_places, no_classes}
use Rattle.fast_check_meaning_skeleton.specs.ExpandoExample.{assignment, assigned}
use Rattle.fast_check_meaning_skeleton.specs.SameAssignments.{SameExpando}
use Rattle.fast_check_meaning_skeleton.specs.Hidden.{AgreeHidden}

-- `b` and `c`
abbrev pub name_b : Tree
name_b = new_ident (98 ∷ [])

abbrev pub name_c : Tree
name_c = new_ident (99 ∷ [])

-- `f.b = c;` at 7
abbrev pub silent : Tree
silent =
    let target =
    node kinds.MemberExpr (tree.Range (at 7 10) ∷ new_ident (102 ∷ []) ∷ ident_name (at 9 10) (98 ∷ []) ∷ []) in
    node kinds.ExprStmt (tree.Range (at 7 15) ∷
    node kinds.AssignExpr (tree.Range (at 7 14) ∷ tree.Text (codes "=") ∷ target ∷ name_c ∷ []) ∷ [])

abbrev pub first : Tree
first = module_of (function_f [] ∷ assigned name_c ∷ silent ∷ [])

abbrev pub second : Tree
second = module_of (function_f (empty_statement ∷ []) ∷ assigned name_c ∷ [])

-- objects that export `b`
abbrev pub exporting_b : Objects
exporting_b = record { exports = λ id name. bytes_eq name (98 ∷ []); has_export_keyword = λ id. false }

-- what stands at the place of no text is public
abbrev pub facts : Objects → ModuleFacts
facts objects = record {
  is_public = λ r. r.start.0 == 0;
  is_implementation = λ r. false;
  bindings = no_classes;
  is_ambient = false;
  relative = λ text. None;
  objects = objects;
}

-- They agree.
pub record SilentAssignmentExample : Type 0 where
  pub one_to_one : IsRenaming no_places
  pub agree : AgreeHidden no_places (facts exporting_b) (facts no_objects) first second
  -- a value that mentions `b` agrees with no other: in the namespace of `f` it is not what it was where `f` exports it
  pub other_value :
      SameExpando no_places (facts exporting_b) (facts no_objects) (assignment name_b) (assignment name_b) → ⊥
