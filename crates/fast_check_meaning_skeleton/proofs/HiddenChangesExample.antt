-- The two modules of the example with hidden changes of all kinds agree.
use Rattle.std.specs.Prelude.{◌≡◌, ℕ, false, List, [], ◌∷◌, refl}
use Rattle.std.specs.List.{list_any}
use Rattle.std.proofs.Common.{inl, sym, subst₂}
use Rattle.fast_check_tree_syntax.specs.declared.source.SourceRange.{SourceRange}
use Rattle.fast_check_tree_syntax.specs.declared.tree.Tree.{Tree, Absent}
use Rattle.fast_check_tree_syntax.specs.Shape.{none_range, list, parts}
use Rattle.fast_check_tree_syntax.proofs.Made.{kind_of_node, parts_node, part_node, is_absent_node, flag_of_flag, range_of_range}
use Rattle.fast_check_tree_forms_classes.specs.Classes.{Class-body}
use Rattle.fast_check_tree_forms_classes.specs.Functions.{Function-params, Param-span, param}
use Rattle.fast_check_tree_forms_expressions.specs.Operators.{AssignExpr-right}
use Rattle.fast_check_tree_forms_programs.specs.Literals.{number}
use Rattle.fast_check_tree_forms_statements.specs.Declarations.{ClassDecl-class, FnDecl-function}
use Rattle.fast_check_tree_forms_statements.specs.Statements.{ExprStmt-expr}
use Rattle.fast_check_tree_helpers.specs.Builders.{new_ident}
use Rattle.fast_check_tables_modules.specs.Expandos.{is_expando_assignment}
use Rattle.fast_check_meaning_signatures.specs.Members.{is_hash_named}
use Rattle.fast_check_meaning_skeleton.specs.SameClasses.{SameMembers, SameClassHead, SameClass}
use Rattle.fast_check_meaning_skeleton.specs.SameClasses as s
use Rattle.fast_check_meaning_skeleton.specs.SameValues.{SameExpr, SameFunction, SameParams, SamePat}
use Rattle.fast_check_meaning_skeleton.specs.SameValues as v
use Rattle.fast_check_meaning_skeleton.specs.Hidden.{AgreeHidden, SameFunctionDecl, SameClassDecl, SameItem, SameItems}
use Rattle.fast_check_meaning_skeleton.specs.Hidden as h
use Rattle.fast_check_meaning_skeleton.specs.SameAssignments.{SameAssignment}
use Rattle.fast_check_meaning_skeleton.specs.SameAssignments as forms
use Rattle.fast_check_meaning_skeleton.specs.HiddenChanges.{void_function, call, sequence, HiddenChanges}
use Rattle.fast_check_meaning_skeleton.specs.ClassExample.{empty_statement, no_places, no_classes, all_public}
use Rattle.fast_check_meaning_skeleton.specs.HiddenChangesExample.{name_a, parameters, function_of, decorated, class_of, decorator}
use Rattle.fast_check_meaning_skeleton.specs.HiddenChangesExample.{assignment_z, assigned_z, first, second, HiddenChangesExample}
use Rattle.fast_check_meaning_skeleton.proofs.HiddenChanges.{hides_changes}
use Rattle.fast_check_meaning_skeleton.proofs.ClassExample.{is_renaming, SamePlace, same_absent, same_none, same_ident, at_places}
use Rattle.fast_check_meaning_skeleton.proofs.ClassExample.{in_scopes, are_same, function_head, function_return, f, members, first_members}
use Rattle.fast_check_meaning_skeleton.proofs.ClassExample.{second_members, neither_hashed, items_made}
use Rattle.fast_check_meaning_skeleton.proofs.ExpandoExample.{both_assigned}
use Rattle.fast_check_meaning_skeleton.proofs.Example.{context_of_context}
use Rattle.fast_check_meaning_skeleton.proofs.ModuleExample.{text_of_text}

-- ---- parameters

abbrev SamePat' : Tree → Tree → Type 0
SamePat' = SamePat no_places no_classes no_classes

-- what is hidden under each renaming
hidden : HiddenChanges no_places no_classes no_classes f f
hidden = hides_changes no_places is_renaming no_classes no_classes f f

placed : (pat pat' : Tree) → SamePlace (Param-span (param none_range (list []) pat)) (Param-span (param none_range (list []) pat'))
placed pat pat' = at_places _ _ (simp (part_node, range_of_range)) (simp (part_node, range_of_range))

all_parameters : (es ds : List Tree) (x y : List ℕ) → SameParams no_places no_classes no_classes (parameters es x) (parameters ds y)
all_parameters es ds x y =
    v.SameParams.next_param (placed _ _) (subst₂ SamePat' (sym (part_node _ _ _)) (sym (part_node _ _ _)) (hidden.elements es ds))
    (v.SameParams.next_param (placed _ _)
    (subst₂ SamePat' (sym (part_node _ _ _)) (sym (part_node _ _ _)) (hidden.typed_defaults (number none_range x) (number none_range y)))
    (v.SameParams.next_param (placed _ _)
    (subst₂ SamePat' (sym (part_node _ _ _)) (sym (part_node _ _ _)) (hidden.shown_defaults x y)) v.SameParams.no_params))

-- ---- the function

params_made : (ps ss : List Tree) → parts (Function-params (void_function ps ss)) ≡ ps
params_made ps ss = simp parts_node

functions : (es ds : List Tree) (x y : List ℕ) (ss ts : List Tree) →
    SameFunction no_places no_classes no_classes (void_function (parameters es x) ss) (void_function (parameters ds y) ts)
functions es ds x y ss ts =
    v.SameFunction.typed_function (function_head _ _ ss ts) (function_return _ _ ss ts) (simp (part_node, is_absent_node))
    (subst₂ (SameParams no_places no_classes no_classes) (sym (params_made _ ss)) (sym (params_made _ ts)) (all_parameters es ds x y))

function_decls : (p q : SourceRange) (es ds : List Tree) (x y : List ℕ) (ss ts : List Tree) →
    SameFunctionDecl no_places all_public all_public p q (function_of es x ss) (function_of ds y ts)
function_decls p q es ds x y ss ts = record {
  kinds = record { left = kind_of_node _ _; right = kind_of_node _ _ };
  is_public = refl;
  is_ambient = refl;
  ident = are_same _ _ (new_ident (102 ∷ [])) (part_node _ _ _) (part_node _ _ _) (same_ident (102 ∷ []));
  declare = simp (part_node, flag_of_flag);
}

function_made : (es : List Tree) (x : List ℕ) (ss : List Tree) → FnDecl-function (function_of es x ss) ≡ void_function (parameters es x) ss
function_made es x ss = part_node _ _ _

function_items : (es ds : List Tree) (x y : List ℕ) (ss ts : List Tree) →
    SameItem no_places all_public all_public (function_of es x ss) (function_of ds y ts)
function_items es ds x y ss ts = h.SameItem.decl (h.SameDecl.function (function_decls _ _ es ds x y ss ts) refl refl
    (subst₂ (SameFunction no_places no_classes no_classes) (sym (function_made es x ss)) (sym (function_made ds y ts))
    (functions es ds x y ss ts)))

-- ---- the class

body_made : (ds ms : List Tree) → parts (Class-body (decorated ds ms)) ≡ ms
body_made ds ms = simp parts_node

class_heads : (cs ds ms ns : List Tree) → SameClassHead no_places no_classes no_classes f f (decorated cs ms) (decorated ds ns)
class_heads cs ds ms ns = record {
  span = at_places _ _ (simp (part_node, range_of_range)) (simp (part_node, range_of_range));
  ctxt = in_scopes _ _ (simp (part_node, context_of_context)) (simp (part_node, context_of_context));
  is_abstract = simp (part_node, flag_of_flag);
  type_params = are_same _ _ Absent (part_node _ _ _) (part_node _ _ _) same_absent;
  super_type_params = are_same _ _ Absent (part_node _ _ _) (part_node _ _ _) same_absent;
  implements = are_same _ _ (list []) (part_node _ _ _) (part_node _ _ _) same_none;
}

classes : (cs ds : List Tree) → SameClass no_places no_classes no_classes f f (decorated cs first_members) (decorated ds second_members)
classes cs ds = record {
  head = class_heads cs ds first_members second_members;
  superclass = s.SameSuperclass.same (are_same _ _ Absent (part_node _ _ _) (part_node _ _ _) same_absent);
  hash_named = subst₂ (λ x y. list_any is_hash_named x ≡ list_any is_hash_named y) (sym (body_made cs first_members))
      (sym (body_made ds second_members))
      neither_hashed;
  members = subst₂ (SameMembers no_places no_classes no_classes f f [] []) (sym (body_made cs first_members))
      (sym (body_made ds second_members)) members;
}

class_made : (ds ms : List Tree) → ClassDecl-class (class_of ds ms) ≡ decorated ds ms
class_made ds ms = part_node _ _ _

class_decls : (cs ds ms ns : List Tree) → SameClassDecl no_places all_public all_public (class_of cs ms) (class_of ds ns)
class_decls cs ds ms ns = record {
  kinds = record { left = kind_of_node _ _; right = kind_of_node _ _ };
  ident = are_same _ _ (new_ident (67 ∷ [])) (part_node _ _ _) (part_node _ _ _) (same_ident (67 ∷ []));
  declare = simp (part_node, flag_of_flag);
}

class_items : (cs ds : List Tree) → SameItem no_places all_public all_public (class_of cs first_members) (class_of ds second_members)
class_items cs ds = h.SameItem.decl (h.SameDecl.class (class_decls cs ds first_members second_members) refl (simp (part_node, flag_of_flag))
    (subst₂ (SameClass no_places no_classes no_classes f f) (sym (class_made cs first_members)) (sym (class_made ds second_members))
    (classes cs ds)))

-- ---- the values that may not stay

right_made : (value : Tree) → AssignExpr-right (assignment_z value) ≡ value
right_made value = part_node _ _ _

no_expando : (value : Tree) → is_expando_assignment (assignment_z value) ≡ false
no_expando value = simp (kind_of_node, part_node, text_of_text)

assignments : SameAssignment no_places all_public all_public (assignment_z call) (assignment_z sequence)
assignments = record {
  kinds = record { left = kind_of_node _ _; right = kind_of_node _ _ };
  is_public = refl;
  form = forms.SameForm.other (no_expando call) (no_expando sequence);
  right = subst₂ (SameExpr no_places no_classes no_classes) (sym (right_made call)) (sym (right_made sequence))
      hidden.refused;
  right_range = at_places _ _ (simp (part_node, kind_of_node, range_of_range)) (simp (part_node, kind_of_node, range_of_range));
}

assignment_made : (value : Tree) → ExprStmt-expr (assigned_z value) ≡ assignment_z value
assignment_made value = part_node _ _ _

refused_items : SameItem no_places all_public all_public (assigned_z call) (assigned_z sequence)
refused_items = h.SameItem.assigned (record {
  kinds = record { left = kind_of_node _ _; right = kind_of_node _ _ };
  range = at_places _ _ (simp (kind_of_node, part_node, range_of_range)) (simp (kind_of_node, part_node, range_of_range));
  assignments = subst₂ (SameAssignment no_places all_public all_public) (sym (assignment_made call))
      (sym (assignment_made sequence)) assignments;
})

-- ---- the modules

agree : AgreeHidden no_places all_public all_public first second
agree = record {
  bindings = record { unresolved = inl (refl, refl) };
  is_ambient = refl;
  items = subst₂ (SameItems no_places all_public all_public) (sym (items_made _)) (sym (items_made _))
      (h.SameItems.next (function_items (name_a ∷ []) [] (49 ∷ []) (50 ∷ []) [] (empty_statement ∷ []))
      (h.SameItems.next (both_assigned _ _)
      (h.SameItems.next (class_items (decorator ∷ []) []) (h.SameItems.next refused_items h.SameItems.end))));
  shebang = are_same _ _ Absent (part_node _ _ _) (part_node _ _ _) same_absent;
}

pub hidden_changes_example : HiddenChangesExample
hidden_changes_example = record { one_to_one = is_renaming; agree = agree }
