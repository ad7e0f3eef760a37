-- The two modules of the example with an expando property agree but for what is hidden.
use Rattle.std.specs.Prelude.{◌≡◌, Bool, true, false, ◌&&◌, Option, Some, None, List, [], ◌∷◌, ◌++◌, refl, if◌then◌else◌}
use Rattle.std.specs.List.{flat_map}
use Rattle.std.proofs.Common.{inl, ap, ◌∙◌, sym, subst₂, append-nil}
use Rattle.fast_check_tree_syntax.specs.declared.source.SourceRange.{SourceRange}
use Rattle.fast_check_tree_syntax.specs.declared.source.SyntaxContext.{SyntaxContext}
use Rattle.fast_check_tree_syntax.specs.declared.kind.Kind.TheVariants as kinds
use Rattle.fast_check_tree_syntax.specs.declared.kind.Word.TheVariants as words
use Rattle.fast_check_tree_syntax.specs.declared.tree.Tree.{Tree, Absent}
use Rattle.fast_check_tree_syntax.specs.Shape.{none_range, is_absent, list, parts, OfAll}
use Rattle.fast_check_tree_syntax.specs.Recursion.{by_form_absent}
use Rattle.fast_check_tree_syntax.proofs.Induction.{tree_ind}
use Rattle.fast_check_tree_syntax.proofs.Made.{kind_of_node, parts_node, part_node, is_absent_node, flag_of_flag, range_of_range}
use Rattle.fast_check_tree_syntax.proofs.Moved.{node_moved, range_moved, none_moved, context_moved, text_moved, flag_moved, word_moved}
use Rattle.fast_check_tree_forms_expressions.specs.Operators.{AssignExpr-span, AssignExpr-left, AssignExpr-right}
use Rattle.fast_check_tree_forms_programs.specs.Programs.{Module-span, Module-shebang, module'}
use Rattle.fast_check_tree_forms_statements.specs.Statements.{ExprStmt-expr}
use Rattle.fast_check_tree_helpers.specs.Builders.{new_ident, ts_keyword_type}
use Rattle.fast_check_tables_modules.specs.Expandos.{is_expando_assignment}
use Rattle.fast_check_tree_helpers.specs.ranges.Ranges.{range_of_node}
use Rattle.fast_check_meaning_skeleton.specs.SameValues.{SameExpr}
use Rattle.fast_check_meaning_skeleton.specs.SameValues as v
use Rattle.fast_check_meaning_signatures.specs.Answers.{answer_to, answer_of}
use Rattle.fast_check_meaning_signatures.specs.Expressions.{expr_seen}
use Rattle.fast_check_meaning_signatures.specs.NewNodes.{never_in_parens}
use Rattle.fast_check_meaning_signatures.specs.Seen.{Seen, written, range, round, tested, refused, seens}
use Rattle.fast_check_meaning_signatures.proofs.Adding.{answer_append}
use Rattle.fast_check_meaning_signatures.proofs.Looks.{expr_seen_is}
use Rattle.fast_check_meaning_expandos.specs.declared.properties.ExpandoProperty.{ExpandoProperty}
use Rattle.fast_check_meaning_expandos.specs.declared.references.Reference.{Reference}
use Rattle.fast_check_meaning_expandos.specs.Assignments.{right_seen, missing_place, assignment_seen, kept_property, declared_properties}
use Rattle.fast_check_meaning_expandos.specs.Expandos.{object_of, property_declarator, namespace_decl, namespaces_seen}
use Rattle.fast_check_meaning_expandos.specs.Objects.{no_objects}
use Rattle.fast_check_meaning_expandos.specs.References.{references, references_form, own_reference, once_a_name}
use Rattle.fast_check_meaning_expandos.proofs.ReferencesOut.{references_out}
use Rattle.fast_check_meaning_skeleton.specs.declared.rules.ItemRule.TheVariants.{Assigned}
use Rattle.fast_check_meaning_skeleton.specs.Hidden.{AgreeHidden, SameItem, SameItems}
use Rattle.fast_check_meaning_skeleton.specs.Hidden as h
use Rattle.fast_check_meaning_skeleton.specs.Rules.{item_rule}
use Rattle.fast_check_meaning_skeleton.specs.SameAssignments.{SameObject, SameExpando, SameAssignment}
use Rattle.fast_check_meaning_skeleton.specs.SameAssignments as forms
use Rattle.fast_check_meaning_skeleton.specs.Skeleton.{skeleton_of}
use Rattle.fast_check_meaning_skeleton.specs.Visible.{item_look, item_seen, seen_by_rule, properties_by_rule, item_properties, body_seen, visible}
use Rattle.fast_check_meaning_skeleton.specs.ClassExample.{function_f, empty_statement, module_of, no_places, no_classes, all_public}
use Rattle.fast_check_meaning_skeleton.specs.ExpandoExample.{as_number, target, assignment, assigned, first, second, namespace_f, answered}
use Rattle.fast_check_meaning_skeleton.specs.ExpandoExample.{all_exported, ExpandoExample}
use Rattle.fast_check_meaning_skeleton.proofs.ClassExample.{is_renaming, Same, new_same, same_absent, at_places, are_same, function_items}
use Rattle.fast_check_meaning_skeleton.proofs.ClassExample.{items_made, word_read}
use Rattle.fast_check_meaning_skeleton.proofs.Example.{context_of_context}
use Rattle.fast_check_meaning_skeleton.proofs.ModuleExample.{text_of_text}
use Rattle.fast_check_meaning_skeleton.proofs.Namespaces.{item_seen_is}

-- ---- the assignments

same_number : Same (ts_keyword_type words.TsNumberKeyword) (ts_keyword_type words.TsNumberKeyword)
same_number = new_same (ts_keyword_type words.TsNumberKeyword) (λ m ok. simp (node_moved, range_moved, none_moved m ok, word_moved))

pub same_target : Same target target
same_target =
    new_same target (λ m ok. simp (node_moved, range_moved, none_moved m ok, context_moved, text_moved, flag_moved, ok.scope_zero))

values : (x y : Tree) → SameExpr no_places no_classes no_classes (as_number x) (as_number y)
values x y = v.SameExpr.as_type (record { left = kind_of_node _ _; right = kind_of_node _ _ })
    (at_places _ _ (simp (part_node, range_of_range)) (simp (part_node, range_of_range)))
    (are_same _ _ (ts_keyword_type words.TsNumberKeyword) (part_node _ _ _) (part_node _ _ _) same_number)

pub right_made : (t : Tree) → AssignExpr-right (assignment t) ≡ t
right_made t = part_node _ _ _

pub left_made : (t : Tree) → AssignExpr-left (assignment t) ≡ target
left_made t = part_node _ _ _

pub assignment_made : (t : Tree) → ExprStmt-expr (assigned t) ≡ assignment t
assignment_made t = part_node _ _ _

pub is_one : (t : Tree) → is_expando_assignment (assignment t) ≡ true
is_one t = simp (kind_of_node, part_node, text_of_text)

expandos : (x y : Tree) → SameExpando no_places all_public all_public (assignment (as_number x)) (assignment (as_number y))
expandos x y = record {
  forms = (is_one (as_number x), is_one (as_number y));
  span = at_places _ _ (simp (part_node, range_of_range)) (simp (part_node, range_of_range));
  target = are_same _ _ target (left_made (as_number x)) (left_made (as_number y)) same_target;
  object = record { is_declared = refl; has_export_keyword = refl };
  exported = refl;
}

assignments : (x y : Tree) → SameAssignment no_places all_public all_public (assignment (as_number x)) (assignment (as_number y))
assignments x y = record {
  kinds = record { left = kind_of_node _ _; right = kind_of_node _ _ };
  is_public = refl;
  form = forms.SameForm.expando (expandos x y);
  right = subst₂ (SameExpr no_places no_classes no_classes) (sym (right_made (as_number x))) (sym (right_made (as_number y))) (values x y);
  right_range = at_places _ _ (simp (part_node, kind_of_node, range_of_range)) (simp (part_node, kind_of_node, range_of_range));
}

pub both_assigned : (x y : Tree) → SameItem no_places all_public all_public (assigned (as_number x)) (assigned (as_number y))
both_assigned x y = h.SameItem.assigned (record {
  kinds = record { left = kind_of_node _ _; right = kind_of_node _ _ };
  range = at_places _ _ (simp (kind_of_node, part_node, range_of_range)) (simp (kind_of_node, part_node, range_of_range));
  assignments = subst₂ (SameAssignment no_places all_public all_public) (sym (assignment_made (as_number x)))
      (sym (assignment_made (as_number y)))
      (assignments x y);
})

-- ---- the modules

agree : AgreeHidden no_places all_public all_public first second
agree = record {
  bindings = record { unresolved = inl (refl, refl) };
  is_ambient = refl;
  items = subst₂ (SameItems no_places all_public all_public) (sym (items_made _)) (sym (items_made _))
      (h.SameItems.next (function_items [] (empty_statement ∷ [])) (h.SameItems.next (both_assigned _ _) h.SameItems.end));
  shebang = are_same _ _ Absent (part_node _ _ _) (part_node _ _ _) same_absent;
}

-- ---- their skeletons: an object that exports no name conflicts with none

and_false : (a b : Bool) → (a && (b && false)) ≡ false
and_false true true = refl
and_false true false = refl
and_false false b = refl

module _ (scope : SyntaxContext) where
  abbrev named : Tree → List Reference
  named = references scope (λ name. false)

  none_own : (t : Tree) → own_reference scope (λ name. false) t ≡ []
  none_own t = simp and_false

  all_none : (ts : List Tree) → OfAll (λ t. named t ≡ []) ts → flat_map named ts ≡ []
  all_none [] h = refl
  all_none (t ∷ ts) h = λ i. h.0 i ++ all_none ts h.1 i

  none_at_absent : named Absent ≡ []
  unfolding references
  none_at_absent = by_form_absent [] (references_form scope (λ name. false))

  none_named : (t : Tree) → named t ≡ []
  none_named = tree_ind (λ t. named t ≡ []) none_at_absent (λ t n h.
      references_out scope (λ name. false) t ∙ (λ i. none_own t i ++ all_none (parts t) h i))

-- the value as it is seen, and as it stays
abbrev seen_value : Seen
seen_value =
    round kinds.TsAsExpr (seens (range none_range ∷ written never_in_parens ∷ written (ts_keyword_type words.TsNumberKeyword) ∷ []))

value_seen : (x : Tree) (place : Option SourceRange) → expr_seen no_classes (as_number x) place ≡ seen_value
value_seen x place = simp (expr_seen_is, kind_of_node, part_node, range_of_range)

right_is : (x : Tree) → right_seen no_classes (assignment (as_number x)) ≡ seen_value
right_is x =
    ap (λ t. if is_absent t then refused else expr_seen no_classes t (Some (range_of_node t))) (right_made (as_number x))
    ∙ (ap (λ b. if b then refused else expr_seen no_classes (as_number x) (Some (range_of_node (as_number x)))) (is_absent_node _ _)
    ∙ value_seen x _)

rule_is : (t : Tree) → item_rule (assigned t) ≡ Assigned
rule_is t = simp (kind_of_node, part_node)

-- nothing of the assignment stays in its place
assigned_answer : (x : Tree) → answer_of (item_seen all_public (assigned (as_number x))) ≡ record { stays = []; faults = [] }
assigned_answer x =
    ap answer_of (item_seen_is all_public (assigned (as_number x))
    ∙ (ap (seen_by_rule all_public (assigned (as_number x))) (rule_is (as_number x))
    ∙ ap (assignment_seen all_public.is_public no_classes no_objects) (assignment_made (as_number x))))
    ∙ (ap (λ s. answer_of (tested (missing_place no_objects (assignment (as_number x))) s ∷ [])) (right_is x)
    ∙ whatever (missing_place no_objects (assignment (as_number x))))
  where
    whatever : (place : Option SourceRange) → answer_of (tested place seen_value ∷ []) ≡ record { stays = []; faults = [] }
    whatever None = refl
    whatever (Some place) = refl

-- it declares a property
abbrev property : ExpandoProperty
property = record {
  object = object_of target;
  is_exported = false;
  declarator = property_declarator none_range target (as_number never_in_parens);
  conflicts = [];
}

pub span_made : (t : Tree) → AssignExpr-span (assignment t) ≡ none_range
span_made t = simp (part_node, range_of_range)

properties_are : (x : Tree) → item_properties all_public (assigned (as_number x)) ≡ property ∷ []
properties_are x =
    let a = assignment (as_number x) in
    ap (properties_by_rule all_public (assigned (as_number x))) (rule_is (as_number x))
    ∙ (ap (declared_properties all_public.is_public no_classes no_objects) (assignment_made (as_number x))
    ∙ ((λ i. if is_one (as_number x) i then
    kept_property no_objects (span_made (as_number x) i) (left_made (as_number x) i) (answer_to (right_is x i)).stays else [])
    ∙ ap (λ rs. record {
      object = object_of target;
      is_exported = false;
      declarator = property_declarator none_range target (as_number never_in_parens);
      conflicts = once_a_name rs;
    } ∷ []) (none_named (object_of target).1 (as_number never_in_parens))))

-- the function stays, and declares none
abbrev FunctionStays : List Tree → Type 0
FunctionStays ss = (answer_of (item_seen all_public (function_f ss))).stays ≡ function_f [] ∷ []

first_stays : FunctionStays []
first_stays = simp (item_seen_is, parts_node, kind_of_node, range_of_range, flag_of_flag, context_of_context, is_absent_node, word_read)

second_stays : FunctionStays (empty_statement ∷ [])
second_stays = simp (item_seen_is, parts_node, kind_of_node, range_of_range, flag_of_flag, context_of_context, is_absent_node, word_read)

no_properties : (ss : List Tree) → item_properties all_public (function_f ss) ≡ []
no_properties ss = simp kind_of_node

pub object_name : (object_of target).0 ≡ 102 ∷ []
object_name = simp (part_node, text_of_text)

abbrev pair : List Tree → Tree → List Tree
pair ss x = function_f ss ∷ assigned (as_number x) ∷ []

stay : (ss : List Tree) (x : Tree) → FunctionStays ss → (answer_of (visible all_public (module_of (pair ss x)))).stays ≡ function_f [] ∷
    namespace_f ∷ []
stay ss x stays =
    let f = item_seen all_public (function_f ss) in
    let a = item_seen all_public (assigned (as_number x)) in
    ap (λ items. (answer_of (body_seen item_look all_public items)).stays) (items_made (pair ss x))
    ∙ (ap (λ answer. answer.stays) (answer_append (f ++ (a ++ [])) (namespaces_seen (flat_map (item_properties all_public) (pair ss x))))
    ∙ (λ i. both i ++ (answer_of (namespaces_seen (no_properties ss i ++ (properties_are x i ++ [])))).stays)
    ∙ ap (λ name. function_f [] ∷ namespace_decl name (property_declarator none_range target (as_number never_in_parens) ∷ []) ∷
    []) object_name)
  where
    both :
        (answer_of (item_seen all_public (function_f ss) ++ (item_seen all_public (assigned (as_number x)) ++ []))).stays ≡ function_f [] ∷
        []
    both =
        ap (λ answer. answer.stays)
        (answer_append (item_seen all_public (function_f ss)) (item_seen all_public (assigned (as_number x)) ++ []))
        ∙ ((λ i. stays i ++ (answer_of (append-nil (item_seen all_public (assigned (as_number x))) i)).stays)
        ∙ ap (λ answer. function_f [] ∷ answer.stays) (assigned_answer x))

skeleton_is : (ss : List Tree) (x : Tree) → FunctionStays ss → skeleton_of all_public (module_of (pair ss x)) ≡ answered
skeleton_is ss x stays = λ i. module' (span i) (list (stay ss x stays i)) (shebang i)
  where
    span : Module-span (module_of (pair ss x)) ≡ none_range
    span = simp (part_node, range_of_range)

    shebang : Module-shebang (module_of (pair ss x)) ≡ Absent
    shebang = part_node _ _ _

other_object : SameObject no_places all_public all_exported target target → ⊥
other_object s = let e = s.has_export_keyword in cc

pub expando_example : ExpandoExample
expando_example = record {
  one_to_one = is_renaming;
  agree = agree;
  first_skeleton = skeleton_is [] (new_ident (120 ∷ [])) first_stays;
  second_skeleton = skeleton_is (empty_statement ∷ []) (new_ident (121 ∷ [])) second_stays;
  other_object = other_object;
}
