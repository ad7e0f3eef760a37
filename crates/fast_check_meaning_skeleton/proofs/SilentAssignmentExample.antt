-- The two modules of the example with an assignment that is not public agree but for what is hidden.
use Rattle.std.specs.Prelude.{◌≡◌, ℕ, Bool, true, false, Option, Some, List, [], ◌∷◌, ◌++◌, map, refl, if◌then◌else◌}
use Rattle.std.specs.List.{flat_map}
use Rattle.std.specs.Str.{bytes_eq}
use Rattle.std.proofs.Common.{arith, inl, ap, ◌∙◌, sym, subst, subst₂}
use Rattle.fast_check_tree_syntax.specs.declared.kind.Kind.TheVariants as kinds
use Rattle.fast_check_tree_syntax.specs.declared.source.SourceRange.{SourceRange}
use Rattle.fast_check_tree_syntax.specs.declared.tree.Tree as tree
use Rattle.fast_check_tree_syntax.specs.declared.source.SyntaxContext.{SyntaxContext}
use Rattle.fast_check_tree_syntax.specs.declared.tree.Tree.{Tree, Absent, roll-Tree, out-roll-Tree}
use Rattle.fast_check_tree_syntax.specs.declared.tree.Tree.TheOpen.{Tree-F}
use Rattle.fast_check_tree_syntax.specs.Shape.{none_range, kind_of, kind_at, parts, parts_at, is_absent}
use Rattle.fast_check_tree_syntax.specs.Moves.{IsPair}
use Rattle.fast_check_tree_syntax.proofs.Made.{kind_of_node, parts_node, part_node, is_absent_node, flag_of_flag, range_of_range}
use Rattle.fast_check_tree_forms_expressions.specs.Operators.{AssignExpr-span, AssignExpr-left}
use Rattle.fast_check_tree_helpers.specs.ranges.Ranges.{range_of_node}
use Rattle.fast_check_tree_forms_statements.specs.Statements.{ExprStmt-expr}
use Rattle.fast_check_tree_helpers.specs.Builders.{new_ident}
use Rattle.fast_check_meaning_signatures.specs.Answers.{answer_to}
use Rattle.fast_check_meaning_signatures.specs.Expressions.{is_plain, expr_seen}
use Rattle.fast_check_meaning_signatures.specs.NewNodes.{no_scope}
use Rattle.fast_check_meaning_signatures.specs.Seen.{written, refused}
use Rattle.fast_check_meaning_signatures.proofs.Looks.{expr_seen_is}
use Rattle.fast_check_meaning_skeleton.specs.SameClasses.{HasNoPartner}
use Rattle.fast_check_meaning_skeleton.specs.SameValues.{SameExpr, SameFunction}
use Rattle.fast_check_meaning_skeleton.specs.SameValues as v
use Rattle.fast_check_meaning_expandos.specs.Assignments.{right_seen, mentioned_by, mentioned_in}
use Rattle.fast_check_meaning_expandos.specs.Expandos.{object_of, property_name}
use Rattle.fast_check_meaning_expandos.specs.Objects.{no_objects}
use Rattle.fast_check_meaning_expandos.specs.References.{own_reference, references, mentioned}
use Rattle.fast_check_meaning_expandos.proofs.ReferencesOut.{references_out}
use Rattle.fast_check_meaning_skeleton.specs.ModuleFacts.{ModuleFacts}
use Rattle.fast_check_meaning_skeleton.specs.Hidden.{IsSilent, AgreeHidden, SameFunctionDecl, SameItem, SameItems}
use Rattle.fast_check_meaning_skeleton.specs.Hidden as h
use Rattle.fast_check_meaning_skeleton.specs.SameAssignments.{SameExpando, SameAssignment}
use Rattle.fast_check_meaning_skeleton.specs.SameAssignments as forms
use Rattle.fast_check_meaning_skeleton.specs.ClassExample.{function_f, empty_statement, no_places, no_classes}
use Rattle.fast_check_meaning_skeleton.specs.ExpandoExample.{target, assignment, assigned}
use Rattle.fast_check_meaning_skeleton.specs.SilentAssignmentExample.{name_b, name_c, silent, first, second, exporting_b, facts}
use Rattle.fast_check_meaning_skeleton.specs.SilentAssignmentExample.{SilentAssignmentExample}
use Rattle.fast_check_meaning_skeleton.proofs.ClassExample.{is_renaming, same_absent, same_ident, at_places, are_same, functions, items_made}
use Rattle.fast_check_meaning_skeleton.proofs.ExpandoExample.{same_target, left_made, right_made, assignment_made, is_one}
use Rattle.fast_check_meaning_skeleton.proofs.Example.{context_of_context}
use Rattle.fast_check_meaning_skeleton.proofs.ModuleExample.{text_of_text}
use Rattle.fast_check_meaning_skeleton.proofs.ClassExample.{function_made}

abbrev a : ModuleFacts
a = facts exporting_b

abbrev b : ModuleFacts
b = facts no_objects

-- ---- the names that a name mentions: itself

leaf_mentions : (t : Tree) → kind_of t ≡ kinds.Leaf → parts t ≡ [] → references no_scope (λ name. true) t ≡ []
leaf_mentions t e f = references_out no_scope (λ name. true) t ∙ rw (e, f) refl

range_mentions : (r : SourceRange) → references no_scope (λ name. true) (tree.Range r) ≡ []
unfolding roll-Tree denote.Hole.Carrier.roll
range_mentions r = leaf_mentions (tree.Range r) (ap kind_at (out-roll-Tree (Tree-F.Range r))) (ap parts_at (out-roll-Tree (Tree-F.Range r)))

scope_mentions : (c : SyntaxContext) → references no_scope (λ name. true) (tree.Context c) ≡ []
unfolding roll-Tree denote.Hole.Carrier.roll
scope_mentions c = leaf_mentions (tree.Context c) (ap kind_at (out-roll-Tree (Tree-F.Context c)))
    (ap parts_at (out-roll-Tree (Tree-F.Context c)))

text_mentions : (text : List ℕ) → references no_scope (λ name. true) (tree.Text text) ≡ []
unfolding roll-Tree denote.Hole.Carrier.roll
text_mentions text = leaf_mentions (tree.Text text) (ap kind_at (out-roll-Tree (Tree-F.Text text)))
    (ap parts_at (out-roll-Tree (Tree-F.Text text)))

flag_mentions : (f : Bool) → references no_scope (λ name. true) (tree.Flag f) ≡ []
unfolding roll-Tree denote.Hole.Carrier.roll
flag_mentions f = leaf_mentions (tree.Flag f) (ap kind_at (out-roll-Tree (Tree-F.Flag f))) (ap parts_at (out-roll-Tree (Tree-F.Flag f)))

own_is : (n : List ℕ) → own_reference no_scope (λ name. true) (new_ident n) ≡ record { name = n; range = none_range } ∷ []
own_is n = simp (kind_of_node, part_node, context_of_context, text_of_text, range_of_range)

inside_is : (n : List ℕ) → flat_map (references no_scope (λ name. true)) (parts (new_ident n)) ≡ []
inside_is n = ap (flat_map (references no_scope (λ name. true))) (parts_node _ _)
    ∙ (λ i. range_mentions none_range i ++ (scope_mentions no_scope i ++ (text_mentions n i ++ (flag_mentions false i ++ []))))

mentions_itself : (n : List ℕ) → mentioned no_scope (new_ident n) ≡ n ∷ []
mentions_itself n =
    ap (map (λ r. r.name)) (references_out no_scope (λ name. true) (new_ident n) ∙ (λ i. own_is n i ++ inside_is n i))

name_seen : (n : List ℕ) (place : Option SourceRange) → expr_seen no_classes (new_ident n) place ≡ written (new_ident n)
name_seen n place = simp (expr_seen_is, kind_of_node)

right_is : (n : List ℕ) → right_seen no_classes (assignment (new_ident n)) ≡ written (new_ident n)
right_is n =
    ap (λ t. if is_absent t then refused else expr_seen no_classes t (Some (range_of_node t))) (right_made (new_ident n))
    ∙ (ap (λ b. if b then refused else expr_seen no_classes (new_ident n) (Some (range_of_node (new_ident n)))) (is_absent_node _ _)
    ∙ name_seen n _)

scope_is : (t : Tree) → (object_of (AssignExpr-left (assignment t))).1 ≡ no_scope
scope_is t = ap (λ target. (object_of target).1) (left_made t) ∙ simp (part_node, context_of_context)

names_are : (n : List ℕ) → mentioned_by no_classes (assignment (new_ident n)) ≡ n ∷ []
names_are n = (λ i. mentioned_in (scope_is (new_ident n) i) (answer_to (right_is n i)).stays) ∙ mentions_itself n

-- ---- the assignments

pub property_is : property_name target ≡ 97 ∷ []
property_is = simp (part_node, text_of_text)

expandos : SameExpando no_places a b (assignment name_c) (assignment name_c)
expandos = record {
  forms = (is_one name_c, is_one name_c);
  span = at_places _ _ (simp (part_node, range_of_range)) (simp (part_node, range_of_range));
  target = are_same _ _ target (left_made name_c) (left_made name_c) same_target;
  object = record {
    is_declared = ap (λ target. bytes_eq (property_name target) (98 ∷ [])) (left_made name_c) ∙
        ap (λ name. bytes_eq name (98 ∷ [])) property_is;
    has_export_keyword = refl;
  };
  exported = ap (map (λ name. bytes_eq name (98 ∷ []))) (names_are (99 ∷ [])) ∙ sym (ap (map (λ name. false)) (names_are (99 ∷ [])));
}

assignments : SameAssignment no_places a b (assignment name_c) (assignment name_c)
assignments = record {
  kinds = record { left = kind_of_node _ _; right = kind_of_node _ _ };
  is_public = refl;
  form = forms.SameForm.expando expandos;
  right = subst₂ (SameExpr no_places no_classes no_classes) (sym (right_made name_c)) (sym (right_made name_c))
      (v.SameExpr.plain (ap is_plain (kind_of_node _ _)) (same_ident (99 ∷ [])));
  right_range = at_places _ _ (simp (part_node, kind_of_node, range_of_range)) (simp (part_node, kind_of_node, range_of_range));
}

both_assigned : SameItem no_places a b (assigned name_c) (assigned name_c)
both_assigned = h.SameItem.assigned (record {
  kinds = record { left = kind_of_node _ _; right = kind_of_node _ _ };
  range = at_places _ _ (simp (kind_of_node, part_node, range_of_range)) (simp (kind_of_node, part_node, range_of_range));
  assignments = subst₂ (SameAssignment no_places a b) (sym (assignment_made name_c)) (sym (assignment_made name_c)) assignments;
})

-- ---- the modules

function_decls : (p q : SourceRange) → p ≡ none_range → q ≡ none_range → (ss ts : List Tree) →
    SameFunctionDecl no_places a b p q (function_f ss) (function_f ts)
function_decls p q e f ss ts = record {
  kinds = record { left = kind_of_node _ _; right = kind_of_node _ _ };
  is_public = ap a.is_public e ∙ sym (ap b.is_public f);
  is_ambient = refl;
  ident = are_same _ _ (new_ident (102 ∷ [])) (part_node _ _ _) (part_node _ _ _) (same_ident (102 ∷ []));
  declare = simp (part_node, flag_of_flag);
}

function_items : (ss ts : List Tree) → SameItem no_places a b (function_f ss) (function_f ts)
function_items ss ts = h.SameItem.decl (h.SameDecl.function (function_decls _ _ (place ss) (place ts) ss ts) refl refl
    (subst₂ (SameFunction no_places no_classes no_classes) (sym (function_made ss)) (sym (function_made ts)) (functions ss ts)))
  where
    place : (ss : List Tree) → range_of_node (function_f ss) ≡ none_range
    place ss = simp (kind_of_node, part_node, range_of_range)

not_public : a.is_public (AssignExpr-span (ExprStmt-expr silent)) ≡ false
not_public = simp (part_node, range_of_range)

goes : IsSilent a silent
goes = h.IsSilent.assigned (kind_of_node _ _) (simp (part_node, kind_of_node)) not_public

begins_at : (range_of_node silent).start.0 ≡ 7
begins_at = simp (kind_of_node, part_node, range_of_range)

pub begins_alone : HasNoPartner no_places.starts (range_of_node silent).start.0
begins_alone n p = let q : IsPair no_places.starts 7 n = subst (λ s. IsPair no_places.starts s n) begins_at p in grind arith

agree : AgreeHidden no_places a b first second
agree = record {
  bindings = record { unresolved = inl (refl, refl) };
  is_ambient = refl;
  items = subst₂ (SameItems no_places a b) (sym (items_made _)) (sym (items_made _))
      (h.SameItems.next (function_items [] (empty_statement ∷ [])) (h.SameItems.next both_assigned
      (h.SameItems.left goes begins_alone h.SameItems.end)));
  shebang = are_same _ _ Absent (part_node _ _ _) (part_node _ _ _) same_absent;
}

other_value : SameExpando no_places a b (assignment name_b) (assignment name_b) → ⊥
other_value s =
    let e : true ∷ [] ≡ false ∷ [] =
    sym (ap (map (λ name. bytes_eq name (98 ∷ []))) (names_are (98 ∷ []))) ∙
    (s.exported ∙ ap (map (λ name. false)) (names_are (98 ∷ []))) in cc

pub silent_assignment_example : SilentAssignmentExample
silent_assignment_example = record { one_to_one = is_renaming; agree = agree; other_value = other_value }
