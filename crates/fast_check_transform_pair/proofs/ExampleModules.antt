-- The modules of the examples agree by facts with one public test, and do not where what was hidden is public.
use Rattle.std.specs.Prelude.{◌≡◌, ℕ, ◌+◌, Bool, true, false, Option, Some, List, [], ◌∷◌, ◌++◌, map, length, refl, if◌then◌else◌}
use Rattle.std.specs.List.{flat_map}
use Rattle.std.proofs.Common.{arith, ap, ◌∙◌, sym, subst₂}
use Rattle.std.proofs.lemmas.List.{length-map}
use Rattle.fast_check_tree_syntax.specs.declared.kind.Kind.TheVariants as kinds
use Rattle.fast_check_tree_syntax.specs.declared.source.SourceRange.{SourceRange}
use Rattle.fast_check_tree_syntax.specs.declared.source.SyntaxContext.{SyntaxContext}
use Rattle.fast_check_tree_syntax.specs.declared.tree.Tree as tree
use Rattle.fast_check_tree_syntax.specs.declared.tree.Tree.{Tree, Absent, roll-Tree, out-roll-Tree}
use Rattle.fast_check_tree_syntax.specs.declared.tree.Tree.TheOpen.{Tree-F}
use Rattle.fast_check_tree_syntax.specs.Shape.{none_range, kind_of, kind_at, parts, parts_at, is_absent}
use Rattle.fast_check_tree_syntax.specs.Moves.{Renaming, IsRenaming, IsPair, partners, twice}
use Rattle.fast_check_tree_syntax.proofs.Made.{kind_of_node, parts_node, part_node, is_absent_node, range_of_range}
use Rattle.fast_check_tree_syntax.proofs.Moved.{node_moved, range_moved, none_moved}
use Rattle.fast_check_tree_forms_expressions.specs.Operators.{AssignExpr-span, AssignExpr-left}
use Rattle.fast_check_tree_forms_programs.specs.ModuleDecls.{ExportDecl-decl}
use Rattle.fast_check_tree_helpers.specs.ranges.Ranges.{range_of_node}
use Rattle.fast_check_tree_forms_statements.specs.Declarations.{VarDecl-decls, VarDeclarator-span}
use Rattle.fast_check_tree_forms_statements.specs.Statements.{ExprStmt-expr}
use Rattle.fast_check_meaning_skeleton.specs.signatures.Answers.{answer_to}
use Rattle.fast_check_meaning_skeleton.specs.signatures.Bindings.{Bindings}
use Rattle.fast_check_meaning_skeleton.specs.signatures.Expressions.{is_plain, expr_seen}
use Rattle.fast_check_meaning_skeleton.specs.signatures.Seen.{Seen, written, refused, tested}
use Rattle.fast_check_meaning_skeleton.proofs.signature_proofs.Looks.{expr_seen_is}
use Rattle.fast_check_meaning_signatures.proofs.MovedParts.{moved_seen}
use Rattle.fast_check_meaning_expandos.specs.Assignments.{right_seen, missing_place, mentioned_by, mentioned_in}
use Rattle.fast_check_meaning_expandos.specs.Expandos.{object_of}
use Rattle.fast_check_meaning_expandos.specs.Objects.{Objects}
use Rattle.fast_check_meaning_expandos.specs.References.{own_reference, references, mentioned}
use Rattle.fast_check_meaning_expandos.proofs.ReferencesOut.{references_out}
use Rattle.fast_check_meaning_skeleton.specs.SameValues.{SameBindings}
use Rattle.fast_check_meaning_skeleton.specs.SameValues as v
use Rattle.fast_check_meaning_skeleton.specs.declared.rules.DeclRule.TheVariants.{Variables, Function, Class}
use Rattle.fast_check_meaning_skeleton.specs.declared.rules.ItemRule.TheVariants.{Declared, Exported, Assigned}
use Rattle.fast_check_meaning_skeleton.specs.Rules.{item_rule}
use Rattle.fast_check_meaning_skeleton.specs.ModuleFacts.{ModuleFacts}
use Rattle.fast_check_meaning_skeleton.specs.Visible.{item_seen, seen_by_rule, class_decl_seen, function_decl_seen, declarator_in}
use Rattle.fast_check_meaning_skeleton.specs.Visible.{public_declarator, public_declarators}
use Rattle.fast_check_meaning_skeleton.specs.Visible.{statement_seen, exported_seen}
use Rattle.fast_check_meaning_skeleton.specs.Hidden.{AgreeHidden, SameItems}
use Rattle.fast_check_meaning_skeleton.specs.Hidden as h
use Rattle.fast_check_meaning_skeleton.specs.SameAssignments.{SameObject, SameExported}
use Rattle.fast_check_meaning_skeleton.specs.Example.{at}
use Rattle.fast_check_meaning_skeleton.specs.ClassExample.{module_of, empty_statement, no_places}
use Rattle.fast_check_meaning_skeleton.specs.ExpandoExample.{as_number, target, assignment, assigned, x_value, y_value}
use Rattle.fast_check_meaning_skeleton.specs.HiddenChangesExample.{name_a, decorator}
use Rattle.fast_check_meaning_skeleton.specs.HiddenChangesExample as changes
use Rattle.fast_check_meaning_skeleton.specs.PrivateClassExample.{class_h, declarator_x, statement_x, export_x, one}
use Rattle.fast_check_meaning_skeleton.specs.PrivateClassExample as class
use Rattle.fast_check_meaning_skeleton.specs.SilentAssignmentExample.{silent}
use Rattle.fast_check_meaning_skeleton.proofs.Agreeing.{item_alike, silent_item}
use Rattle.fast_check_meaning_skeleton.proofs.Namespaces.{item_seen_is}
use Rattle.fast_check_meaning_skeleton.proofs.ClassExample.{Same, new_same, same_absent, are_same, items_made}
use Rattle.fast_check_meaning_skeleton.proofs.ExpandoExample.{right_made, assignment_made, span_made}
use Rattle.fast_check_meaning_skeleton.proofs.PrivateClassExample.{begins_alone as class_alone}
use Rattle.fast_check_meaning_skeleton.proofs.SilentAssignmentExample.{begins_alone as silent_alone}
use Rattle.fast_check_transform_pair.specs.Examples.{null, first_assigned, second_assigned}
use Rattle.fast_check_transform_pair.proofs.ExampleItems.{facts, class_place, declared, function_place}
use Rattle.fast_check_transform_pair.proofs.ExampleItems.{all_parameters, operands, exports, function_items}
use Rattle.fast_check_transform_pair.proofs.ExampleItems.{assigned_items, class_items, refused_items}

-- ---- `null` mentions no name

module _ (scope : SyntaxContext) where
  leaf_mentions : (t : Tree) → kind_of t ≡ kinds.Leaf → parts t ≡ [] → references scope (λ name. true) t ≡ []
  leaf_mentions t e f = references_out scope (λ name. true) t ∙ rw (e, f) refl

  range_mentions : (r : SourceRange) → references scope (λ name. true) (tree.Range r) ≡ []
  unfolding roll-Tree denote.Hole.Carrier.roll
  range_mentions r = leaf_mentions (tree.Range r) (ap kind_at (out-roll-Tree (Tree-F.Range r)))
      (ap parts_at (out-roll-Tree (Tree-F.Range r)))

  null_own : own_reference scope (λ name. true) null ≡ []
  null_own = simp kind_of_node

  null_inside : flat_map (references scope (λ name. true)) (parts null) ≡ []
  null_inside = ap (flat_map (references scope (λ name. true))) (parts_node _ _) ∙ (λ i. range_mentions none_range i ++ [])

  null_mentions : mentioned scope null ≡ []
  null_mentions = ap (map (λ r. r.name)) (references_out scope (λ name. true) null ∙ (λ i. null_own i ++ null_inside i))

module _ (c : Bindings) where
  null_seen : (place : Option SourceRange) → expr_seen c null place ≡ written null
  null_seen place = simp (expr_seen_is, kind_of_node)

  right_is : right_seen c (assignment null) ≡ written null
  right_is =
      ap (λ t. if is_absent t then refused else expr_seen c t (Some (range_of_node t))) (right_made null)
      ∙ (ap (λ b. if b then refused else expr_seen c null (Some (range_of_node null))) (is_absent_node _ _) ∙ null_seen _)

  names_are : mentioned_by c (assignment null) ≡ []
  names_are =
      let scope = (object_of (AssignExpr-left (assignment null))).1 in
      (λ i. mentioned_in scope (answer_to (right_is i)).stays) ∙ null_mentions scope

null_place : range_of_node null ≡ none_range
null_place = simp (part_node, kind_of_node, range_of_range)

same_null : Same null null
same_null = new_same null (λ m ok. simp (node_moved, range_moved, none_moved m ok))

value_place : (operand : Tree) → range_of_node (as_number operand) ≡ none_range
value_place operand = simp (part_node, kind_of_node, range_of_range)

silent_place : range_of_node silent ≡ at 7 15
silent_place = simp (kind_of_node, part_node, range_of_range)

silent_span : AssignExpr-span (ExprStmt-expr silent) ≡ at 7 14
silent_span = simp (part_node, range_of_range)

-- ---- modules that agree

module _ (public : SourceRange → Bool) (c d : Bindings) (x y : List ℕ → Option (List ℕ)) (o o' : Objects)
    (unresolved : IsPair no_places.scopes c.unresolved.0 d.unresolved.0) where
  abbrev a : ModuleFacts
  a = facts public c x o

  abbrev b : ModuleFacts
  b = facts public d y o'

  modules : (ts us : List Tree) → SameItems no_places a b ts us → AgreeHidden no_places a b (module_of ts) (module_of us)
  modules ts us same = record {
    bindings = record { unresolved = unresolved };
    is_ambient = refl;
    items = subst₂ (SameItems no_places a b) (sym (items_made ts)) (sym (items_made us)) same;
    shebang = are_same _ _ Absent (part_node _ _ _) (part_node _ _ _) same_absent;
  }

  -- a class that is not public comes and goes
  pub classes_agree : public (at 7 17) ≡ false → AgreeHidden no_places a b class.first class.second
  classes_agree hidden = modules _ _
      (h.SameItems.left (h.IsSilent.decl (h.IsSilentDecl.class (kind_of_node _ _) (ap public class_place ∙ hidden))) class_alone
      (h.SameItems.next (exports public c d x y o o') h.SameItems.end))

  -- an assignment that is not public comes and goes
  pub assignments_agree : public (at 7 14) ≡ false → SameObject no_places a b target target →
      AgreeHidden no_places a b first_assigned second_assigned
  assignments_agree hidden object = modules _ _
      (h.SameItems.next (function_items public c d x y o o' [] [] [] (empty_statement ∷ []) v.SameParams.no_params)
      (h.SameItems.next (assigned_items public c d x y o o' null null null_place null_place
      (v.SameExpr.plain (ap is_plain (kind_of_node _ _)) same_null) object exported)
      (h.SameItems.left (h.IsSilent.assigned (kind_of_node _ _) (simp (part_node, kind_of_node)) (ap public silent_span ∙ hidden))
      silent_alone h.SameItems.end)))
    where
      exported : SameExported no_places a b (mentioned_by c (assignment null)) target target
      exported = ap (map (o.exports (object_of target))) (names_are c) ∙ sym (ap (map (o'.exports (object_of target))) (names_are c))

  -- all changes at once
  pub changes_agree : SameObject no_places a b target target →
      SameExported no_places a b (mentioned_by c (assignment x_value)) target target →
      AgreeHidden no_places a b changes.first changes.second
  changes_agree object exported = modules _ _
      (h.SameItems.next (function_items public c d x y o o' _ _ [] (empty_statement ∷ [])
      (all_parameters c d (name_a ∷ []) [] (49 ∷ []) (50 ∷ [])))
      (h.SameItems.next (assigned_items public c d x y o o' x_value y_value (value_place _) (value_place _) (operands c d _ _)
      object exported)
      (h.SameItems.next (class_items public c d x y o o' (decorator ∷ []) [])
      (h.SameItems.next (refused_items public c d x y o o') h.SameItems.end))))

-- ---- modules that do not: what is seen of them has other counts

abbrev count : ModuleFacts → List Tree → ℕ
count facts [] = 0
count facts (t ∷ ts) = length (item_seen facts t) + count facts ts

counts : (r : Renaming) → IsRenaming r → {a b : ModuleFacts} {ts us : List Tree} → SameBindings r a.bindings b.bindings →
    a.is_ambient ≡ b.is_ambient → SameItems r a b ts us → count a ts ≡ count b us
counts r ok s m h.SameItems.end = refl
counts r ok s m (h.SameItems.left {a = a} {b = b} {t = t} {ts = ts} {us = us} q n rest) =
    let none : length (item_seen a t) ≡ 0 = ap length (silent_item a t q) in
    let same : count a ts ≡ count b us = counts r ok s m rest in
    omega (arith, none, same)
counts r ok s m (h.SameItems.right {a = a} {b = b} {u = u} {ts = ts} {us = us} q n rest) =
    let none : length (item_seen b u) ≡ 0 = ap length (silent_item b u q) in
    let same : count a ts ≡ count b us = counts r ok s m rest in
    omega (arith, none, same)
counts r ok s m (h.SameItems.next {a = a} {b = b} {t = t} {u = u} {ts = ts} {us = us} x rest) =
    let one : length (item_seen a t) ≡ length (item_seen b u) =
    sym (length-map (item_seen a t) (moved_seen (partners r))) ∙ (ap length (item_alike r ok s m x)
    ∙ length-map (item_seen b u) (moved_seen twice)) in
    let same : count a ts ≡ count b us = counts r ok s m rest in
    omega (arith, one, same)

module _ (public : SourceRange → Bool) (c : Bindings) (x : List ℕ → Option (List ℕ)) (o : Objects) where
  abbrev here : ModuleFacts
  here = facts public c x o

  -- what is public is seen once

  class_once : public (at 7 17) ≡ true → length (item_seen here class_h) ≡ 1
  class_once shown =
      ap length (item_seen_is here class_h ∙ ap (seen_by_rule here class_h) rule)
      ∙ ap (λ p. length (if p then class_decl_seen here class_h ∷ [] else [])) (ap public class_place ∙ shown)
    where
      rule : item_rule class_h ≡ Declared Class
      rule = simp kind_of_node

  function_once : (ss : List Tree) → public none_range ≡ true → length (item_seen here (declared [] ss)) ≡ 1
  function_once ss shown =
      ap length (item_seen_is here (declared [] ss) ∙ ap (seen_by_rule here (declared [] ss)) rule)
      ∙ ap (λ p. length (if p then function_decl_seen here (range_of_node (declared [] ss)) (declared [] ss) ∷ [] else []))
      (ap public (function_place [] ss) ∙ shown)
    where
      rule : item_rule (declared [] ss) ≡ Declared Function
      rule = simp kind_of_node

  assigned_once : (t : Tree) → item_rule t ≡ Assigned → public (AssignExpr-span (ExprStmt-expr t)) ≡ true → length (item_seen here t) ≡ 1
  assigned_once t rule shown =
      ap length (item_seen_is here t ∙ ap (seen_by_rule here t) rule)
      ∙ ap (λ p. length (if p then tested (missing_place o (ExprStmt-expr t)) (right_seen c (ExprStmt-expr t)) ∷ [] else [])) shown

  null_once : public none_range ≡ true → length (item_seen here (assigned null)) ≡ 1
  null_once shown = assigned_once (assigned null) (simp (kind_of_node, part_node))
      (ap (λ t. public (AssignExpr-span t)) (assignment_made null) ∙ (ap public (span_made null) ∙ shown))

  silent_once : public (at 7 14) ≡ true → length (item_seen here silent) ≡ 1
  silent_once shown = assigned_once silent (simp (kind_of_node, part_node)) (ap public silent_span ∙ shown)

  -- how many are seen of the export
  abbrev seen : List Seen → ℕ
  seen ss = length (exported_seen (export_x one) ss)

  export_once : public none_range ≡ true → length (item_seen here (export_x one)) ≡ 1
  export_once shown =
      ap length (item_seen_is here (export_x one) ∙ ap (seen_by_rule here (export_x one)) rule)
      ∙ (ap (λ s. seen (statement_seen s (public_declarators here s))) made
      ∙ (ap (λ ds. seen (statement_seen (statement_x one) (flat_map (public_declarator here (statement_x one)) ds))) decls_made
      ∙ ap (λ p. seen (statement_seen (statement_x one)
      ((if p then declarator_in here (statement_x one) (declarator_x one) ∷ [] else []) ++ [])))
      (ap public span ∙ shown)))
    where
      rule : item_rule (export_x one) ≡ Exported Variables
      rule = simp (kind_of_node, part_node)

      made : ExportDecl-decl (export_x one) ≡ statement_x one
      made = part_node _ _ _

      decls_made : parts (VarDecl-decls (statement_x one)) ≡ declarator_x one ∷ []
      decls_made = simp parts_node

      span : VarDeclarator-span (declarator_x one) ≡ none_range
      span = simp (part_node, range_of_range)

module _ (r : Renaming) (ok : IsRenaming r) (public public' : SourceRange → Bool) (c d : Bindings) (x y : List ℕ → Option (List ℕ))
    (o o' : Objects) (shown : public none_range ≡ true) (shown' : public' none_range ≡ true) where
  abbrev left : ModuleFacts
  left = facts public c x o

  abbrev right : ModuleFacts
  right = facts public' d y o'

  as_many : (ts us : List Tree) → AgreeHidden r left right (module_of ts) (module_of us) → count left ts ≡ count right us
  as_many ts us g =
      subst₂ (λ v w. count left v ≡ count right w) (items_made ts) (items_made us) (counts r ok g.bindings g.is_ambient g.items)

  -- a public class does not come and go
  pub public_class_differs : public (at 7 17) ≡ true → AgreeHidden r left right class.first class.second → ⊥
  public_class_differs e g =
      let same : count left (class_h ∷ export_x one ∷ []) ≡ count right (export_x one ∷ []) = as_many _ _ g in
      let p : length (item_seen left class_h) ≡ 1 = class_once public c x o e in
      let q : length (item_seen left (export_x one)) ≡ 1 = export_once public c x o shown in
      let w : length (item_seen right (export_x one)) ≡ 1 = export_once public' d y o' shown' in
      omega (arith, same, p, q, w)

  -- nor does a public assignment
  pub public_assignment_differs : public (at 7 14) ≡ true → AgreeHidden r left right first_assigned second_assigned → ⊥
  public_assignment_differs e g =
      let f : Tree = declared [] (empty_statement ∷ []) in
      let same : count left (declared [] [] ∷ assigned null ∷ silent ∷ []) ≡ count right (f ∷ assigned null ∷ []) = as_many _ _ g in
      let p : length (item_seen left (declared [] [])) ≡ 1 = function_once public c x o [] shown in
      let q : length (item_seen left (assigned null)) ≡ 1 = null_once public c x o shown in
      let s : length (item_seen left silent) ≡ 1 = silent_once public c x o e in
      let w : length (item_seen right f) ≡ 1 = function_once public' d y o' (empty_statement ∷ []) shown' in
      let z : length (item_seen right (assigned null)) ≡ 1 = null_once public' d y o' shown' in
      omega (arith, same, p, q, s, w, z)
