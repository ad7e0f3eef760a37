-- What is answered to declarations and items, by what is done with them.
use Rattle.std.specs.Prelude.{◌≡◌, ℕ, ◌+◌, ◌<◌, ◌≤◌, true, false, Option, Some, List, [], ◌∷◌, ◌++◌, length, take}
use lib.ListN.{get_or}
use Rattle.std.proofs.Common.{ap, ◌∙◌, sym, subst, append-nil}
use Rattle.fast_check_tree_syntax.specs.declared.source.SourceRange.{SourceRange}
use Rattle.fast_check_tree_syntax.specs.declared.tree.Tree.{Tree, Absent}
use Rattle.fast_check_tree_forms_programs.specs.ModuleDecls.{ExportDecl-span, ExportDecl-decl, export_decl}
use Rattle.fast_check_tree_helpers.specs.ranges.Ranges.{range_of_node}
use Rattle.fast_check_meaning_signatures.specs.declared.fault.Fault.{Fault}
use Rattle.fast_check_meaning_signatures.specs.declared.fault.FaultKind.{FaultKind}
use Rattle.fast_check_meaning_signatures.specs.Answers.{Answer, Adds, fault_at, faultless, with_tree, answer_to, answer_of}
use Rattle.fast_check_meaning_signatures.specs.Seen.{Seen, faulty}
use Rattle.fast_check_meaning_signatures.proofs.Adding.{adds_nothing, adds_fault, adds_same}
use Rattle.fast_check_transform_statements.specs.skeleton.declared.rules.DeclRule.{DeclRule}
use Rattle.fast_check_transform_statements.specs.skeleton.declared.rules.DeclRule.TheVariants.{Variables, Function, Class, Standing}
use Rattle.fast_check_transform_statements.specs.skeleton.declared.rules.DeclRule.TheVariants.{Namespace, Using, NoDeclaration}
use Rattle.fast_check_transform_statements.specs.skeleton.declared.rules.DefaultRule.{DefaultRule}
use Rattle.fast_check_transform_statements.specs.skeleton.declared.rules.ImportExportRule.{ImportExportRule}
use Rattle.fast_check_transform_statements.specs.skeleton.declared.rules.ItemRule.{ItemRule}
use Rattle.fast_check_transform_statements.specs.skeleton.declared.rules.ItemRule.TheVariants.{Declared, Exported, ImportExport, Default}
use Rattle.fast_check_transform_statements.specs.skeleton.declared.rules.ItemRule.TheVariants.{Refused, Assigned, Silent}
use Rattle.std.specs.List.{flat_map}
use Rattle.std.specs.Prelude.{refl}
use Rattle.std.proofs.lemmas.List.{take_more, take_all}
use Rattle.std.proofs.lemmas.List.Concat.{flat_map-append}
use Rattle.fast_check_tree_forms_statements.specs.Statements.{ExprStmt-expr}
use Rattle.fast_check_meaning_signatures.proofs.Adding.{adds_joined, answer_append}
use Rattle.fast_check_transform_statements.specs.expandos.declared.properties.ExpandoProperty.{ExpandoProperty}
use Rattle.fast_check_transform_statements.specs.expandos.Assignments.{assignment_seen, declared_properties}
use Rattle.fast_check_transform_statements.specs.expandos.Expandos.{namespaces_seen}
use Rattle.fast_check_transform_statements.specs.Assigned.{assignment_answer, assignment_properties}
use Rattle.fast_check_transform_statements.specs.skeleton.Visible.{properties_by_rule, item_properties, item_look}
use Rattle.fast_check_transform_statements.specs.skeleton.Rules.{is_assigned, item_rule}
use Rattle.fast_check_transform_statements.specs.skeleton.ModuleFacts.{ModuleFacts}
use Rattle.fast_check_transform_statements.specs.skeleton.Visible.{decl_seen, exported_seen, seen_by_rule, item_seen}
use Rattle.fast_check_transform_statements.proofs.skeleton_proofs.Namespaces.{item_seen_is}
use Rattle.fast_check_transform_statements.proofs.skeleton_proofs.Standing.{OneTree, decl_one, export_is}
use Rattle.fast_check_transform_imports.specs.module_facts.Kept.{as_list}
use Rattle.fast_check_transform_imports.specs.ImportsExports.{import_export_answer}
use Rattle.fast_check_transform_statements.specs.PartAnswers.{statement_answer, public_function_answer, standing_answer, using_answer}
use Rattle.fast_check_transform_statements.specs.transform_declarations.ClassAnswers.{public_class_answer}
use Rattle.fast_check_transform_statements.specs.transform_declarations.ClassAnswers.{default_answer}
use Rattle.fast_check_transform_imports.proofs.module_facts.Listed.{alone, one_more, whole}
use Rattle.fast_check_transform_module.specs.PartAnswers.{namespace_answer, decl_answer, refused_answer, item_answer}
use Rattle.fast_check_transform_module.specs.PartAnswers.{items_answer}

module _ (facts : ModuleFacts) (place : SourceRange) (decl : Tree) where
  -- what is answered to a declaration with which this is done
  abbrev by_rule : DeclRule → Answer (List Tree)
  by_rule r = answer_of (decl_seen facts place decl r)

  pub variables : {rule : DeclRule} → rule ≡ Variables → {xs : List Tree} {old new : List Fault} →
      Adds (statement_answer facts decl) xs old new → Adds (decl_answer facts place decl rule) xs old new
  unfolding decl_answer statement_answer
  variables r h = adds_same (ap by_rule r) h

  pub functions : {rule : DeclRule} → rule ≡ Function → {xs : List Tree} {old new : List Fault} →
      Adds (public_function_answer facts place decl) xs old new → Adds (decl_answer facts place decl rule) xs old new
  unfolding decl_answer public_function_answer
  functions r h = adds_same (ap by_rule r) h

  pub classes : {rule : DeclRule} → rule ≡ Class → {xs : List Tree} {old new : List Fault} →
      Adds (public_class_answer facts place decl) xs old new → Adds (decl_answer facts place decl rule) xs old new
  unfolding decl_answer public_class_answer
  classes r h = adds_same (ap by_rule r) h

  pub standing : {rule : DeclRule} → rule ≡ Standing → (o : Option Tree) → standing_answer facts place decl ≡ faultless (as_list o) →
      (old : List Fault) →
      Adds (decl_answer facts place decl rule) (as_list o) old old
  unfolding decl_answer standing_answer
  standing r o h old = adds_same (ap by_rule r ∙ h) (adds_nothing (as_list o) old)

  pub namespaces : {rule : DeclRule} → rule ≡ Namespace → {xs : List Tree} {old new : List Fault} →
      Adds (namespace_answer facts place decl) xs old new → Adds (decl_answer facts place decl rule) xs old new
  unfolding decl_answer namespace_answer
  namespaces r h = adds_same (ap by_rule r) h

  pub using_stays : {rule : DeclRule} → rule ≡ Using → {xs : List Tree} {old new : List Fault} →
      Adds (using_answer facts place decl) xs old new → Adds (decl_answer facts place decl rule) xs old new
  unfolding decl_answer using_answer
  using_stays r h = adds_same (ap by_rule r) h

  pub undeclared : {rule : DeclRule} → rule ≡ NoDeclaration → (old : List Fault) → Adds (decl_answer facts place decl rule) [] old old
  unfolding decl_answer
  undeclared r old = adds_same (ap by_rule r) (adds_nothing [] old)

module _ (facts : ModuleFacts) (item : Tree) where
  -- what is seen of a declaration is one form at most
  none_of : (ss : List Seen) → OneTree facts ss → {xs : List Tree} {old new : List Fault} → Adds (answer_of ss) xs old new → xs ≡ [] →
      Adds (answer_of (exported_seen item ss)) [] old new
  none_of [] one {old = old} {new = new} h e = subst (λ x. Adds (answer_of []) x old new) e h
  none_of (s ∷ []) one h e =
      let f : one.0 ∷ [] ≡ [] = sym (ap (λ o. with_tree o []) one.1) ∙ (ap (λ a. a.stays) h.is ∙ e) in cc
  none_of (s ∷ t ∷ ss) one h e = absurd one

  export_of : (ss : List Seen) → OneTree facts ss → {t : Tree} {old new : List Fault} → Adds (answer_of ss) (t ∷ []) old new →
      Adds (answer_of (exported_seen item ss)) (export_decl (ExportDecl-span item) t ∷ []) old new
  export_of [] one h = let e = ap (λ a. a.stays) h.is in cc
  export_of (s ∷ []) one {t = t} h =
      let same : one.0 ∷ [] ≡ t ∷ [] = sym (ap (λ o. with_tree o []) one.1) ∙ ap (λ a. a.stays) h.is in
      let tree : one.0 ≡ t = cc in record {
        added = h.added;
        is = export_is facts item s one ∙ (λ i. record {
          stays = export_decl (ExportDecl-span item) (tree i) ∷ [];
          faults = (sym (append-nil (answer_to s).faults) ∙ ap (λ a. a.faults) h.is) i;
        });
        faults = h.faults;
      }
  export_of (s ∷ t ∷ ss) one h = absurd one

  -- what is answered to an item with which this is done
  by_item_rule : {rule : ItemRule} → item_rule item ≡ rule → item_answer facts item ≡ answer_of (seen_by_rule facts item rule)
  unfolding item_answer
  by_item_rule e = ap answer_of (item_seen_is facts item ∙ ap (seen_by_rule facts item) e)

  pub declared : {rule : DeclRule} → item_rule item ≡ Declared rule → {place : SourceRange} {xs : List Tree} {old new : List Fault} →
      Adds (decl_answer facts place item rule) xs old new → place ≡ range_of_node item → Adds (item_answer facts item) xs old new
  unfolding decl_answer
  declared {rule} e h p = adds_same (by_item_rule e ∙ ap (λ q. answer_of (decl_seen facts q item rule)) (sym p)) h

  -- an export of a declaration with which this is done
  pub no_export : {rule : DeclRule} → item_rule item ≡ Exported rule → {place : SourceRange} {decl : Tree} {xs : List Tree}
      {old new : List Fault} → Adds (decl_answer facts place decl rule) xs old new → place ≡ ExportDecl-span item →
      decl ≡ ExportDecl-decl item → xs ≡ [] → Adds (item_answer facts item) [] old new
  unfolding decl_answer
  no_export {rule} e h p q n =
      adds_same (by_item_rule e) (none_of (decl_seen facts (ExportDecl-span item) (ExportDecl-decl item) rule)
      (decl_one facts (ExportDecl-span item) (ExportDecl-decl item) rule)
      (adds_same (λ i. answer_of (decl_seen facts (sym p i) (sym q i) rule)) h) n)

  pub made_export : {rule : DeclRule} → item_rule item ≡ Exported rule → {place : SourceRange} {decl t : Tree} {xs : List Tree}
      {old new : List Fault} → Adds (decl_answer facts place decl rule) xs old new → place ≡ ExportDecl-span item →
      decl ≡ ExportDecl-decl item → xs ≡ t ∷ [] → {made : Tree} → made ≡ export_decl (ExportDecl-span item) t →
      Adds (item_answer facts item) (made ∷ []) old new
  unfolding decl_answer
  made_export {rule} e {old = old} {new = new} h p q n m =
      let seen = decl_seen facts (ExportDecl-span item) (ExportDecl-decl item) rule in
      adds_same (by_item_rule e) (subst (λ u. Adds (answer_of (exported_seen item seen)) (u ∷ []) old new) (sym m)
      (export_of seen (decl_one facts (ExportDecl-span item) (ExportDecl-decl item) rule)
      (subst (λ x. Adds (answer_of seen) x old new) n (adds_same (λ i. answer_of (decl_seen facts (sym p i) (sym q i) rule)) h))))

  pub import_export : {rule : ImportExportRule} → item_rule item ≡ ImportExport rule → (o : Option Tree) →
      import_export_answer facts item rule ≡ faultless (as_list o) → (old : List Fault) → Adds (item_answer facts item) (as_list o) old old
  unfolding import_export_answer
  import_export e o h old = adds_same (by_item_rule e ∙ h) (adds_nothing (as_list o) old)

  pub default_export : {rule : DefaultRule} → item_rule item ≡ Default rule → {xs : List Tree} {old new : List Fault} →
      Adds (default_answer facts item rule) xs old new → Adds (item_answer facts item) xs old new
  unfolding default_answer
  default_export e h = adds_same (by_item_rule e) h

  pub refused : {kind : FaultKind} → item_rule item ≡ Refused kind → {xs : List Tree} {old new : List Fault} →
      Adds (refused_answer item kind) xs old new → Adds (item_answer facts item) xs old new
  unfolding refused_answer
  refused e h = adds_same (by_item_rule e) h

  pub silent : item_rule item ≡ Silent → (old : List Fault) → Adds (item_answer facts item) [] old old
  silent e old = adds_same (by_item_rule e) (adds_nothing [] old)

-- the fault of an item that no skeleton has
pub diagnosed_refused : (item : Tree) (kind : FaultKind) {place : SourceRange} → place ≡ range_of_node item → {old new : List Fault} →
    new ≡ old ++ fault_at kind place ∷ [] → Adds (refused_answer item kind) (Absent ∷ []) old new
unfolding refused_answer
diagnosed_refused item kind p {old} f =
    subst (λ fs. Adds (answer_of (faulty kind (range_of_node item) ∷ [])) (Absent ∷ []) old fs)
    (sym (f ∙ ap (λ r. old ++ fault_at kind r ∷ []) p))
    (alone (faulty kind (range_of_node item)) (adds_fault (Some Absent) (fault_at kind (range_of_node item)) old))

-- ---- items

-- the answer to some items
unfoldable pub each_answer : ModuleFacts → List Tree → Answer (List Tree)
each_answer facts items = answer_of (flat_map (λ item. item_look item facts) items)

module _ (facts : ModuleFacts) where
  pub no_items : {xs : List Tree} → xs ≡ [] → (old : List Fault) → Adds (each_answer facts []) xs old old
  unfolding each_answer
  no_items e old = subst (λ x. Adds (answer_of []) x old old) (sym e) (adds_nothing [] old)

  pub one_more_item : (items : List Tree) (i : ℕ) (item : Tree) → i < length items → item ≡ get_or items i item →
      {xs ys zs : List Tree} {old mid new : List Fault} → Adds (each_answer facts (take i items)) xs old mid →
      Adds (item_answer facts item) ys mid new →
      zs ≡ xs ++ ys → Adds (each_answer facts (take (i + 1) items)) zs old new
  unfolding each_answer item_answer
  one_more_item items i item h e g k p = one_more (item_seen facts) items i item h e g k p

  pub all_items : {items all : List Tree} (i : ℕ) → length items ≤ i → items ≡ all → {xs : List Tree} {old new : List Fault} →
      Adds (each_answer facts (take i items)) xs old new → Adds (each_answer facts all) xs old new
  unfolding each_answer
  all_items i h e g = whole (item_seen facts) i h e g

  -- one that is an assignment: nothing of it stays
  pub one_more_assigned : (items : List Tree) (i : ℕ) (item : Tree) → i < length items → item ≡ get_or items i item →
      item_rule item ≡ Assigned →
      {assignment : Tree} → assignment ≡ ExprStmt-expr item → {xs : List Tree} {old mid new : List Fault} →
      Adds (each_answer facts (take i items)) xs old mid → Adds (assignment_answer facts assignment) [] mid new →
      Adds (each_answer facts (take (i + 1) items)) xs old new
  unfolding each_answer item_answer assignment_answer
  one_more_assigned items i item h e r a {xs = xs} g k =
      one_more (item_seen facts) items i item h e g
      (adds_same
      (by_item_rule facts item r ∙ ap (λ x. answer_of (assignment_seen facts.is_public facts.bindings facts.objects x)) (sym a)) k)
      (sym (append-nil xs))

  -- the namespaces behind them
  pub with_namespaces : (items : List Tree) {ps : List ExpandoProperty} {xs ys zs : List Tree} {old mid new : List Fault} →
      Adds (each_answer facts items) xs old mid → ps ≡ flat_map (item_properties facts) items →
      Adds (answer_of (namespaces_seen ps)) ys mid new →
      zs ≡ xs ++ ys → Adds (items_answer facts items) zs old new
  unfolding each_answer items_answer
  with_namespaces items {old = old} {new = new} g e k p =
      subst (λ x. Adds (items_answer facts items) x old new) (sym p)
      (adds_same
      (answer_append (flat_map (λ item. item_look item facts) items) (namespaces_seen (flat_map (item_properties facts) items)))
      (adds_joined ◌++◌ g (adds_same (ap (λ qs. answer_of (namespaces_seen qs)) (sym e)) k)))

-- ---- the properties of items

-- one item that is no assignment declares none
none_by_rule : (facts : ModuleFacts) (item : Tree) (rule : ItemRule) → is_assigned rule ≡ false → properties_by_rule facts item rule ≡ []
none_by_rule facts item (Declared rule) e = refl
none_by_rule facts item (Exported rule) e = refl
none_by_rule facts item (ImportExport rule) e = refl
none_by_rule facts item (Default rule) e = refl
none_by_rule facts item (Refused kind) e = refl
none_by_rule facts item Assigned e = cc
none_by_rule facts item Silent e = refl

pub assigned_is : (rule : ItemRule) → is_assigned rule ≡ true → rule ≡ Assigned
assigned_is Assigned e = refl
assigned_is (Declared rule) e = cc
assigned_is (Exported rule) e = cc
assigned_is (ImportExport rule) e = cc
assigned_is (Default rule) e = cc
assigned_is (Refused kind) e = cc
assigned_is Silent e = cc

module _ (facts : ModuleFacts) (items : List Tree) (i : ℕ) (item : Tree) (h : i < length items) (e : item ≡ get_or items i item) where
  taken : flat_map (item_properties facts) (take (i + 1) items) ≡ flat_map (item_properties facts)
      (take i items) ++ item_properties facts item
  taken =
      ap (flat_map (item_properties facts)) (take_more items i item h ∙ ap (λ u. take i items ++ u ∷ []) (sym e))
      ∙ (flat_map-append (item_properties facts) (take i items) (item ∷ [])
      ∙ ap (λ ps. flat_map (item_properties facts) (take i items) ++ ps) (append-nil (item_properties facts item)))

  pub same_properties : is_assigned (item_rule item) ≡ false → {new : List ExpandoProperty} →
      new ≡ flat_map (item_properties facts) (take i items) → new ≡ flat_map (item_properties facts) (take (i + 1) items)
  same_properties n p =
      p ∙ sym (taken ∙ (ap (λ ps. flat_map (item_properties facts) (take i items) ++ ps)
      (none_by_rule facts item (item_rule item) n) ∙ append-nil (flat_map (item_properties facts) (take i items))))

  pub more_properties : item_rule item ≡ Assigned → {assignment : Tree} → assignment ≡ ExprStmt-expr item →
      {mid new : List ExpandoProperty} → mid ≡ flat_map (item_properties facts) (take i items) →
      new ≡ mid ++ assignment_properties facts assignment → new ≡ flat_map (item_properties facts) (take (i + 1) items)
  unfolding assignment_properties
  more_properties r a p q =
      q ∙ (λ j. p j ++ declared_properties facts.is_public facts.bindings facts.objects (a j))
      ∙ sym (taken ∙ ap (λ x. flat_map (item_properties facts) (take i items) ++ properties_by_rule facts item x) r)

pub all_properties : (facts : ModuleFacts) {items all : List Tree} (i : ℕ) → length items ≤ i → items ≡ all →
    {new : List ExpandoProperty} → new ≡ flat_map (item_properties facts) (take i items) → new ≡ flat_map (item_properties facts) all
all_properties facts {items} i h e p = p ∙ ap (flat_map (item_properties facts)) (take_all i items h ∙ e)
