-- The namespaces of expando properties stand in the grammar, where nothing is wrong with the right sides of their assignments.
use Rattle.std.specs.Prelude.{◌≡◌, ℕ, ◌<◌, Bool, true, false, ◌&&◌, ◌||◌, Option, Some, None, IfSome, List, [], ◌∷◌, ◌++◌, map, refl}
use Rattle.std.specs.Prelude.{if◌then◌else◌}
use Rattle.std.proofs.Common.{ap, ◌∙◌, sym, subst, subst₂, inl, inr}
use Rattle.std.specs.List.{flat_map, list_any}
use Rattle.fast_check_tree_syntax.specs.declared.atom.Id.{Id}
use Rattle.fast_check_tree_syntax.specs.declared.kind.Kind.TheVariants.{BindingIdent, TsModuleBlock}
use Rattle.fast_check_tree_syntax.specs.declared.kind.Kind.TheVariants.{List as List'}
use Rattle.fast_check_tree_syntax.specs.declared.source.SourceRange.{SourceRange}
use Rattle.fast_check_tree_syntax.specs.declared.kind.Word.TheVariants as words
use Rattle.fast_check_tree_syntax.specs.declared.kind.Kind.TheVariants.{Ident}
use Rattle.fast_check_tree_syntax.specs.declared.tree.Tree.{Tree, Absent}
use Rattle.fast_check_tree_syntax.specs.declared.tree.Tree as tree
use Rattle.fast_check_tree_syntax.specs.Shape.{kind_of, parts, is_absent, flag_of, list, none_range, OfAll}
use Rattle.fast_check_tree_syntax.specs.Height.{height}
use Rattle.fast_check_tree_syntax.proofs.Made.{part_node, parts_node, kind_of_node, is_absent_node, flag_of_flag}
use Rattle.fast_check_tree_helpers.specs.Builders.{new_ident}
use Rattle.fast_check_tree_forms_programs.specs.ModuleDecls.{ExportDecl-decl, export_decl}
use Rattle.fast_check_tree_forms_expressions.specs.Operators.{AssignExpr-span, AssignExpr-left, AssignExpr-right}
use Rattle.fast_check_tree_helpers.specs.ranges.Ranges.{range_of_node}
use Rattle.fast_check_tree_forms_statements.specs.Declarations.{VarDecl-decls, var_decl}
use Rattle.fast_check_tree_forms_statements.specs.Statements.{ExprStmt-expr}
use Rattle.fast_check_tree_forms_statements.specs.TsDeclarations.{TsModuleDecl-global, TsModuleDecl-declare, TsModuleDecl-id, TsModuleDecl-body}
use Rattle.fast_check_tree_forms_statements.specs.TsDeclarations.{TsModuleBlock-body, ts_module_block}
use Rattle.fast_check_tree_forms_programs.specs.Names.{BindingIdent-type_ann, binding_ident}
use Rattle.fast_check_tree_forms_statements.specs.Declarations.{VarDeclarator-name, VarDeclarator-init, var_declarator}
use Rattle.fast_check_tables_modules.specs.symbols.Tables.{same_id}
use Rattle.fast_check_tables_modules.specs.Expandos.{is_expando_assignment}
use Rattle.fast_check_meaning_signatures.specs.Bindings.{Bindings}
use Rattle.fast_check_meaning_signatures.specs.declared.fault.FaultKind.TheVariants.{MissingExplicitType}
use Rattle.fast_check_meaning_signatures.specs.Seen.{Seen, tested}
use Rattle.fast_check_meaning_signatures.specs.Answers.{Answer, answer_to, answer_of, tested_answer, unless_stays, fault_at}
use Rattle.fast_check_meaning_signatures.proofs.Choices.{of_choice, no_left, no_right, not_empty}
use Rattle.fast_check_meaning_signatures.proofs.Adding.{answer_append}
use Rattle.fast_check_meaning_skeleton.specs.TypedGrammar.{IsLeavable}
use Rattle.fast_check_meaning_skeleton.proofs.Present.{stays_there}
use Rattle.fast_check_meaning_skeleton.proofs.Staying.{Holds, Stays}
use Rattle.fast_check_meaning_skeleton.proofs.StayingLists.{AllStay, all_append, both_some}
use Rattle.fast_check_meaning_skeleton.proofs.Typed.{expr_stays}
use Rattle.fast_check_meaning_expandos.specs.declared.properties.ExpandoProperty.{ExpandoProperty}
use Rattle.fast_check_meaning_expandos.specs.declared.references.Reference.{Reference}
use Rattle.fast_check_meaning_expandos.specs.Assignments.{right_seen, missing_place, assignment_seen, kept_property, declared_properties}
use Rattle.fast_check_meaning_expandos.specs.Expandos.{exported_variables, namespace_decl, namespace_item, conflict_seen, namespace_seen, by_object}
use Rattle.fast_check_meaning_expandos.specs.Expandos.{namespaces_seen}
use Rattle.fast_check_meaning_expandos.specs.Groups.{others, items_of}
use Rattle.fast_check_meaning_skeleton.specs.Grammar.{HasTypedValue, IsTypedDeclarator, IsTypedItem, IsTypedNamespace, IsTypedBody, AllTypedItems}
use Rattle.fast_check_meaning_skeleton.specs.Grammar as g
use Rattle.fast_check_meaning_skeleton.specs.Rules.{item_rule}
use Rattle.fast_check_meaning_skeleton.specs.ModuleFacts.{ModuleFacts}
use Rattle.fast_check_meaning_skeleton.specs.Visible.{properties_by_rule, item_properties, body_seen, item_look, item_seen, seen_by_rule}
use Rattle.fast_check_meaning_skeleton.specs.declared.rules.ItemRule.{ItemRule}
use Rattle.fast_check_meaning_skeleton.specs.declared.rules.ItemRule.TheVariants.{Assigned}
use Rattle.fast_check_meaning_skeleton.proofs.Namespaces.{item_seen_is}
use Rattle.fast_check_meaning_skeleton.proofs.StandingNamespaces.{items_stand}

-- a declarator of an identifier with a type and a value that go together
pub typed : (bindings : Bindings) (span : SourceRange) (ident : Tree) (definite : Bool) (type value : Tree) →
    HasTypedValue bindings type value →
    IsTypedDeclarator bindings (var_declarator span (binding_ident ident type) value definite)
typed bindings span ident definite type value e =
    let made = var_declarator span (binding_ident ident type) value definite in
    let name : VarDeclarator-name made ≡ binding_ident ident type = part_node _ _ _ in
    let of_type : BindingIdent-type_ann (binding_ident ident type) ≡ type = part_node _ _ _ in
    let of_value : VarDeclarator-init made ≡ value = part_node _ _ _ in
    record {
      kind = kind_of_node _ _;
      name = ap kind_of name ∙ kind_of_node BindingIdent (ident ∷ type ∷ []);
      value = subst₂ (HasTypedValue bindings) (sym (ap BindingIdent-type_ann name ∙ of_type)) (sym of_value) e;
    }

module _ (bindings : Bindings) where
  -- the declarators of properties give types
  abbrev pub AllTyped : List ExpandoProperty → Type 0
  AllTyped [] = Unit {0}
  AllTyped (p ∷ ps) = IsTypedDeclarator bindings p.declarator × AllTyped ps

  abbrev EachTyped : List (Id × List ExpandoProperty) → Type 0
  EachTyped [] = Unit {0}
  EachTyped (e ∷ es) = AllTyped e.1 × EachTyped es

  pub typed_append : (ps qs : List ExpandoProperty) → AllTyped ps → AllTyped qs → AllTyped (ps ++ qs)
  typed_append [] qs h k = k
  typed_append (p ∷ ps) qs h k = (h.0, typed_append ps qs h.1 k)

  of_object : (id : Id) (ps : List ExpandoProperty) → AllTyped ps → AllTyped (items_of same_id (λ p. p.object) id ps)
  of_object id [] h = tt
  of_object id (p ∷ ps) h = go (same_id id p.object) refl (of_object id ps h.1)
    where
      go : (b : Bool) → same_id id p.object ≡ b → AllTyped (items_of same_id (λ p. p.object) id ps) →
          AllTyped (items_of same_id (λ p. p.object) id (p ∷ ps))
      go true e rest = rw e (h.0, rest)
      go false e rest = rw e rest

  other_groups : (id : Id) (es : List (Id × List ExpandoProperty)) → EachTyped es → EachTyped (others same_id id es)
  other_groups id [] h = tt
  other_groups id (x ∷ xs) h = go (same_id id x.0) refl (other_groups id xs h.1)
    where
      go : (b : Bool) → same_id id x.0 ≡ b → EachTyped (others same_id id xs) → EachTyped (others same_id id (x ∷ xs))
      go true e rest = rw e rest
      go false e rest = rw e (h.0, rest)

  groups_typed : (ps : List ExpandoProperty) → AllTyped ps → EachTyped (by_object ps)
  groups_typed [] h = tt
  groups_typed (p ∷ ps) h = ((h.0, of_object p.object ps h.1), other_groups p.object (by_object ps) (groups_typed ps h.1))

  declarators_typed : (ps : List ExpandoProperty) → AllTyped ps → OfAll (IsTypedDeclarator bindings) (map (λ p. p.declarator) ps)
  declarators_typed [] h = tt
  declarators_typed (p ∷ ps) h = (h.0, declarators_typed ps h.1)

  module _ (is_ambient : Bool) where
    variables_typed : (inner : Bool) (ds : List Tree) → OfAll (IsTypedDeclarator bindings) ds →
        IsTypedItem bindings inner (exported_variables ds)
    variables_typed inner ds h =
        let decl = var_decl none_range (record { 0 = 0 }) (tree.Word words.Var) false (list ds) in
        let same : ExportDecl-decl (exported_variables ds) ≡ decl = part_node _ _ _ in
        let decls : VarDecl-decls decl ≡ list ds = part_node _ _ _ in
        g.IsTypedItem.plain (inr (inl (
          kind_of_node _ _,
          inl (record {
            kind = ap kind_of same ∙ kind_of_node _ _;
            declarators = inr (subst (OfAll (IsTypedDeclarator bindings)) (sym (ap (λ t. parts (VarDecl-decls t)) same ∙
                (ap parts decls ∙ parts_node List' ds))) h);
          }),
        )))

    namespace_typed : (name : List ℕ) (ds : List Tree) → OfAll (IsTypedDeclarator bindings) ds →
        IsTypedNamespace bindings is_ambient (namespace_decl name ds)
    namespace_typed name ds h =
        let items = exported_variables ds ∷ [] in
        let block = ts_module_block none_range (list items) in
        let decl = namespace_decl name ds in
        let body : TsModuleDecl-body decl ≡ block = part_node _ _ _ in
        let id : TsModuleDecl-id decl ≡ new_ident name = part_node _ _ _ in
        let global : TsModuleDecl-global decl ≡ false = ap flag_of (part_node _ _ _) ∙ flag_of_flag false in
        let inside : TsModuleBlock-body block ≡ list items = part_node _ _ _ in
        g.IsTypedNamespace.namespace (kind_of_node _ _)
        (rw (global, id, body, kind_of_node Ident _, is_absent_node TsModuleBlock _) refl)
        (subst (IsTypedBody bindings (is_ambient || TsModuleDecl-declare decl)) (sym body)
        (g.IsTypedBody.block (kind_of_node _ _)
        (subst (AllTypedItems bindings (is_ambient || TsModuleDecl-declare decl)) (sym (ap parts inside ∙ parts_node List' items))
        (g.AllTypedItems.next_item (variables_typed (is_ambient || TsModuleDecl-declare decl) ds h) g.AllTypedItems.no_items))))

    item_typed : (is_exported : Bool) (name : List ℕ) (ds : List Tree) → OfAll (IsTypedDeclarator bindings) ds →
        IsTypedItem bindings is_ambient (namespace_item is_exported name ds)
    item_typed true name ds h =
        let same : ExportDecl-decl (export_decl none_range (namespace_decl name ds)) ≡ namespace_decl name ds = part_node _ _ _ in
        g.IsTypedItem.exported (kind_of_node _ _) (subst (IsTypedNamespace bindings is_ambient) (sym same) (namespace_typed name ds h))
    item_typed false name ds h = g.IsTypedItem.declared (namespace_typed name ds h)

    Item : Tree → Type 0
    Item = IsTypedItem bindings is_ambient

    conflicts_stay : (object : Id) (rs : List Reference) → AllStay (IsTypedItem bindings is_ambient) (map (conflict_seen object) rs)
    conflicts_stay object [] = tt
    conflicts_stay object (r ∷ rs) = ((λ f. not_empty f), conflicts_stay object rs)

    namespace_stays : (e : Id × List ExpandoProperty) → AllTyped e.1 → AllStay (IsTypedItem bindings is_ambient) (namespace_seen e)
    namespace_stays (object, ps) h =
        all_append (IsTypedItem bindings is_ambient) (map (conflict_seen object) (flat_map (λ p. p.conflicts) ps)) _
        (conflicts_stay object (flat_map (λ p. p.conflicts) ps))
        ((λ f. item_typed (list_any (λ p. p.is_exported) ps) object.0 (map (λ p. p.declarator) ps) (declarators_typed ps h)), tt)

    each_stays : (es : List (Id × List ExpandoProperty)) → EachTyped es →
        AllStay (IsTypedItem bindings is_ambient) (flat_map namespace_seen es)
    each_stays [] h = tt
    each_stays (e ∷ es) h =
        all_append (IsTypedItem bindings is_ambient) (namespace_seen e) (flat_map namespace_seen es) (namespace_stays e h.0)
        (each_stays es h.1)

    pub namespaces_stay : (ps : List ExpandoProperty) → AllTyped ps → AllStay (IsTypedItem bindings is_ambient) (namespaces_seen ps)
    namespaces_stay ps h = each_stays (by_object ps) (groups_typed ps h)

-- ---- what an assignment declares

module _ (facts : ModuleFacts) (assignment : Tree) where
  abbrev right : Tree
  right = AssignExpr-right assignment

  abbrev answered : Answer (Option Tree)
  answered = answer_to (right_seen facts.bindings assignment)

  -- nothing is wrong with the right side where nothing is wrong with what is tested
  nothing_faulty : (place : Option SourceRange) → (tested_answer place answered).faults ≡ [] → answered.faults ≡ []
  nothing_faulty None e = e
  nothing_faulty (Some place) e = no_left answered.faults (unless_stays answered.stays (fault_at MissingExplicitType place)) e

  there : IfSome answered.stays (λ v. is_absent v ≡ false)
  there = of_choice (λ s. IfSome (answer_to s).stays (λ v. is_absent v ≡ false)) (is_absent right) _ _ (λ e. tt)
      (λ e. stays_there facts.bindings right (Some (range_of_node right)) e)

  gives_type : Stays (IsLeavable facts.bindings) answered
  gives_type = of_choice (λ s. Stays (IsLeavable facts.bindings) (answer_to s)) (is_absent right) _ _ (λ e f. tt)
      (λ e. expr_stays facts.bindings right (Some (range_of_node right)))

  kept_typed : (o : Option Tree) → IfSome o (λ v. (is_absent v ≡ false) × IsLeavable facts.bindings v) →
      AllTyped facts.bindings (kept_property facts.objects (AssignExpr-span assignment) (AssignExpr-left assignment) o)
  kept_typed None h = tt
  kept_typed (Some v) h = (typed facts.bindings _ _ _ Absent v (inr h), tt)

  declared_if : (p x : Bool) → facts.is_public (AssignExpr-span assignment) ≡ p →
      (answer_of (if p then tested (missing_place facts.objects assignment) (right_seen facts.bindings assignment) ∷ [] else [])).faults ≡
      [] →
      AllTyped facts.bindings
      (if p && x then kept_property facts.objects (AssignExpr-span assignment) (AssignExpr-left assignment) answered.stays else [])
  declared_if false x e f = tt
  declared_if true false e f = tt
  declared_if true true e f =
      let fine = nothing_faulty (missing_place facts.objects assignment) (no_left _ [] f) in
      kept_typed answered.stays (both_some (λ v. is_absent v ≡ false) (IsLeavable facts.bindings) answered.stays there
      (gives_type fine))

  pub declared_typed : (answer_of (assignment_seen facts.is_public facts.bindings facts.objects assignment)).faults ≡ [] →
      AllTyped facts.bindings (declared_properties facts.is_public facts.bindings facts.objects assignment)
  declared_typed = declared_if (facts.is_public (AssignExpr-span assignment)) (is_expando_assignment assignment) refl

-- ---- the items of a body

-- what stays of lower items
pub all_below : (P : Tree → Type 0) (f : Tree → List Seen) (limit : ℕ) (us : List Tree) → OfAll (λ u. height u < limit) us →
    ((u : Tree) → height u < limit → AllStay P (f u)) → AllStay P (flat_map f us)
all_below P f limit [] low h = tt
all_below P f limit (u ∷ us) low h = all_append P (f u) (flat_map f us) (h u low.0) (all_below P f limit us low.1 h)

module _ (here : ModuleFacts) where
  abbrev Items : List Tree → Type 0
  Items = AllTypedItems here.bindings here.is_ambient

  abbrev each : List Tree → List Seen
  each us = flat_map (λ u. item_look u here) us

  items_append : (ts us : List Tree) → Items ts → Items us → Items (ts ++ us)
  items_append [] us g.AllTypedItems.no_items k = k
  items_append (t ∷ ts) us (g.AllTypedItems.next_item h hs) k = g.AllTypedItems.next_item h (items_append ts us hs k)

  by_rule : (u : Tree) (rule : ItemRule) → (answer_of (seen_by_rule here u rule)).faults ≡ [] →
      AllTyped here.bindings (properties_by_rule here u rule)
  by_rule u Assigned e = declared_typed here (ExprStmt-expr u) e
  by_rule u _ e = tt

  each_typed : (us : List Tree) → (answer_of (each us)).faults ≡ [] → AllTyped here.bindings (flat_map (item_properties here) us)
  each_typed [] e = tt
  each_typed (u ∷ us) e =
      let split = sym (ap (λ a. a.faults) (answer_append (item_seen here u) (each us))) ∙ e in
      typed_append here.bindings (item_properties here u) (flat_map (item_properties here) us)
      (by_rule u (item_rule u) (sym (ap (λ ss. (answer_of ss).faults) (item_seen_is here u))
      ∙ no_left (answer_of (item_seen here u)).faults (answer_of (each us)).faults split))
      (each_typed us (no_right (answer_of (item_seen here u)).faults (answer_of (each us)).faults split))

  -- a body of items that stand, with the namespaces behind them
  pub body_stands : (us : List Tree) → AllStay (IsTypedItem here.bindings here.is_ambient) (each us) →
      Holds Items (answer_of (body_seen item_look here us))
  body_stands us all e =
      let behind = namespaces_seen (flat_map (item_properties here) us) in
      let both = answer_append (each us) behind in
      let split = sym (ap (λ a. a.faults) both) ∙ e in
      let first = no_left (answer_of (each us)).faults (answer_of behind).faults split in
      subst Items (sym (ap (λ a. a.stays) both))
      (items_append (answer_of (each us)).stays (answer_of behind).stays (items_stand here.bindings here.is_ambient (each us) all first)
      (items_stand here.bindings here.is_ambient behind
      (namespaces_stay here.bindings here.is_ambient (flat_map (item_properties here) us) (each_typed us first))
      (no_right (answer_of (each us)).faults (answer_of behind).faults split)))
