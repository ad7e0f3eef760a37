-- Modules that agree but for what is hidden are seen alike, so that their skeletons and faults are the same.
use Rattle.std.specs.Prelude.{◌≡◌, ◌&&◌, Bool, true, false, not, ◌||◌, Some, List, [], ◌∷◌, ◌++◌, map, flat_map, refl}
use Rattle.std.specs.Prelude.{if◌then◌else◌}
use Rattle.std.specs.List.{list_all}
use Rattle.std.proofs.Common.{ap, ap₂, ◌∙◌, sym, subst, subst₂}
use Rattle.fast_check_tree_syntax.specs.declared.kind.Kind.TheVariants.{Module, BindingIdent, VarDeclarator, VarDecl, ExportDecl, FnDecl}
use Rattle.fast_check_tree_syntax.specs.declared.kind.Kind.TheVariants.{ClassDecl, List as List', TsModuleDecl, TsModuleBlock, TsNamespaceDecl}
use Rattle.fast_check_tree_syntax.specs.declared.kind.Word.TheVariants.{Const as ConstWord}
use Rattle.fast_check_tree_syntax.specs.declared.source.SourceRange.{SourceRange}
use Rattle.fast_check_tree_syntax.specs.declared.tree.Tree as tree
use Rattle.fast_check_tree_syntax.specs.declared.tree.Tree.{Tree}
use Rattle.fast_check_tree_syntax.specs.Shape.{◌is◌, kind_of, parts, is_absent, has_word, list}
use Rattle.fast_check_tree_syntax.specs.Moves.{Renaming, IsRenaming, partners, twice}
use Rattle.fast_check_tree_syntax.specs.Same.{SameTree, SameRange, Each}
use Rattle.fast_check_tree_syntax.proofs.Moved.{has_word_moved, node_moved}
use Rattle.fast_check_tree_syntax.proofs.Made.{part_node}
use Rattle.fast_check_tree_syntax.proofs.Partners.{partners-keep as partners_keep, twice-keeps as twice_keeps}
use Rattle.fast_check_tree_syntax.proofs.Same.{tree_to, tree_from, range_to, range_from}
use Rattle.fast_check_tree_helpers.specs.ranges.Ranges.{range_of_node}
use Rattle.fast_check_tree_forms_programs.specs.Names.{Ident-span, binding_ident}
use Rattle.fast_check_tree_forms_programs.specs.Programs.{Module-span, Module-shebang}
use Rattle.fast_check_tree_forms_programs.specs.ModuleDecls.{ExportDecl-span, ExportDecl-decl}
use Rattle.fast_check_tree_forms_statements.specs.Declarations.{ClassDecl-ident, ClassDecl-declare, ClassDecl-class, FnDecl-ident, FnDecl-declare}
use Rattle.fast_check_tree_forms_statements.specs.Declarations.{FnDecl-function, VarDecl-span, VarDecl-ctxt, VarDecl-kind, VarDecl-declare}
use Rattle.fast_check_tree_forms_statements.specs.Declarations.{VarDecl-decls, VarDeclarator-span, VarDeclarator-name, VarDeclarator-init}
use Rattle.fast_check_tree_forms_statements.specs.Declarations.{VarDeclarator-definite}
use Rattle.fast_check_tree_forms_statements.specs.TsDeclarations.{TsModuleDecl-span, TsModuleDecl-declare, TsModuleDecl-global}
use Rattle.fast_check_tree_forms_statements.specs.TsDeclarations.{TsModuleDecl-namespace, TsModuleDecl-id, TsModuleDecl-body, TsModuleBlock-span}
use Rattle.fast_check_tree_forms_statements.specs.TsDeclarations.{TsNamespaceDecl-span, TsNamespaceDecl-declare, TsNamespaceDecl-global}
use Rattle.fast_check_tree_forms_statements.specs.TsDeclarations.{TsNamespaceDecl-id}
use Rattle.fast_check_tree_helpers.specs.declared.literal_type.DeclMutabilityKind.{DeclMutabilityKind}
use Rattle.fast_check_tree_helpers.specs.declared.literal_type.DeclMutabilityKind.TheVariants.{Const, Mutable}
use Rattle.fast_check_meaning_signatures.specs.declared.fault.Fault.{Fault}
use Rattle.fast_check_meaning_signatures.specs.declared.fault.FaultKind.TheVariants.{UnsupportedDestructuring, UnsupportedUsing}
use Rattle.fast_check_meaning_signatures.specs.declared.fault.FaultKind.TheVariants.{UnsupportedGlobalModule, UnsupportedAmbientModule}
use Rattle.fast_check_meaning_signatures.specs.declared.function_kind.FunctionKind.TheVariants.{DeclarationLike}
use Rattle.fast_check_meaning_skeleton.specs.ModuleFacts.{ModuleFacts, inside}
use Rattle.fast_check_tree_helpers.specs.Builders.{never_value}
use Rattle.fast_check_tree_helpers.proofs.BuildersMoved.{never_value_moved}
use Rattle.fast_check_meaning_skeleton.specs.Mutability.{mutability_of}
use Rattle.fast_check_meaning_skeleton.specs.Namespaces.{innermost, block_items, items_inside, body_round}
use Rattle.fast_check_meaning_signatures.specs.Seen.{Seen, written, range, scope, flag, round, listed, declarator, faulty, refused, seens}
use Rattle.fast_check_meaning_skeleton.specs.Visible.{declared_ident, declarator_head, typed_declarator, value_seen}
use Rattle.fast_check_meaning_skeleton.specs.Visible.{ident_declarator_seen, declarator_seen, is_ambient_statement, is_public_declarator}
use Rattle.fast_check_meaning_skeleton.specs.Visible.{declarator_in, public_declarator, public_declarators, statement_seen, signature_of}
use Rattle.fast_check_meaning_skeleton.specs.Visible.{function_decl_seen, public_function, is_ambient_class, class_in, class_decl_seen}
use Rattle.fast_check_meaning_skeleton.specs.Visible.{public_class, is_public_using, using_place, decl_seen, exported_seen, item_look, body_seen}
use Rattle.fast_check_meaning_skeleton.specs.Visible.{namespace_seen, seen_by_rule, item_seen, items_of, visible}
use Rattle.fast_check_meaning_signatures.specs.Answers.{answer_of}
use Rattle.fast_check_meaning_signatures.specs.Classes.{plain_class_seen, ambient_class}
use Rattle.fast_check_meaning_signatures.specs.Expressions.{expr_seen}
use Rattle.fast_check_meaning_signatures.specs.Functions.{function_seen, implementation_seen}
use Rattle.fast_check_meaning_skeleton.specs.SameValues.{SameBindings, Both, SameValue}
use Rattle.fast_check_meaning_skeleton.specs.SameValues as v
use Rattle.fast_check_meaning_skeleton.proofs.AlikeTrees.{TreeAlike, new_alike, range_leaf_alike, flag_leaf_alike}
use Rattle.fast_check_meaning_skeleton.proofs.AlikeTrees.{node_alike, range_field_alike}
use Rattle.fast_check_meaning_skeleton.proofs.AlikeSeen.{Alike, AllAlike, written_alike, same_written, range_alike, scope_alike, flag_alike}
use Rattle.fast_check_meaning_skeleton.proofs.AlikeSeen.{alike_if, given_alike, none_alike, all_alike_if, faulty_alike, listed_alike, round_alike, append_alike}
use Rattle.fast_check_meaning_signatures.proofs.Choices.{both_true}
use Rattle.fast_check_meaning_signatures.proofs.MovedParts.{moved_declarator}
use Rattle.fast_check_meaning_skeleton.proofs.AlikePresent.{expr_absent}
use Rattle.fast_check_meaning_skeleton.proofs.Alike.{expr_alike, function_alike}
use Rattle.fast_check_meaning_skeleton.proofs.AlikeClasses.{class_alike, ambient_class_alike}
use Rattle.fast_check_meaning_skeleton.proofs.AlikeFunctions.{implementation_alike}
use Rattle.fast_check_meaning_skeleton.specs.Skeleton.{transformed, skeleton_of, faults_of}
use Rattle.fast_check_meaning_skeleton.specs.Hidden.{IsSilentDecl, IsSilent, SameHead, SameDeclarator, SameDeclarators, SameStatement}
use Rattle.fast_check_meaning_skeleton.specs.Hidden.{SameFunctionDecl, SameClassDecl, SameDecl, SameNamespaceHead, SameInnerHead, SameItem}
use Rattle.fast_check_meaning_skeleton.specs.Hidden.{SameNamespace, SameBody, SameItems, AgreeHidden}
use Rattle.fast_check_meaning_skeleton.specs.Kinds.{is_standing}
use Rattle.fast_check_meaning_skeleton.specs.Rules.{decl_rule, rule_of_kind, declares}
use Rattle.fast_check_meaning_skeleton.specs.declared.rules.DeclRule.{DeclRule}
use Rattle.fast_check_meaning_skeleton.specs.declared.rules.DeclRule.TheVariants.{Variables, Function, Class, Standing, Namespace, Using}
use Rattle.fast_check_meaning_skeleton.proofs.Ruled.{assigned_rule, standing_rule, declared_rule, silent_rule, namespace_rule}
use Rattle.fast_check_meaning_skeleton.proofs.Namespaces.{block_round, inner_round, body_of_block, body_of_inner, item_seen_is, no_global}
use Rattle.fast_check_meaning_skeleton.proofs.Namespaces.{namespace_if, hidden_namespace, global_is, ambient_module_is}
use Rattle.fast_check_tree_forms_expressions.specs.Operators.{AssignExpr-span, AssignExpr-left}
use Rattle.fast_check_tree_forms_statements.specs.Statements.{ExprStmt-expr}
use Rattle.fast_check_tables_modules.specs.Expandos.{is_expando_assignment}
use Rattle.fast_check_meaning_signatures.specs.Seen.{tested}
use Rattle.fast_check_meaning_signatures.specs.Answers.{answer_to}
use Rattle.fast_check_meaning_expandos.specs.declared.properties.ExpandoProperty.{ExpandoProperty}
use Rattle.fast_check_meaning_expandos.specs.Assignments.{right_seen, missing_place, kept_property}
use Rattle.fast_check_meaning_expandos.specs.Expandos.{namespaces_seen}
use Rattle.fast_check_meaning_expandos.proofs.PropertiesMoved.{moved_expando}
use Rattle.fast_check_meaning_skeleton.specs.Visible.{properties_by_rule, item_properties}
use Rattle.fast_check_meaning_skeleton.proofs.AgreeingAssignments.{PropertiesAlike, namespaces_alike as all_namespaces_alike, more_properties}
use Rattle.fast_check_meaning_skeleton.proofs.AgreeingAssignments.{assignments_alike, properties_alike}
use Rattle.fast_check_meaning_skeleton.proofs.AgreeingImportsExports.{silent_import_export, imports_exports_alike}
use Rattle.fast_check_meaning_skeleton.proofs.AgreeingDefaults.{silent_default, defaults_alike}
use Rattle.fast_check_meaning_skeleton.specs.SameImportsExports as l
use Rattle.fast_check_meaning_skeleton.specs.Hidden as h
use Rattle.fast_check_meaning_skeleton.specs.Worlds.{SameFault, SameSkeleton}
use Rattle.fast_check_meaning_signatures.proofs.AnswersMoved.{moved_fault, moved_items, answer_of_moved}

-- ---- what is silent is not seen

module _ (facts : ModuleFacts) where
  not_public : (statement d : Tree) → is_public_declarator facts d ≡ false → public_declarator facts statement d ≡ []
  not_public statement d e = rw e refl

  no_declarators : (statement : Tree) (ds : List Tree) → list_all (λ d. not (is_public_declarator facts d)) ds ≡ true →
      flat_map (public_declarator facts statement) ds ≡ []
  no_declarators statement [] e = refl
  no_declarators statement (d ∷ ds) e =
      let b = both_true (not (is_public_declarator facts d)) (list_all (λ d. not (is_public_declarator facts d)) ds) e in
      ap₂ (λ xs ys. xs ++ ys) (not_public statement d (go (is_public_declarator facts d) b.0)) (no_declarators statement ds b.1)
    where
      go : (p : Bool) → not p ≡ true → p ≡ false
      go false e = refl
      go true e = cc

  abbrev pub rule_of : Tree → DeclRule
  rule_of t = decl_rule (kind_of t)

  -- what goes without a word as a declaration is one
  pub silent_declares : (p : SourceRange) (t : Tree) → IsSilentDecl facts p t → declares (rule_of t) ≡ true
  silent_declares p t (h.IsSilentDecl.variable k e) = ap (λ j. declares (decl_rule j)) k
  silent_declares p t (h.IsSilentDecl.standing s e) = ap declares (standing_rule (kind_of t) s)
  silent_declares p t (h.IsSilentDecl.function k e) = ap (λ j. declares (decl_rule j)) k
  silent_declares p t (h.IsSilentDecl.class k e) = ap (λ j. declares (decl_rule j)) k
  silent_declares p t (h.IsSilentDecl.using k e) = ap (λ j. declares (decl_rule j)) k
  silent_declares p t (h.IsSilentDecl.namespace k n e) = ap (λ j. declares (decl_rule j)) k

  silent_decl : (p : SourceRange) (t : Tree) → IsSilentDecl facts p t → decl_seen facts p t (rule_of t) ≡ []
  silent_decl p t (h.IsSilentDecl.variable k e) =
      ap (λ j. decl_seen facts p t (decl_rule j)) k ∙ ap (statement_seen t) (no_declarators t (parts (VarDecl-decls t)) e)
  silent_decl p t (h.IsSilentDecl.standing s e) =
      ap (decl_seen facts p t) (standing_rule (kind_of t) s) ∙ ap (λ b. if b then written t ∷ [] else []) e
  silent_decl p t (h.IsSilentDecl.function k e) =
      ap (λ j. decl_seen facts p t (decl_rule j)) k ∙ ap (λ b. if b then function_decl_seen facts p t ∷ [] else []) e
  silent_decl p t (h.IsSilentDecl.class k e) =
      ap (λ j. decl_seen facts p t (decl_rule j)) k ∙ ap (λ b. if b then class_decl_seen facts t ∷ [] else []) e
  silent_decl p t (h.IsSilentDecl.using k e) =
      ap (λ j. decl_seen facts p t (decl_rule j)) k ∙ ap (λ b. if b then faulty UnsupportedUsing (using_place t) ∷ [] else []) e
  silent_decl p t (h.IsSilentDecl.namespace k n e) = ap (λ j. decl_seen facts p t (decl_rule j)) k ∙ hidden_namespace facts p t n e

  item_of : (t : Tree) → declares (rule_of t) ≡ true → item_seen facts t ≡ decl_seen facts (range_of_node t) t (rule_of t)
  item_of t e = item_seen_is facts t ∙ ap (seen_by_rule facts t) (declared_rule (kind_of t) t e)

  export_of : (t : Tree) → kind_of t ≡ ExportDecl →
      item_seen facts t ≡ exported_seen t (decl_seen facts (ExportDecl-span t) (ExportDecl-decl t) (rule_of (ExportDecl-decl t)))
  export_of t e = item_seen_is facts t ∙ ap (λ k. seen_by_rule facts t (rule_of_kind k t)) e

  pub silent_item : (t : Tree) → IsSilent facts t → item_seen facts t ≡ []
  silent_item t (h.IsSilent.decl s) = item_of t (silent_declares (range_of_node t) t s) ∙ silent_decl (range_of_node t) t s
  silent_item t (h.IsSilent.statement s) = item_seen_is facts t ∙ ap (seen_by_rule facts t) (silent_rule t s)
  silent_item t (h.IsSilent.exported k s) = export_of t k ∙ ap (exported_seen t) (silent_decl (ExportDecl-span t) (ExportDecl-decl t) s)
  silent_item t (h.IsSilent.assigned k n e) =
      item_seen_is facts t ∙ (ap (seen_by_rule facts t) (assigned_rule t k n)
      ∙ ap (λ p. if p then tested (missing_place facts.objects (ExprStmt-expr t)) (right_seen facts.bindings (ExprStmt-expr t)) ∷
      [] else []) e)
  silent_item t (h.IsSilent.import_export s) = let e = silent_import_export facts t s in item_seen_is facts t ∙
      (ap (seen_by_rule facts t) e.is ∙ e.unseen)
  silent_item t (h.IsSilent.default s) = let e = silent_default facts t s in item_seen_is facts t ∙
      (ap (seen_by_rule facts t) e.is ∙ e.unseen)

  -- nor does it declare a property
  pub silent_properties : (t : Tree) → IsSilent facts t → item_properties facts t ≡ []
  silent_properties t (h.IsSilent.decl s) = ap (properties_by_rule facts t)
      (declared_rule (kind_of t) t (silent_declares (range_of_node t) t s))
  silent_properties t (h.IsSilent.statement s) = ap (properties_by_rule facts t) (silent_rule t s)
  silent_properties t (h.IsSilent.exported k s) = ap (λ j. properties_by_rule facts t (rule_of_kind j t)) k
  silent_properties t (h.IsSilent.assigned k n e) =
      ap (properties_by_rule facts t) (assigned_rule t k n)
      ∙ ap (λ p. if p && is_expando_assignment (ExprStmt-expr t) then kept_property facts.objects (AssignExpr-span (ExprStmt-expr t))
      (AssignExpr-left (ExprStmt-expr t)) (answer_to (right_seen facts.bindings (ExprStmt-expr t))).stays else []) e
  silent_properties t (h.IsSilent.import_export s) = ap (properties_by_rule facts t) (silent_import_export facts t s).is
  silent_properties t (h.IsSilent.default s) = ap (properties_by_rule facts t) (silent_default facts t s).is

  -- what is seen of the items of a body, one by one
  abbrev each_seen : List Tree → List Seen
  each_seen ts = flat_map (λ item. item_look item facts) ts

  abbrev each_declared : List Tree → List ExpandoProperty
  each_declared ts = flat_map (item_properties facts) ts

-- ---- what agrees is seen alike

module _ (r : Renaming) (ok : IsRenaming r) where
  module _ (a b : ModuleFacts) where
    -- ---- declarators

    of_ident : (facts : ModuleFacts) (mutability : DeclMutabilityKind) (d : Tree) → kind_of (VarDeclarator-name d) ≡ BindingIdent →
        declarator_seen facts mutability d ≡ ident_declarator_seen facts mutability d
    of_ident facts mutability d e =
        ap (λ k. if k is BindingIdent then ident_declarator_seen facts mutability d else faulty UnsupportedDestructuring
        (range_of_node (VarDeclarator-name d))) e

    of_pattern : (facts : ModuleFacts) (mutability : DeclMutabilityKind) (d : Tree) →
        kind_of (VarDeclarator-name d) is BindingIdent ≡ false →
        declarator_seen facts mutability d ≡ faulty UnsupportedDestructuring (range_of_node (VarDeclarator-name d))
    of_pattern facts mutability d e =
        ap (λ b. if b then ident_declarator_seen facts mutability d else faulty UnsupportedDestructuring
        (range_of_node (VarDeclarator-name d))) e

    head_alike : (t u : Tree) → SameHead r a b t u → moved_declarator (partners r) (declarator_head t) ≡ moved_declarator twice
        (declarator_head u)
    head_alike t u d = λ i. record {
      span = range_to r ok (VarDeclarator-span t) (VarDeclarator-span u) d.span i;
      ident = tree_to r ok d.ident i;
      definite = d.definite i;
    }

    typed_alike : (t u x y : Tree) → SameHead r a b t u → TreeAlike r ok x y →
        Alike r ok (written (typed_declarator (declarator_head t) x)) (written (typed_declarator (declarator_head u) y))
    typed_alike t u x y d e =
        let parts_of : Tree → Tree → List Tree =
        λ v type. tree.Range (VarDeclarator-span v) ∷ binding_ident (declared_ident v) type ∷ never_value ∷
        tree.Flag (VarDeclarator-definite v) ∷ [] in
        written_alike r ok _ _ (node_alike r ok VarDeclarator (parts_of t x) (parts_of u y)
        (λ i. range_leaf_alike r ok (VarDeclarator-span t) (VarDeclarator-span u)
        (range_to r ok (VarDeclarator-span t) (VarDeclarator-span u) d.span) i ∷
        node_alike r ok BindingIdent (declared_ident t ∷ x ∷ []) (declared_ident u ∷ y ∷ []) (λ j. tree_to r ok d.ident j ∷ e j ∷ []) i ∷
        new_alike r ok never_value never_value_moved i ∷ flag_leaf_alike r ok (VarDeclarator-definite t)
        (VarDeclarator-definite u) d.definite i ∷ []))

    ident_place : (t u : Tree) → SameTree r t u → SameRange r (Ident-span t) (Ident-span u)
    ident_place t u s = range_from r ok (Ident-span t) (Ident-span u) (range_field_alike r ok Ident-span _ (λ t. refl) t u (tree_to r ok s))

    value_alike : SameBindings r a.bindings b.bindings → (p q : SourceRange) (t u : Tree) → SameRange r p q →
        SameValue r a.bindings b.bindings t u → Alike r ok (value_seen a p t) (value_seen b q u)
    value_alike c p q t u s (v.SameValue.no_values x y) =
        alike_if r ok (is_absent t) (is_absent u) refused (expr_seen a.bindings t (Some p)) refused (expr_seen b.bindings u (Some q))
        (x ∙ sym y) (λ g. refl) (λ g. cc)
    value_alike c p q t u s (v.SameValue.kept f) =
        alike_if r ok (is_absent t) (is_absent u) refused (expr_seen a.bindings t (Some p)) refused (expr_seen b.bindings u (Some q))
        (expr_absent r ok a.bindings b.bindings f) (λ e. refl)
        (λ e. expr_alike r ok a.bindings b.bindings c f (Some p) (Some q) (ap Some (range_to r ok p q s)))

    abbrev with_type : Tree → Tree → Seen
    with_type d type = written (typed_declarator (declarator_head d) type)

    abbrev untyped : ModuleFacts → Tree → Seen
    untyped facts d = declarator (declarator_head d) (value_seen facts (Ident-span (declared_ident d)) (VarDeclarator-init d))

    declarator_alike : SameBindings r a.bindings b.bindings → (mutability : DeclMutabilityKind) {t u : Tree} →
        SameDeclarator r a b mutability t u →
        Alike r ok (declarator_seen a mutability t) (declarator_seen b mutability u)
    declarator_alike c mutability (h.SameDeclarator.given {t = t} {u = u} d types) =
        subst₂ (Alike r ok) (sym (of_ident a mutability t d.names.left)) (sym (of_ident b mutability u d.names.right))
        (given_alike r ok (with_type t) (with_type u) (untyped a t) (untyped b u) types (λ x y e. typed_alike t u x y d e))
    declarator_alike c mutability (h.SameDeclarator.kept {t = t} {u = u} d none x) =
        let value = value_alike c (Ident-span (declared_ident t)) (Ident-span (declared_ident u)) (VarDeclarator-init t)
        (VarDeclarator-init u) (ident_place (declared_ident t) (declared_ident u) d.ident) x in
        subst₂ (Alike r ok) (sym (of_ident a mutability t d.names.left)) (sym (of_ident b mutability u d.names.right))
        (none_alike r ok (with_type t) (with_type u) (untyped a t) (untyped b u) none
        (λ i. declarator (head_alike t u d i) (value i)))
    declarator_alike c mutability (h.SameDeclarator.destructured {t = t} {u = u} n s) =
        subst₂ (Alike r ok) (sym (of_pattern a mutability t n.left)) (sym (of_pattern b mutability u n.right))
        (ap (faulty UnsupportedDestructuring) (range_to r ok _ _ s))

    declarators_alike : (Same : Tree → Tree → Type 0) (s s' : Tree) →
        ((t u : Tree) → Same t u → Alike r ok (declarator_in a s t) (declarator_in b s' u)) →
        (ts us : List Tree) → SameDeclarators r a b Same ts us →
        AllAlike r ok (flat_map (public_declarator a s) ts) (flat_map (public_declarator b s') us)
    declarators_alike Same s s' f [] [] l.SamePublic.end = refl
    declarators_alike Same s s' f (t ∷ ts) us (l.SamePublic.left q rest) =
        subst (λ xs. AllAlike r ok (xs ++ flat_map (public_declarator a s) ts) (flat_map (public_declarator b s') us))
        (sym (not_public a s t q))
        (declarators_alike Same s s' f ts us rest)
    declarators_alike Same s s' f ts (u ∷ us) (l.SamePublic.right q rest) =
        subst (λ xs. AllAlike r ok (flat_map (public_declarator a s) ts) (xs ++ flat_map (public_declarator b s') us))
        (sym (not_public b s' u q))
        (declarators_alike Same s s' f ts us rest)
    declarators_alike Same s s' f (t ∷ ts) (u ∷ us) (l.SamePublic.next e x rest) =
        append_alike r ok (public_declarator a s t) (flat_map (public_declarator a s) ts) (public_declarator b s' u)
        (flat_map (public_declarator b s') us)
        (all_alike_if r ok (is_public_declarator a t) (is_public_declarator b u) (declarator_in a s t) (declarator_in b s' u) e (f t u x))
        (declarators_alike Same s s' f ts us rest)

    -- ---- statements

    statement_alike : (t u : Tree) (xs ys : List Seen) → SameStatement r a b t u → AllAlike r ok xs ys →
        AllAlike r ok (statement_seen t xs) (statement_seen u ys)
    statement_alike t u [] [] d p = refl
    statement_alike t u (x ∷ xs) (y ∷ ys) d p =
        ap (λ s. s ∷ []) (round_alike r ok VarDecl
        (range (VarDecl-span t) ∷ scope (VarDecl-ctxt t) ∷ written (VarDecl-kind t) ∷ flag (VarDecl-declare t) ∷ listed (seens (x ∷ xs)) ∷
        [])
        (range (VarDecl-span u) ∷ scope (VarDecl-ctxt u) ∷ written (VarDecl-kind u) ∷ flag (VarDecl-declare u) ∷ listed (seens (y ∷ ys)) ∷
        [])
        (λ i. range_alike r ok (VarDecl-span t) (VarDecl-span u) d.span i ∷ scope_alike r ok (VarDecl-ctxt t) (VarDecl-ctxt u) d.ctxt i ∷
        same_written r ok d.kind i ∷ flag_alike r ok (VarDecl-declare t) (VarDecl-declare u) d.declare i ∷
        listed_alike r ok (x ∷ xs) (y ∷ ys) p i ∷ []))
    statement_alike t u [] (y ∷ ys) d p = cc
    statement_alike t u (x ∷ xs) [] d p = cc

    const_alike : (t u : Tree) → SameTree r t u → has_word ConstWord t ≡ has_word ConstWord u
    const_alike t u s = sym (has_word_moved (partners r) ConstWord t) ∙
        (ap (has_word ConstWord) (tree_to r ok s) ∙ has_word_moved twice ConstWord u)

    mutability_alike : (t u : Tree) → SameTree r t u → mutability_of t ≡ mutability_of u
    mutability_alike t u s = ap (λ c. if c then Const else Mutable) (const_alike t u s)

    ambient_alike : (t u : Tree) → a.is_ambient ≡ b.is_ambient → VarDecl-declare t ≡ VarDecl-declare u →
        is_ambient_statement a t ≡ is_ambient_statement b u
    ambient_alike t u e f = ap₂ (λ x y. x || y) e f

    -- ---- functions

    -- what is seen of a function that is no implementation
    abbrev here : ModuleFacts → Tree → Seen
    here facts t = function_seen facts.bindings (expr_seen facts.bindings) DeclarationLike (Ident-span (FnDecl-ident t))
        (FnDecl-function t)

    abbrev signature_if : ModuleFacts → Tree → Bool → Seen → Seen
    signature_if facts t is_implementation seen = if is_implementation then implementation_seen (FnDecl-function t) else seen

    abbrev function_form : ModuleFacts → SourceRange → Tree → Seen
    function_form facts p t = round FnDecl (seens (written (FnDecl-ident t) ∷ flag (FnDecl-declare t) ∷ signature_of facts p t ∷ []))

    declared_function : (p q : SourceRange) (t u : Tree) → a.is_ambient ≡ b.is_ambient → SameFunctionDecl r a b p q t u →
        Alike r ok (signature_of a p t) (signature_of b q u) →
        Alike r ok (function_decl_seen a p t) (function_decl_seen b q u)
    declared_function p q t u m d s =
        let same : Alike r ok (function_form a p t) (function_form b q u) =
        round_alike r ok FnDecl (written (FnDecl-ident t) ∷ flag (FnDecl-declare t) ∷ signature_of a p t ∷ [])
        (written (FnDecl-ident u) ∷ flag (FnDecl-declare u) ∷ signature_of b q u ∷ [])
        (λ i. same_written r ok d.ident i ∷ flag_alike r ok (FnDecl-declare t) (FnDecl-declare u) d.declare i ∷ s i ∷ []) in
        subst₂ (λ x y. Alike r ok (if x then written t else function_form a p t) (if y then written u else function_form b q u))
        (sym d.is_ambient)
        (sym d.is_ambient ∙ m) same

    public_alike : (p q : SourceRange) (t u : Tree) → a.is_public p ≡ b.is_public q →
        Alike r ok (function_decl_seen a p t) (function_decl_seen b q u) →
        AllAlike r ok (public_function a p t) (public_function b q u)
    public_alike p q t u e s = all_alike_if r ok (a.is_public p) (b.is_public q) (function_decl_seen a p t) (function_decl_seen b q u) e s

    -- ---- classes

    pub ambient_class_same : (t u : Tree) → a.is_ambient ≡ b.is_ambient → ClassDecl-declare t ≡ ClassDecl-declare u →
        is_ambient_class a t ≡ is_ambient_class b u
    ambient_class_same t u e f = ap₂ (λ x y. x || y) e f

    abbrev class_if : ModuleFacts → Tree → Bool → Seen
    class_if facts t is_ambient' =
        if is_ambient' then written (ambient_class (ClassDecl-class t)) else plain_class_seen facts.bindings facts.is_implementation
        (ClassDecl-class t)

    classes_alike : (p q : SourceRange) (t u : Tree) → SameClassDecl r a b t u → a.is_public p ≡ b.is_public q →
        Alike r ok (class_in a t) (class_in b u) →
        AllAlike r ok (public_class a p t) (public_class b q u)
    classes_alike p q t u d e s = all_alike_if r ok (a.is_public p) (b.is_public q) (class_decl_seen a t) (class_decl_seen b u) e
        (round_alike r ok ClassDecl (written (ClassDecl-ident t) ∷ flag (ClassDecl-declare t) ∷ class_in a t ∷ [])
        (written (ClassDecl-ident u) ∷ flag (ClassDecl-declare u) ∷ class_in b u ∷ [])
        (λ i. same_written r ok d.ident i ∷ flag_alike r ok (ClassDecl-declare t) (ClassDecl-declare u) d.declare i ∷ s i ∷ []))

    -- both are taken, and what is seen is alike
    record DeclsAlike (p q : SourceRange) (t u : Tree) : Type 0 where
      left : declares (decl_rule (kind_of t)) ≡ true
      right : declares (decl_rule (kind_of u)) ≡ true
      alike : AllAlike r ok (decl_seen a p t (decl_rule (kind_of t))) (decl_seen b q u (decl_rule (kind_of u)))

    by_rule : (p q : SourceRange) (t u : Tree) (rule : DeclRule) → decl_rule (kind_of t) ≡ rule → decl_rule (kind_of u) ≡ rule →
        declares rule ≡ true → AllAlike r ok (decl_seen a p t rule) (decl_seen b q u rule) → DeclsAlike p q t u
    by_rule p q t u rule e f taken s = record {
      left = ap declares e ∙ taken;
      right = ap declares f ∙ taken;
      alike = subst₂ (λ x y. AllAlike r ok (decl_seen a p t x) (decl_seen b q u y)) (sym e) (sym f) s;
    }

    of_functions : (p q : SourceRange) (t u : Tree) → Both FnDecl t u → AllAlike r ok (public_function a p t) (public_function b q u) →
        DeclsAlike p q t u
    of_functions p q t u k s = by_rule p q t u Function (ap decl_rule k.left) (ap decl_rule k.right) refl s

    of_classes : (p q : SourceRange) (t u : Tree) → Both ClassDecl t u → AllAlike r ok (public_class a p t) (public_class b q u) →
        DeclsAlike p q t u
    of_classes p q t u k s = by_rule p q t u Class (ap decl_rule k.left) (ap decl_rule k.right) refl s

    of_variables : (p q : SourceRange) (t u : Tree) (Same : Tree → Tree → Type 0) → SameStatement r a b t u →
        ((x y : Tree) → Same x y → Alike r ok (declarator_in a t x) (declarator_in b u y)) →
        SameDeclarators r a b Same (parts (VarDecl-decls t)) (parts (VarDecl-decls u)) → DeclsAlike p q t u
    of_variables p q t u Same d go rest =
        by_rule p q t u Variables (ap decl_rule d.kinds.left) (ap decl_rule d.kinds.right) refl
        (statement_alike t u (public_declarators a t) (public_declarators b u) d
        (declarators_alike Same t u go (parts (VarDecl-decls t)) (parts (VarDecl-decls u)) rest))

    abbrev declared_as : Tree → DeclMutabilityKind
    declared_as statement = mutability_of (VarDecl-kind statement)

    decl_alike : SameBindings r a.bindings b.bindings → a.is_ambient ≡ b.is_ambient →
        (p q : SourceRange) (t u : Tree) → SameDecl r a b p q t u → DeclsAlike p q t u
    decl_alike c m p q t u (h.SameDecl.variable d n rest) = of_variables p q t u (SameDeclarator r a b (declared_as t)) d go rest
      where
        go : (x y : Tree) → SameDeclarator r a b (declared_as t) x y → Alike r ok (declarator_in a t x) (declarator_in b u y)
        go x y s = alike_if r ok (is_ambient_statement a t) (is_ambient_statement b u)
            (written x) (declarator_seen a (declared_as t) x) (written y) (declarator_seen b (declared_as u) y)
            (ambient_alike t u m d.declare) (λ e. cc)
            (λ f. subst (λ k. Alike r ok (declarator_seen a (declared_as t) x) (declarator_seen b k y))
            (mutability_alike (VarDecl-kind t) (VarDecl-kind u) d.kind) (declarator_alike c (declared_as t) s))
    decl_alike c m p q t u (h.SameDecl.ambient d n rest) = of_variables p q t u (SameTree r) d go rest
      where
        go : (x y : Tree) → SameTree r x y → Alike r ok (declarator_in a t x) (declarator_in b u y)
        go x y s = alike_if r ok (is_ambient_statement a t) (is_ambient_statement b u)
            (written x) (declarator_seen a (declared_as t) x) (written y) (declarator_seen b (declared_as u) y)
            (ambient_alike t u m d.declare) (λ e. same_written r ok s) (λ e. cc)
    decl_alike c m p q t u (h.SameDecl.standing k d s e f) =
        by_rule p q t u Standing (standing_rule (kind_of t) (ap is_standing d.left ∙ s))
        (standing_rule (kind_of u) (ap is_standing d.right ∙ s)) refl
        (all_alike_if r ok (a.is_public p) (b.is_public q) (written t) (written u) e (same_written r ok f))
    decl_alike c m p q t u (h.SameDecl.function d e f g) =
        of_functions p q t u d.kinds (public_alike p q t u d.is_public (declared_function p q t u m d
        (subst₂ (λ x y. Alike r ok (signature_if a t x (here a t)) (signature_if b u y (here b u))) (sym e) (sym f)
        (function_alike r ok a.bindings b.bindings c g DeclarationLike (Ident-span (FnDecl-ident t)) (Ident-span (FnDecl-ident u))
        (range_to r ok (Ident-span (FnDecl-ident t)) (Ident-span (FnDecl-ident u))
        (ident_place (FnDecl-ident t) (FnDecl-ident u) d.ident))))))
    decl_alike c m p q t u (h.SameDecl.implementation d e f g) =
        of_functions p q t u d.kinds (public_alike p q t u d.is_public (declared_function p q t u m d
        (subst₂ (λ x y. Alike r ok (signature_if a t x (here a t)) (signature_if b u y (here b u))) (sym e) (sym f)
        (implementation_alike r ok a.bindings b.bindings (FnDecl-function t) (FnDecl-function u) g))))
    decl_alike c m p q t u (h.SameDecl.ambient_function k e f s) =
        of_functions p q t u k (public_alike p q t u e
        (subst₂ (λ x y. Alike r ok (if x then written t else function_form a p t) (if y then written u else function_form b q u))
        (sym f) (sym f ∙ m) (same_written r ok s)))
    decl_alike c m p q t u (h.SameDecl.class d e n s) =
        let n' = sym (ambient_class_same t u m d.declare) ∙ n in
        of_classes p q t u d.kinds (classes_alike p q t u d e (subst₂ (λ x y. Alike r ok (class_if a t x) (class_if b u y)) (sym n) (sym n')
        (class_alike r ok a.bindings b.bindings a.is_implementation b.is_implementation c (ClassDecl-class t) (ClassDecl-class u) s)))
    decl_alike c m p q t u (h.SameDecl.ambient_class d e n s) =
        let n' = sym (ambient_class_same t u m d.declare) ∙ n in
        of_classes p q t u d.kinds (classes_alike p q t u d e (subst₂ (λ x y. Alike r ok (class_if a t x) (class_if b u y)) (sym n) (sym n')
        (written_alike r ok _ _ (ambient_class_alike r ok a.bindings b.bindings a.is_implementation b.is_implementation (ClassDecl-class t)
        (ClassDecl-class u) s))))
    decl_alike c m p q t u (h.SameDecl.using k d e s) =
        by_rule p q t u Using (ap decl_rule k.left) (ap decl_rule k.right) refl
        (all_alike_if r ok (is_public_using a p t) (is_public_using b q u) (faulty UnsupportedUsing (using_place t))
        (faulty UnsupportedUsing (using_place u)) e
        (faulty_alike r ok UnsupportedUsing (using_place t) (using_place u) (range_to r ok (using_place t) (using_place u) s)))
    decl_alike c m p q t u (h.SameDecl.global k e f s) =
        by_rule p q t u Namespace (ap decl_rule k.left) (ap decl_rule k.right) refl
        (subst₂ (AllAlike r ok) (sym (global_is a p t e)) (sym (global_is b q u f))
        (ap (λ x. x ∷ []) (faulty_alike r ok UnsupportedGlobalModule (TsModuleDecl-span t) (TsModuleDecl-span u)
        (range_to r ok (TsModuleDecl-span t) (TsModuleDecl-span u) s))))
    decl_alike c m p q t u (h.SameDecl.ambient_module k e f n n' s s') =
        let place = range_of_node (TsModuleDecl-id t) in
        let place' = range_of_node (TsModuleDecl-id u) in
        by_rule p q t u Namespace (ap decl_rule k.left) (ap decl_rule k.right) refl
        (subst₂ (AllAlike r ok) (sym (ambient_module_is a p t e n)) (sym (ambient_module_is b q u f n'))
        (ap (λ x. x ∷ []) (faulty_alike r ok UnsupportedAmbientModule place place' (range_to r ok place place' s'))))

    -- declarations that agree are taken
    pub decl_taken : SameBindings r a.bindings b.bindings → a.is_ambient ≡ b.is_ambient →
        (p q : SourceRange) (t u : Tree) → SameDecl r a b p q t u →
        (declares (decl_rule (kind_of t)) ≡ true) × (declares (decl_rule (kind_of u)) ≡ true)
    decl_taken c m p q t u d = let e = decl_alike c m p q t u d in (e.left, e.right)

    -- ---- items

    exported_alike : (t u : Tree) (xs ys : List Seen) → SameRange r (ExportDecl-span t) (ExportDecl-span u) → AllAlike r ok xs ys →
        AllAlike r ok (exported_seen t xs) (exported_seen u ys)
    exported_alike t u [] [] s p = refl
    exported_alike t u (x ∷ xs) (y ∷ ys) s p =
        ap (λ f. f ∷ []) (round_alike r ok ExportDecl (range (ExportDecl-span t) ∷ x ∷ xs) (range (ExportDecl-span u) ∷ y ∷ ys)
        (λ i. range_alike r ok (ExportDecl-span t) (ExportDecl-span u) s i ∷ p i))
    exported_alike t u [] (y ∷ ys) s p = cc
    exported_alike t u (x ∷ xs) [] s p = cc

    -- ---- namespaces

    namespace_alike : (p q : SourceRange) (t u : Tree) → SameNamespaceHead r a b p q t u →
        Alike r ok (body_round (body_seen item_look (inside a t) (items_inside t)) (TsModuleDecl-body t))
        (body_round (body_seen item_look (inside b u) (items_inside u)) (TsModuleDecl-body u)) →
        AllAlike r ok (namespace_seen item_look a p t) (namespace_seen item_look b q u)
    namespace_alike p q t u d e =
        subst₂ (AllAlike r ok) (sym (namespace_if a p t d.namespaces.0)) (sym (namespace_if b q u d.namespaces.1))
        (all_alike_if r ok (a.is_public p) (b.is_public q) _ _ d.public (round_alike r ok TsModuleDecl
        (range (TsModuleDecl-span t) ∷ flag (TsModuleDecl-declare t) ∷ flag (TsModuleDecl-global t) ∷ flag (TsModuleDecl-namespace t) ∷
        written (TsModuleDecl-id t) ∷ body_round (body_seen item_look (inside a t) (items_inside t)) (TsModuleDecl-body t) ∷ [])
        (range (TsModuleDecl-span u) ∷ flag (TsModuleDecl-declare u) ∷ flag (TsModuleDecl-global u) ∷ flag (TsModuleDecl-namespace u) ∷
        written (TsModuleDecl-id u) ∷ body_round (body_seen item_look (inside b u) (items_inside u)) (TsModuleDecl-body u) ∷ [])
        (λ i. range_alike r ok (TsModuleDecl-span t) (TsModuleDecl-span u) d.span i ∷
        flag_alike r ok (TsModuleDecl-declare t) (TsModuleDecl-declare u) d.declare i ∷
        flag_alike r ok (TsModuleDecl-global t) (TsModuleDecl-global u) (no_global t d.namespaces.0 ∙ sym (no_global u d.namespaces.1)) i ∷
        flag_alike r ok (TsModuleDecl-namespace t) (TsModuleDecl-namespace u) d.namespace i ∷ same_written r ok d.id i ∷ e i ∷ [])))

    -- a namespace is an item of its own
    namespace_of : (facts : ModuleFacts) (t : Tree) → kind_of t ≡ TsModuleDecl →
        item_seen facts t ≡ namespace_seen item_look facts (range_of_node t) t
    namespace_of facts t k =
        item_of facts t (ap (λ j. declares (decl_rule j)) k) ∙ ap (λ j. decl_seen facts (range_of_node t) t (decl_rule j)) k

    exported_namespace_of : (facts : ModuleFacts) (t : Tree) → kind_of t ≡ ExportDecl → kind_of (ExportDecl-decl t) ≡ TsModuleDecl →
        item_seen facts t ≡ exported_seen t (namespace_seen item_look facts (ExportDecl-span t) (ExportDecl-decl t))
    exported_namespace_of facts t k n =
        export_of facts t k ∙ ap (λ j. exported_seen t (decl_seen facts (ExportDecl-span t) (ExportDecl-decl t) (decl_rule j))) n

  block_alike : (t u : Tree) (xs ys : List Seen) → SameRange r (TsModuleBlock-span t) (TsModuleBlock-span u) → AllAlike r ok xs ys →
      Alike r ok (block_round t xs) (block_round u ys)
  block_alike t u xs ys s e =
      round_alike r ok TsModuleBlock (range (TsModuleBlock-span t) ∷ listed (seens xs) ∷ [])
      (range (TsModuleBlock-span u) ∷ listed (seens ys) ∷ [])
      (λ i. range_alike r ok (TsModuleBlock-span t) (TsModuleBlock-span u) s i ∷ listed_alike r ok xs ys e i ∷ [])

  inner_alike : (t u : Tree) (x y : Seen) → SameInnerHead r t u → Alike r ok x y → Alike r ok (inner_round t x) (inner_round u y)
  inner_alike t u x y d e =
      round_alike r ok TsNamespaceDecl
      (range (TsNamespaceDecl-span t) ∷ flag (TsNamespaceDecl-declare t) ∷ flag (TsNamespaceDecl-global t) ∷
      written (TsNamespaceDecl-id t) ∷ x ∷ [])
      (range (TsNamespaceDecl-span u) ∷ flag (TsNamespaceDecl-declare u) ∷ flag (TsNamespaceDecl-global u) ∷
      written (TsNamespaceDecl-id u) ∷ y ∷ [])
      (λ i. range_alike r ok (TsNamespaceDecl-span t) (TsNamespaceDecl-span u) d.span i ∷
      flag_alike r ok (TsNamespaceDecl-declare t) (TsNamespaceDecl-declare u) d.declare i ∷
      flag_alike r ok (TsNamespaceDecl-global t) (TsNamespaceDecl-global u) d.global i ∷ same_written r ok d.id i ∷ e i ∷ [])

  pub namespace_kinds : {a b : ModuleFacts} {p q : SourceRange} {t u : Tree} → SameNamespace r a b p q t u → Both TsModuleDecl t u
  namespace_kinds (h.SameNamespace.bodies d s) = d.kinds

  -- the properties that items declare which agree
  no_properties : (a b : ModuleFacts) (t u : Tree) → item_properties a t ≡ [] → item_properties b u ≡ [] →
      PropertiesAlike r ok (item_properties a t) (item_properties b u)
  no_properties a b t u e f = ap (map (moved_expando (partners r))) e ∙ sym (ap (map (moved_expando twice)) f)

  declared_alike : {a b : ModuleFacts} {t u : Tree} → SameBindings r a.bindings b.bindings → a.is_ambient ≡ b.is_ambient →
      SameItem r a b t u →
      PropertiesAlike r ok (item_properties a t) (item_properties b u)
  declared_alike c m (h.SameItem.decl {a = a} {b = b} {t = t} {u = u} d) =
      let e = decl_taken a b c m (range_of_node t) (range_of_node u) t u d in
      no_properties a b t u (ap (properties_by_rule a t) (declared_rule (kind_of t) t e.0))
      (ap (properties_by_rule b u) (declared_rule (kind_of u) u e.1))
  declared_alike c m (h.SameItem.exported {a = a} {b = b} {t = t} {u = u} k s d) =
      no_properties a b t u (ap (λ j. properties_by_rule a t (rule_of_kind j t)) k.left)
      (ap (λ j. properties_by_rule b u (rule_of_kind j u)) k.right)
  declared_alike c m (h.SameItem.namespace {a = a} {b = b} {t = t} {u = u} d) =
      let k = namespace_kinds d in
      no_properties a b t u (ap (properties_by_rule a t) (namespace_rule t k.left)) (ap (properties_by_rule b u) (namespace_rule u k.right))
  declared_alike c m (h.SameItem.exported_namespace {a = a} {b = b} {t = t} {u = u} k s d) =
      no_properties a b t u (ap (λ j. properties_by_rule a t (rule_of_kind j t)) k.left)
      (ap (λ j. properties_by_rule b u (rule_of_kind j u)) k.right)
  declared_alike c m (h.SameItem.import_export {a = a} {b = b} {t = t} {u = u} d) =
      let e = imports_exports_alike r ok a b t u d in
      no_properties a b t u (ap (properties_by_rule a t) e.left) (ap (properties_by_rule b u) e.right)
  declared_alike c m (h.SameItem.default {a = a} {b = b} {t = t} {u = u} d) =
      let e = defaults_alike r ok a b c m t u d in
      no_properties a b t u (ap (properties_by_rule a t) e.left) (ap (properties_by_rule b u) e.right)
  declared_alike c m (h.SameItem.assigned {a = a} {b = b} {t = t} {u = u} d) =
      subst₂ (λ x y. PropertiesAlike r ok (properties_by_rule a t x) (properties_by_rule b u y))
      (sym (assigned_rule t d.kinds.left d.assignments.kinds.left))
      (sym (assigned_rule u d.kinds.right d.assignments.kinds.right))
      (properties_alike r ok a b (ExprStmt-expr t) (ExprStmt-expr u) d.assignments c)
  declared_alike c m (h.SameItem.refused {a = a} {b = b} {t = t} {u = u} kind e f s) =
      no_properties a b t u (ap (properties_by_rule a t) e) (ap (properties_by_rule b u) f)

  all_declared_alike : {a b : ModuleFacts} {ts us : List Tree} → SameBindings r a.bindings b.bindings → a.is_ambient ≡ b.is_ambient →
      SameItems r a b ts us → PropertiesAlike r ok (each_declared a ts) (each_declared b us)
  all_declared_alike c m h.SameItems.end = refl
  all_declared_alike c m (h.SameItems.left {a = a} {b = b} {t = t} {ts = ts} {us = us} q n rest) =
      subst (λ xs. PropertiesAlike r ok (xs ++ each_declared a ts) (each_declared b us)) (sym (silent_properties a t q))
      (all_declared_alike c m rest)
  all_declared_alike c m (h.SameItems.right {a = a} {b = b} {u = u} {ts = ts} {us = us} q n rest) =
      subst (λ xs. PropertiesAlike r ok (each_declared a ts) (xs ++ each_declared b us)) (sym (silent_properties b u q))
      (all_declared_alike c m rest)
  all_declared_alike c m (h.SameItems.next {a = a} {b = b} {t = t} {u = u} {ts = ts} {us = us} s rest) =
      more_properties r ok (item_properties a t) (each_declared a ts) (item_properties b u) (each_declared b us) (declared_alike c m s)
      (all_declared_alike c m rest)

  with_namespaces : (a b : ModuleFacts) (ts us : List Tree) → AllAlike r ok (each_seen a ts) (each_seen b us) →
      PropertiesAlike r ok (each_declared a ts) (each_declared b us) → AllAlike r ok (body_seen item_look a ts) (body_seen item_look b us)
  with_namespaces a b ts us e f =
      append_alike r ok (each_seen a ts) (namespaces_seen (each_declared a ts)) (each_seen b us) (namespaces_seen (each_declared b us)) e
      (all_namespaces_alike r ok (each_declared a ts) (each_declared b us) f)

  mutual
    pub item_alike : {a b : ModuleFacts} {t u : Tree} → SameBindings r a.bindings b.bindings → a.is_ambient ≡ b.is_ambient →
        SameItem r a b t u → AllAlike r ok (item_seen a t) (item_seen b u)
    item_alike c m (h.SameItem.decl {a = a} {b = b} {t = t} {u = u} d) =
        let e = decl_alike a b c m (range_of_node t) (range_of_node u) t u d in
        subst₂ (AllAlike r ok) (sym (item_of a t e.left)) (sym (item_of b u e.right)) e.alike
    item_alike c m (h.SameItem.exported {a = a} {b = b} {t = t} {u = u} k s d) =
        subst₂ (AllAlike r ok) (sym (export_of a t k.left)) (sym (export_of b u k.right))
        (exported_alike a b t u (decl_seen a (ExportDecl-span t) (ExportDecl-decl t) (decl_rule (kind_of (ExportDecl-decl t))))
        (decl_seen b (ExportDecl-span u) (ExportDecl-decl u) (decl_rule (kind_of (ExportDecl-decl u)))) s
        (decl_alike a b c m (ExportDecl-span t) (ExportDecl-span u) (ExportDecl-decl t) (ExportDecl-decl u) d).alike)
    item_alike c m (h.SameItem.namespace {a = a} {b = b} {t = t} {u = u} d) =
        let k = namespace_kinds d in
        subst₂ (AllAlike r ok) (sym (namespace_of a b a t k.left)) (sym (namespace_of a b b u k.right)) (namespaces_alike c m d)
    item_alike c m (h.SameItem.exported_namespace {a = a} {b = b} {t = t} {u = u} k s d) =
        let n = namespace_kinds d in
        subst₂ (AllAlike r ok) (sym (exported_namespace_of a b a t k.left n.left)) (sym (exported_namespace_of a b b u k.right n.right))
        (exported_alike a b t u (namespace_seen item_look a (ExportDecl-span t) (ExportDecl-decl t))
        (namespace_seen item_look b (ExportDecl-span u) (ExportDecl-decl u)) s (namespaces_alike c m d))
    item_alike c m (h.SameItem.import_export {a = a} {b = b} {t = t} {u = u} d) =
        let e = imports_exports_alike r ok a b t u d in
        subst₂ (AllAlike r ok) (sym (item_seen_is a t)) (sym (item_seen_is b u))
        (subst₂ (λ x y. AllAlike r ok (seen_by_rule a t x) (seen_by_rule b u y)) (sym e.left) (sym e.right) e.alike)
    item_alike c m (h.SameItem.default {a = a} {b = b} {t = t} {u = u} d) =
        let e = defaults_alike r ok a b c m t u d in
        subst₂ (AllAlike r ok) (sym (item_seen_is a t)) (sym (item_seen_is b u))
        (subst₂ (λ x y. AllAlike r ok (seen_by_rule a t x) (seen_by_rule b u y)) (sym e.left) (sym e.right) e.alike)
    item_alike c m (h.SameItem.assigned {a = a} {b = b} {t = t} {u = u} d) =
        subst₂ (AllAlike r ok) (sym (item_seen_is a t)) (sym (item_seen_is b u))
        (subst₂ (λ x y. AllAlike r ok (seen_by_rule a t x) (seen_by_rule b u y))
        (sym (assigned_rule t d.kinds.left d.assignments.kinds.left))
        (sym (assigned_rule u d.kinds.right d.assignments.kinds.right))
        (assignments_alike r ok a b (ExprStmt-expr t) (ExprStmt-expr u) d.assignments c))
    item_alike c m (h.SameItem.refused {a = a} {b = b} {t = t} {u = u} kind e f s) =
        subst₂ (AllAlike r ok) (sym (item_seen_is a t)) (sym (item_seen_is b u))
        (subst₂ (λ x y. AllAlike r ok (seen_by_rule a t x) (seen_by_rule b u y)) (sym e) (sym f)
        (ap (λ x. faulty kind x ∷ []) (range_to r ok (range_of_node t) (range_of_node u) s)))

    namespaces_alike : {a b : ModuleFacts} {p q : SourceRange} {t u : Tree} → SameBindings r a.bindings b.bindings →
        a.is_ambient ≡ b.is_ambient →
        SameNamespace r a b p q t u → AllAlike r ok (namespace_seen item_look a p t) (namespace_seen item_look b q u)
    namespaces_alike c m (h.SameNamespace.bodies {a = a} {b = b} {p = p} {q = q} {t = t} {u = u} d s) =
        namespace_alike a b p q t u d (body_alike c (ap₂ (λ x y. x || y) m d.declare) s)

    body_alike : {a b : ModuleFacts} {t u : Tree} → SameBindings r a.bindings b.bindings → a.is_ambient ≡ b.is_ambient →
        SameBody r a b t u → Alike r ok (body_round (body_seen item_look a (block_items (innermost t))) t)
        (body_round (body_seen item_look b (block_items (innermost u))) u)
    body_alike c m (h.SameBody.block {a = a} {b = b} {t = t} {u = u} n s rest) =
        subst₂ (Alike r ok) (sym (body_of_block (body_seen item_look a) t n.left)) (sym (body_of_block (body_seen item_look b) u n.right))
        (block_alike t u (body_seen item_look a (block_items t)) (body_seen item_look b (block_items u)) s
        (with_namespaces a b (block_items t) (block_items u) (each_alike c m rest) (all_declared_alike c m rest)))
    body_alike c m (h.SameBody.inner {a = a} {b = b} {t = t} {u = u} d s) =
        subst₂ (Alike r ok) (sym (body_of_inner (body_seen item_look a) t (ap (λ k. k is TsNamespaceDecl) d.kinds.left)))
        (sym (body_of_inner (body_seen item_look b) u (ap (λ k. k is TsNamespaceDecl) d.kinds.right)))
        (inner_alike t u _ _ d (body_alike c m s))

    each_alike : {a b : ModuleFacts} {ts us : List Tree} → SameBindings r a.bindings b.bindings → a.is_ambient ≡ b.is_ambient →
        SameItems r a b ts us → AllAlike r ok (each_seen a ts) (each_seen b us)
    each_alike c m h.SameItems.end = refl
    each_alike c m (h.SameItems.left {a = a} {b = b} {t = t} {ts = ts} {us = us} q n rest) =
        subst (λ xs. AllAlike r ok (xs ++ each_seen a ts) (each_seen b us)) (sym (silent_item a t q)) (each_alike c m rest)
    each_alike c m (h.SameItems.right {a = a} {b = b} {u = u} {ts = ts} {us = us} q n rest) =
        subst (λ xs. AllAlike r ok (each_seen a ts) (xs ++ each_seen b us)) (sym (silent_item b u q)) (each_alike c m rest)
    each_alike c m (h.SameItems.next {a = a} {b = b} {t = t} {u = u} {ts = ts} {us = us} s rest) =
        append_alike r ok (item_seen a t) (each_seen a ts) (item_seen b u) (each_seen b us) (item_alike c m s) (each_alike c m rest)

  module _ (a b : ModuleFacts) where
    visible_alike : (t u : Tree) → AgreeHidden r a b t u → AllAlike r ok (visible a t) (visible b u)
    visible_alike t u g =
        with_namespaces a b (items_of t) (items_of u) (each_alike g.bindings g.is_ambient g.items)
        (all_declared_alike g.bindings g.is_ambient g.items)

    -- ---- answers

    fault_from : (f g : Fault) → moved_fault (partners r) f ≡ moved_fault twice g → SameFault r f g
    fault_from f g e = record { kind = ap (λ x. x.kind) e; range = range_from r ok f.range g.range (ap (λ x. x.range) e) }

    faults_from : (xs ys : List Fault) → map (moved_fault (partners r)) xs ≡ map (moved_fault twice) ys → Each (SameFault r) xs ys
    faults_from [] [] e = tt
    faults_from (x ∷ xs) (y ∷ ys) e = (fault_from x y cc, faults_from xs ys cc)
    faults_from [] (y ∷ ys) e = cc
    faults_from (x ∷ xs) [] e = cc

    abbrev module_parts : ModuleFacts → Tree → List Tree
    module_parts facts t = tree.Range (Module-span t) ∷ list (transformed facts t).stays ∷ Module-shebang t ∷ []

    pub same_trees : (t u : Tree) → AgreeHidden r a b t u → SameSkeleton r (skeleton_of a t) (skeleton_of b u) ×
        Each (SameFault r) (faults_of a t) (faults_of b u)
    same_trees t u g =
        let e : moved_items (partners r) (transformed a t) ≡ moved_items twice (transformed b u) =
        sym (answer_of_moved (partners r) (partners_keep r ok) (visible a t))
        ∙ (ap answer_of (visible_alike t u g) ∙ answer_of_moved twice twice_keeps (visible b u)) in (
          record {
            body = subst₂ (SameTree r) (sym (part_node _ Module (module_parts a t))) (sym (part_node _ Module (module_parts b u)))
                (tree_from r ok (list (transformed a t).stays) (list (transformed b u).stays)
                (node_moved (partners r) List' (transformed a t).stays ∙
                (ap (λ x. list x.stays) e ∙ sym (node_moved twice List' (transformed b u).stays))));
            shebang = subst₂ (SameTree r) (sym (part_node _ Module (module_parts a t)))
                (sym (part_node _ Module (module_parts b u))) g.shebang;
          },
          faults_from (transformed a t).faults (transformed b u).faults (ap (λ x. x.faults) e),
        )
