-- A skeleton stands in the grammar: where there is no fault, each declarator has its type.
use Rattle.std.specs.Prelude.{◌≡◌, ℕ, zero, suc, ◌<◌, ◌≤◌, Bool, true, false, not, ◌&&◌, ◌||◌, IsTrue, ◌⊎◌, Option, Some, None, List, []}
use Rattle.std.specs.Prelude.{◌∷◌, refl, if◌then◌else◌}
use Rattle.std.proofs.Common.{arith, ap, ◌∙◌, sym, subst, subst₂, inl, inr, append-nil}
use Rattle.fast_check_tree_syntax.specs.declared.kind.Kind.{Kind}
use Rattle.fast_check_tree_syntax.specs.declared.kind.Kind.TheVariants as kinds
use Rattle.fast_check_tree_syntax.specs.declared.kind.Kind.TheVariants.{Module, VarDecl, FnDecl, ClassDecl, ExportDecl, ExportDefaultDecl}
use Rattle.fast_check_tree_syntax.specs.declared.kind.Kind.TheVariants.{BindingIdent, List as List'}
use Rattle.fast_check_tree_syntax.specs.declared.source.SourceRange.{SourceRange}
use Rattle.fast_check_tree_syntax.specs.declared.tree.Tree as tree
use Rattle.fast_check_tree_syntax.specs.declared.tree.Tree.{Tree, Absent}
use Rattle.fast_check_tree_syntax.specs.Shape.{◌is◌, kind_of, parts, is_absent, flag_of, node, list, OfAll}
use Rattle.fast_check_tree_syntax.proofs.Made.{kind_of_node, parts_node, part_node, flag_of_flag}
use Rattle.fast_check_tree_forms_programs.specs.Names.{Ident-span}
use Rattle.fast_check_tree_forms_expressions.specs.Expressions.{ClassExpr-ident, ClassExpr-class, FnExpr-ident, FnExpr-function}
use Rattle.fast_check_tree_forms_programs.specs.ModuleDecls.{ExportDecl-span, ExportDecl-decl, ImportDecl-specifiers, NamedExport-specifiers}
use Rattle.fast_check_tree_forms_programs.specs.ModuleDecls.{ExportAll-span, TsImportEqualsDecl-span, ExportDefaultExpr-span}
use Rattle.fast_check_tree_forms_programs.specs.ModuleDecls.{ExportDefaultExpr-expr, ExportDefaultDecl-span, ExportDefaultDecl-decl}
use Rattle.fast_check_tree_forms_programs.specs.ModuleDecls.{export_default_expr}
use Rattle.fast_check_tree_forms_programs.specs.Programs.{Module-span, Module-shebang}
use Rattle.fast_check_tree_forms_statements.specs.Declarations.{ClassDecl-ident, ClassDecl-declare, ClassDecl-class, class_decl, FnDecl-ident}
use Rattle.fast_check_tree_forms_statements.specs.Declarations.{FnDecl-declare, FnDecl-function, fn_decl, VarDecl-span, VarDecl-ctxt}
use Rattle.fast_check_tree_forms_statements.specs.Declarations.{VarDecl-kind, VarDecl-declare, VarDecl-decls, var_decl, VarDeclarator-name}
use Rattle.fast_check_tree_forms_statements.specs.Declarations.{VarDeclarator-init}
use Rattle.fast_check_tree_forms_statements.specs.Statements.{ExprStmt-expr}
use Rattle.fast_check_tree_helpers.specs.Builders.{never_value}
use Rattle.fast_check_tree_helpers.specs.declared.literal_type.DeclMutabilityKind.{DeclMutabilityKind}
use Rattle.fast_check_tree_forms_statements.specs.TsDeclarations.{TsModuleDecl-span, TsModuleDecl-declare, TsModuleDecl-global, TsModuleDecl-id}
use Rattle.fast_check_tree_helpers.specs.ranges.Ranges.{range_of_node}
use Rattle.fast_check_meaning_signatures.specs.declared.fault.FaultKind.TheVariants.{UnsupportedGlobalModule, UnsupportedAmbientModule}
use Rattle.fast_check_meaning_signatures.specs.declared.fault.FaultKind.TheVariants.{MissingExplicitType, UnsupportedDefaultExportExpr}
use Rattle.fast_check_meaning_signatures.specs.declared.fault.FaultKind.TheVariants.{UnsupportedUsing}
use Rattle.fast_check_meaning_signatures.specs.declared.function_kind.FunctionKind.TheVariants.{DeclarationLike}
use Rattle.fast_check_meaning_signatures.specs.Seen.{Seen, written, range, scope, flag, round, listed, faulty, seens}
use Rattle.fast_check_meaning_signatures.specs.Answers.{Answer, faultless, joined, visited, with_tree, round_answer, fault_at, answer_to}
use Rattle.fast_check_meaning_signatures.specs.Answers.{parts_answer, answer_of}
use Rattle.fast_check_meaning_signatures.specs.Expressions.{expr_seen}
use Rattle.fast_check_meaning_signatures.proofs.Choices.{of_choice, of_typing, no_left, not_empty}
use Rattle.fast_check_meaning_skeleton.specs.TypedGrammar.{IsLeavable, IsTypedFunction}
use Rattle.fast_check_meaning_skeleton.specs.ClassGrammar.{IsAmbientClass, IsTypedClass}
use Rattle.fast_check_meaning_signatures.specs.Classes.{plain_class_seen, ambient_class}
use Rattle.fast_check_meaning_skeleton.proofs.Staying.{Holds, Stays, round_stays, written_before, last_stays, demanded_holds}
use Rattle.fast_check_meaning_skeleton.proofs.StayingLists.{AllStay, all_flat, all_hold, some_weaker, all_weaker, all_if, both_some}
use Rattle.fast_check_meaning_skeleton.proofs.TypedClasses.{ambient_stands, class_stays}
use Rattle.fast_check_meaning_skeleton.proofs.Present.{stays_there}
use Rattle.fast_check_meaning_skeleton.proofs.Typed.{expr_stays, function_is_typed, implementation_is_typed}
use Rattle.fast_check_meaning_skeleton.specs.declared.rules.DeclRule.{DeclRule}
use Rattle.fast_check_meaning_skeleton.specs.declared.rules.DeclRule.TheVariants.{Variables, Function, Class, Standing, Namespace, Using}
use Rattle.fast_check_meaning_skeleton.specs.declared.rules.DeclRule.TheVariants.{NoDeclaration}
use Rattle.fast_check_meaning_skeleton.specs.declared.rules.DefaultRule.{DefaultRule}
use Rattle.fast_check_meaning_skeleton.specs.declared.rules.DefaultRule.TheVariants as defaults
use Rattle.fast_check_meaning_skeleton.specs.declared.rules.DefaultRule.TheVariants.{Value, Interface}
use Rattle.fast_check_meaning_skeleton.specs.declared.rules.ImportExportRule.{ImportExportRule}
use Rattle.fast_check_meaning_skeleton.specs.declared.rules.ImportExportRule.TheVariants.{Import, Export, All, Alias}
use Rattle.fast_check_meaning_skeleton.specs.declared.rules.ItemRule.{ItemRule}
use Rattle.fast_check_meaning_skeleton.specs.declared.rules.ItemRule.TheVariants.{Declared, Exported, ImportExport, Default, Refused, Silent, Assigned}
use Rattle.fast_check_meaning_skeleton.specs.Defaults.{is_public_value, default_value_seen, default_class_seen, default_place, default_signature}
use Rattle.fast_check_meaning_skeleton.specs.Defaults.{default_function_seen, public_default, default_seen}
use Rattle.fast_check_meaning_skeleton.specs.ImportsExports as l
use Rattle.fast_check_meaning_skeleton.specs.ImportsExports.{public_specifiers, with_specifiers, all_exported, import_export_seen}
use Rattle.fast_check_meaning_skeleton.specs.Mutability.{mutability_of}
use Rattle.fast_check_meaning_skeleton.specs.Rules.{decl_rule, expr_stmt_rule, default_rule, is_require, rule_of_kind}
use Rattle.fast_check_meaning_skeleton.specs.ModuleFacts.{ModuleFacts, inside}
use Rattle.fast_check_meaning_skeleton.specs.Namespaces.{is_ambient_module, is_namespace, items_inside, namespace_round, namespace_with}
use Rattle.fast_check_meaning_skeleton.specs.Visible.{declared_ident, declarator_typing, value_seen, declarator_seen}
use Rattle.fast_check_meaning_skeleton.specs.Visible.{is_ambient_statement, is_public_declarator, declarator_in, public_declarator}
use Rattle.fast_check_meaning_skeleton.specs.Visible.{public_declarators, statement_seen, signature_of, function_decl_seen, public_function}
use Rattle.fast_check_meaning_skeleton.specs.Visible.{is_ambient_class, class_in, class_decl_seen, public_class, is_public_using, using_place}
use Rattle.fast_check_meaning_skeleton.specs.Visible.{ItemLook, body_seen, namespace_seen, decl_form, exported_seen, form_by_rule, item_look}
use Rattle.fast_check_meaning_skeleton.specs.Visible.{item_seen, decl_seen, seen_by_rule, items_of}
use Rattle.fast_check_meaning_skeleton.specs.Skeleton.{transformed, skeleton_of, faults_of}
use Rattle.fast_check_meaning_skeleton.specs.Grammar.{IsTypedDeclarator, IsTypedStatement, IsTypedFunctionDecl, IsTypedClassDecl, IsTypedDecl}
use Rattle.fast_check_meaning_skeleton.specs.Grammar.{IsTypedDefaultDecl, IsImportOrExport, IsPlainItem, IsTypedItem, IsTypedNamespace, AllTypedItems}
use Rattle.fast_check_meaning_skeleton.specs.Grammar.{IsSkeleton}
use Rattle.fast_check_meaning_skeleton.specs.Grammar as g
use Rattle.fast_check_meaning_skeleton.proofs.StandingNamespaces.{namespace_is, namespace_typed}
use Rattle.fast_check_meaning_skeleton.specs.Rules.{is_assigned}
use Rattle.fast_check_meaning_skeleton.proofs.StandingExpandos.{typed, all_below, body_stands}
use Rattle.fast_check_meaning_skeleton.proofs.Namespaces.{item_seen_is, items_below}
use Rattle.fast_check_tree_syntax.specs.Height.{height, height_at_most}
use Rattle.fast_check_meaning_expandos.specs.Assignments.{right_seen, missing_place}
use Rattle.fast_check_tree_forms_expressions.specs.Operators.{AssignExpr-span}
use Rattle.fast_check_meaning_signatures.specs.Answers.{tested_answer}
use Rattle.fast_check_meaning_signatures.specs.Seen.{tested}
use Rattle.fast_check_meaning_skeleton.proofs.Ruled.{standing_kind, function_kind}

-- ---- declarators

module _ (facts : ModuleFacts) (mutability : DeclMutabilityKind) (d : Tree) where
  abbrev name_place : SourceRange
  name_place = Ident-span (declared_ident d)

  abbrev value : Tree
  value = VarDeclarator-init d

  abbrev Typed : Tree → Type 0
  Typed = IsTypedDeclarator facts.bindings

  abbrev StaysTyped : Seen → Type 0
  StaysTyped s = Stays Typed (answer_to s)

  -- a value that gives a type
  abbrev Gives : Tree → Type 0
  Gives v = (is_absent v ≡ false) × IsLeavable facts.bindings v

  value_stays : Stays Gives (answer_to (value_seen facts name_place value))
  value_stays =
      of_choice (λ s. Stays Gives (answer_to s)) (is_absent value) _ _ (λ e f. tt)
      (λ e f. both_some (λ v. is_absent v ≡ false) (IsLeavable facts.bindings)
      (answer_to (expr_seen facts.bindings value (Some name_place))).stays
      (stays_there facts.bindings value (Some name_place) e) (expr_stays facts.bindings value (Some name_place) f))

  declarator_stays : StaysTyped (declarator_seen facts mutability d)
  declarator_stays =
      of_choice StaysTyped (kind_of (VarDeclarator-name d) is BindingIdent) _ _
      (λ e. of_typing StaysTyped facts.bindings.unresolved (declarator_typing mutability d) _ _
      (λ type present f. typed facts.bindings _ _ _ type never_value (inl (present, refl)))
      (λ f. typed facts.bindings _ _ _ Absent _
      (inr (demanded_holds Gives (fault_at MissingExplicitType name_place) (answer_to (value_seen facts name_place value)) value_stays f))))
      (λ e f. not_empty f)

  -- what stands of a declarator is one tree
  abbrev pub IsOne : Seen → Type 0
  IsOne s = (t : Tree) × ((answer_to s).stays ≡ Some t)

  pub declarator_one : IsOne (declarator_seen facts mutability d)
  declarator_one =
      of_choice IsOne (kind_of (VarDeclarator-name d) is BindingIdent) _ _
      (λ e. of_typing IsOne facts.bindings.unresolved (declarator_typing mutability d) _ _ (λ type present. (_, refl)) (_, refl))
      (λ e. (Absent, refl))

-- ---- statements and items

module _ (facts : ModuleFacts) where
  abbrev Typed' : Tree → Type 0
  Typed' = IsTypedDeclarator facts.bindings

  declarators_stay : (statement : Tree) → is_ambient_statement facts statement ≡ false →
      AllStay Typed' (public_declarators facts statement)
  declarators_stay statement n = all_flat Typed' (public_declarator facts statement) (parts (VarDecl-decls statement))
      (λ d. all_if Typed' (is_public_declarator facts d) (declarator_in facts statement d)
      (let P : Bool → Type 0 =
      λ a. Stays Typed' (answer_to (if a then written d else declarator_seen facts (mutability_of (VarDecl-kind statement)) d)) in
      subst P (sym n) (declarator_stays facts (mutability_of (VarDecl-kind statement)) d)))

  abbrev made_parts : Tree → List Tree → List Tree
  made_parts statement ds = tree.Range (VarDecl-span statement) ∷ tree.Context (VarDecl-ctxt statement) ∷ VarDecl-kind statement ∷
      tree.Flag (VarDecl-declare statement) ∷ list ds ∷ []

  abbrev made : Tree → List Tree → Tree
  made statement ds = var_decl (VarDecl-span statement) (VarDecl-ctxt statement) (VarDecl-kind statement) (VarDecl-declare statement)
      (list ds)

  abbrev statement_form : Tree → List Seen → Seen
  statement_form statement ds =
      round VarDecl (seens (range (VarDecl-span statement) ∷ scope (VarDecl-ctxt statement) ∷ written (VarDecl-kind statement) ∷
      flag (VarDecl-declare statement) ∷ listed (seens ds) ∷ []))

  -- what stands of a statement
  pub statement_is : (statement : Tree) (ds : List Seen) →
      answer_to
      (statement_form statement ds) ≡ (record { stays = Some (made statement (answer_of ds).stays); faults = (answer_of ds).faults })
  statement_is statement ds =
      λ i. record { stays = Some (made statement (answer_of ds).stays); faults = append-nil (answer_of ds).faults i }

  ambient_or_typed : (statement : Tree) (ds : List Tree) (a : Bool) → is_ambient_statement facts statement ≡ a →
      (a ≡ false → OfAll Typed' ds) →
      IsTrue (facts.is_ambient || VarDecl-declare (node VarDecl (made_parts statement ds))) ⊎
      OfAll Typed' (parts (VarDecl-decls (node VarDecl (made_parts statement ds))))
  ambient_or_typed statement ds true q p =
      let f = ap flag_of (part_node _ VarDecl (made_parts statement ds)) ∙ flag_of_flag (VarDecl-declare statement) in
      inl (subst (λ b. IsTrue (facts.is_ambient || b)) (sym f) q)
  ambient_or_typed statement ds false q p =
      let same : VarDecl-decls (node VarDecl (made_parts statement ds)) ≡ list ds = part_node _ _ _ in
      inr (subst (OfAll Typed') (sym (ap parts same ∙ parts_node List' ds)) (p refl))

  abbrev Statement : Tree → Type 0
  Statement = IsTypedStatement facts.bindings facts.is_ambient

  statement_stays : (statement : Tree) (ds : List Seen) →
      (is_ambient_statement facts statement ≡ false → Holds (OfAll Typed') (answer_of ds)) →
      AllStay Statement (statement_seen statement ds)
  statement_stays statement [] p = tt
  statement_stays statement (d ∷ ds) p = (
    λ f. record {
      kind = kind_of_node VarDecl (made_parts statement (answer_of (d ∷ ds)).stays);
      declarators = ambient_or_typed statement (answer_of (d ∷ ds)).stays (is_ambient_statement facts statement) refl
          (λ n. p n (no_left _ [] f));
    },
    tt,
  )

  -- ---- functions

  abbrev Function' : Tree → Type 0
  Function' = IsTypedFunctionDecl facts.bindings facts.is_ambient

  function_made : (decl function : Tree) → IsTypedFunction facts.bindings function →
      Function' (fn_decl (FnDecl-ident decl) (FnDecl-declare decl) function)
  function_made decl function h =
      let same : FnDecl-function (fn_decl (FnDecl-ident decl) (FnDecl-declare decl) function) ≡ function = part_node _ _ _ in
      record { kind = kind_of_node _ _; function = inr (subst (IsTypedFunction facts.bindings) (sym same) h) }

  abbrev signed : Tree → Seen → Seen
  signed decl s = round FnDecl (seens (written (FnDecl-ident decl) ∷ flag (FnDecl-declare decl) ∷ s ∷ []))

  signed_stays : (decl : Tree) (s : Seen) → Stays (IsTypedFunction facts.bindings) (answer_to s) →
      Stays Function' (answer_to (signed decl s))
  signed_stays decl s p =
      let ident = FnDecl-ident decl in
      let declare = tree.Flag (FnDecl-declare decl) in
      let last = visited (answer_to s) (faultless (Some [])) in
      round_stays FnDecl (λ ts. Function' (node FnDecl ts)) Function' (λ ts h. h)
      (parts_answer (seens (written ident ∷ written declare ∷ s ∷ [])))
      (written_before (λ ts. Function' (node FnDecl ts)) ident (visited (faultless (Some declare)) last)
      (written_before (λ ts. Function' (node FnDecl (ident ∷ ts))) declare last
      (last_stays (IsTypedFunction facts.bindings) (λ ts. Function' (node FnDecl (ident ∷ declare ∷ ts))) (function_made decl)
      (answer_to s) p)))

  signature_stays : (place : SourceRange) (decl : Tree) → Stays (IsTypedFunction facts.bindings)
      (answer_to (signature_of facts place decl))
  signature_stays place decl =
      of_choice (λ s. Stays (IsTypedFunction facts.bindings) (answer_to s)) (facts.is_implementation place) _ _
      (λ e f. implementation_is_typed facts.bindings (FnDecl-function decl))
      (λ e. function_is_typed facts.bindings DeclarationLike (Ident-span (FnDecl-ident decl)) (FnDecl-function decl) refl)

  function_stays : (place : SourceRange) (decl : Tree) → kind_of decl ≡ FnDecl → AllStay Function' (public_function facts place decl)
  function_stays place decl k = all_if Function' (facts.is_public place) (function_decl_seen facts place decl) (go facts.is_ambient refl)
    where
      go : (b : Bool) → facts.is_ambient ≡ b →
          Stays Function' (answer_to (if b then written decl else signed decl (signature_of facts place decl)))
      go true q = λ f. record { kind = k; function = inl q }
      go false q = signed_stays decl (signature_of facts place decl) (signature_stays place decl)

  -- ---- classes

  abbrev Class' : Tree → Type 0
  Class' = IsTypedClassDecl facts.bindings facts.is_ambient

  -- the class of a declaration, by whether it is ambient
  abbrev FitsClass : Tree → Tree → Type 0
  FitsClass decl class =
      (IsTrue (is_ambient_class facts decl) × IsAmbientClass class) ⊎ IsTypedClass facts.bindings class

  class_made : (decl class : Tree) → FitsClass decl class → Class' (class_decl (ClassDecl-ident decl) (ClassDecl-declare decl) class)
  class_made decl class h =
      let made = class_decl (ClassDecl-ident decl) (ClassDecl-declare decl) class in
      let same : ClassDecl-class made ≡ class = part_node _ _ _ in
      let declare : ClassDecl-declare made ≡ ClassDecl-declare decl = ap flag_of (part_node _ _ _) ∙
      flag_of_flag (ClassDecl-declare decl) in
      record {
        kind = kind_of_node _ _;
        class = subst₂ (λ d c. (IsTrue (facts.is_ambient || d) × IsAmbientClass c) ⊎ IsTypedClass facts.bindings c) (sym declare)
            (sym same) h;
      }

  abbrev classed : Tree → Seen → Seen
  classed decl s = round ClassDecl (seens (written (ClassDecl-ident decl) ∷ flag (ClassDecl-declare decl) ∷ s ∷ []))

  classed_stays : (decl : Tree) (s : Seen) → Stays (FitsClass decl) (answer_to s) → Stays Class' (answer_to (classed decl s))
  classed_stays decl s p =
      let ident = ClassDecl-ident decl in
      let declare = tree.Flag (ClassDecl-declare decl) in
      let last = visited (answer_to s) (faultless (Some [])) in
      round_stays ClassDecl (λ ts. Class' (node ClassDecl ts)) Class' (λ ts h. h)
      (parts_answer (seens (written ident ∷ written declare ∷ s ∷ [])))
      (written_before (λ ts. Class' (node ClassDecl ts)) ident (visited (faultless (Some declare)) last)
      (written_before (λ ts. Class' (node ClassDecl (ident ∷ ts))) declare last
      (last_stays (FitsClass decl) (λ ts. Class' (node ClassDecl (ident ∷ declare ∷ ts))) (class_made decl) (answer_to s) p)))

  class_fits : (decl : Tree) → Stays (FitsClass decl) (answer_to (class_in facts decl))
  class_fits decl =
      let class = ClassDecl-class decl in
      let seen = plain_class_seen facts.bindings facts.is_implementation class in
      of_choice (λ s. Stays (FitsClass decl) (answer_to s)) (is_ambient_class facts decl) (written (ambient_class class)) seen
      (λ e f. inl (e, ambient_stands class))
      (λ e f. some_weaker (IsTypedClass facts.bindings) (FitsClass decl) (λ t h. inr h) (answer_to seen).stays
      (class_stays facts.bindings facts.is_implementation class f))

  class_decl_stays : (place : SourceRange) (decl : Tree) → AllStay Class' (public_class facts place decl)
  class_decl_stays place decl = all_if Class' (facts.is_public place) (class_decl_seen facts decl)
      (classed_stays decl (class_in facts decl) (class_fits decl))

  -- ---- declarations

  abbrev IsDecl : Tree → Type 0
  IsDecl = IsTypedDecl facts.bindings facts.is_ambient

  abbrev IsPlain : Tree → Type 0
  IsPlain = IsPlainItem facts.bindings facts.is_ambient

  abbrev IsItem : Tree → Type 0
  IsItem = IsTypedItem facts.bindings facts.is_ambient

  abbrev IsNamespace : Tree → Type 0
  IsNamespace = IsTypedNamespace facts.bindings facts.is_ambient

  -- what is done with declarations that are no namespaces
  abbrev is_plain : DeclRule → Bool
  is_plain Namespace = false
  is_plain _ = true

  decl_stays : (look : ItemLook) (place : SourceRange) (decl : Tree) (rule : DeclRule) → decl_rule (kind_of decl) ≡ rule →
      is_plain rule ≡ true →
      AllStay IsDecl (decl_form look facts place decl rule)
  decl_stays look place decl Variables q n =
      all_weaker Statement IsDecl (λ t h. inl h) (statement_seen decl (public_declarators facts decl))
      (statement_stays decl (public_declarators facts decl)
      (λ n. all_hold Typed' (public_declarators facts decl) (declarators_stay decl n)))
  decl_stays look place decl Function q n =
      all_weaker Function' IsDecl (λ t h. inr (inl h)) (public_function facts place decl)
      (function_stays place decl (function_kind (kind_of decl) q))
  decl_stays look place decl Class q n =
      all_weaker Class' IsDecl (λ t h. inr (inr (inl h))) (public_class facts place decl) (class_decl_stays place decl)
  decl_stays look place decl Standing q n =
      all_if IsDecl (facts.is_public place) (written decl) (λ f. inr (inr (inr (standing_kind (kind_of decl) q))))
  decl_stays look place decl Namespace q n = cc
  decl_stays look place decl Using q n = all_if IsDecl (is_public_using facts place decl) (faulty UnsupportedUsing (using_place decl))
      (λ f. not_empty f)
  decl_stays look place decl NoDeclaration q n = tt

  -- namespaces, where what is seen of the lower items stays
  namespace_stays : (limit : ℕ) → ((u : Tree) (here : ModuleFacts) → height u < limit →
      AllStay (IsTypedItem here.bindings here.is_ambient) (item_look u here)) →
      (place : SourceRange) (decl : Tree) → height decl ≤ limit → AllStay IsNamespace (namespace_seen item_look facts place decl)
  namespace_stays limit h place decl low = go (TsModuleDecl-global decl) (is_ambient_module decl) refl refl
    where
      items : List Seen
      items = body_seen item_look (inside facts decl) (items_inside decl)

      stays : is_namespace decl ≡ true → Stays IsNamespace (answer_to (namespace_round items decl))
      stays e = subst (Stays IsNamespace) (sym (namespace_is items decl))
          (λ f. namespace_typed facts.bindings facts.is_ambient decl (answer_of items).stays
          e (body_stands (inside facts decl) (items_inside decl)
          (all_below (IsTypedItem facts.bindings (facts.is_ambient || TsModuleDecl-declare decl))
          (λ u. item_look u (inside facts decl)) limit (items_inside decl) (items_below limit decl low)
          (λ u l. h u (inside facts decl) l)) f))

      go : (x y : Bool) → TsModuleDecl-global decl ≡ x → is_ambient_module decl ≡ y → AllStay IsNamespace
          (if x then faulty UnsupportedGlobalModule (TsModuleDecl-span decl) ∷ []
          else (if y then faulty UnsupportedAmbientModule (range_of_node (TsModuleDecl-id decl)) ∷ []
          else (if facts.is_public place then namespace_round items decl ∷ [] else [])))
      go true y e f = ((λ f. not_empty f), tt)
      go false true e f = ((λ f. not_empty f), tt)
      go false false e f = all_if IsNamespace (facts.is_public place) (namespace_round items decl) (stays (λ i. not (e i) && not (f i)))

  -- what is seen of a declaration is one form at most, of which one tree stays
  abbrev pub OneTree : List Seen → Type 0
  OneTree [] = Unit {0}
  OneTree (s ∷ []) = (t : Tree) × ((answer_to s).stays ≡ Some t)
  OneTree (s ∷ t ∷ ss) = ⊥

  one_if : (b : Bool) (s : Seen) → OneTree (s ∷ []) → OneTree (if b then s ∷ [] else [])
  one_if true s one = one
  one_if false s one = tt

  statement_one : (statement : Tree) (ds : List Seen) → OneTree (statement_seen statement ds)
  statement_one statement [] = tt
  statement_one statement (d ∷ ds) = (made statement (answer_of (d ∷ ds)).stays, refl)

  function_one : (place : SourceRange) (decl : Tree) → OneTree (public_function facts place decl)
  function_one place decl = one_if (facts.is_public place) (function_decl_seen facts place decl)
      (of_choice P facts.is_ambient _ _ (λ e. (decl, refl))
      (λ e. of_choice (λ s. P (signed decl s)) (facts.is_implementation place) _ _ (λ e. (_, refl)) (λ e. (_, refl))))
    where
      P : Seen → Type 0
      P s = OneTree (s ∷ [])

  class_one : (place : SourceRange) (decl : Tree) → OneTree (public_class facts place decl)
  class_one place decl = one_if (facts.is_public place) (class_decl_seen facts decl)
      (of_choice (λ s. OneTree (classed decl s ∷ [])) (is_ambient_class facts decl) _ _ (λ e. (_, refl)) (λ e. (_, refl)))

  namespace_one : (look : ItemLook) (place : SourceRange) (decl : Tree) → OneTree (namespace_seen look facts place decl)
  namespace_one look place decl =
      of_choice OneTree (TsModuleDecl-global decl) _ _ (λ e. (Absent, refl))
      (λ e. of_choice OneTree (is_ambient_module decl) _ _ (λ e. (Absent, refl))
      (λ e. one_if (facts.is_public place) (namespace_round (body_seen look (inside facts decl) (items_inside decl)) decl) (
        namespace_with (answer_of (body_seen look (inside facts decl) (items_inside decl))).stays decl,
        ap (λ a. a.stays) (namespace_is (body_seen look (inside facts decl) (items_inside decl)) decl),
      )))

  form_one : (look : ItemLook) (place : SourceRange) (decl : Tree) (rule : DeclRule) → OneTree (decl_form look facts place decl rule)
  form_one look place decl Variables = statement_one decl (public_declarators facts decl)
  form_one look place decl Function = function_one place decl
  form_one look place decl Class = class_one place decl
  form_one look place decl Standing = one_if (facts.is_public place) (written decl) (decl, refl)
  form_one look place decl Namespace = namespace_one look place decl
  form_one look place decl Using = one_if (is_public_using facts place decl) (faulty UnsupportedUsing (using_place decl)) (Absent, refl)
  form_one look place decl NoDeclaration = tt

  pub decl_one : (place : SourceRange) (decl : Tree) (rule : DeclRule) → OneTree (decl_seen facts place decl rule)
  decl_one = form_one item_look

  -- ---- exports

  abbrev exported : Tree → Tree → Tree
  exported export decl = node ExportDecl (tree.Range (ExportDecl-span export) ∷ decl ∷ [])

  abbrev export_with : Tree → Answer (Option Tree) → Answer (Option Tree)
  export_with export a =
      round_answer ExportDecl (visited (faultless (Some (tree.Range (ExportDecl-span export)))) (visited a (faultless (Some []))))

  -- what stands of an export of one form
  export_answer : (export : Tree) (s : Seen) (one : OneTree (s ∷ [])) →
      answer_to (round ExportDecl (seens (range (ExportDecl-span export) ∷ s ∷ []))) ≡
      (record { stays = Some (exported export one.0); faults = (answer_to s).faults })
  export_answer export s one =
      let same : answer_to s ≡ record { stays = Some one.0; faults = (answer_to s).faults } =
      λ i. record { stays = one.1 i; faults = (answer_to s).faults } in
      ap (export_with export) same ∙ (λ i. record { stays = Some (exported export one.0); faults = append-nil (answer_to s).faults i })

  pub export_one : (export : Tree) (ss : List Seen) → OneTree ss → OneTree (exported_seen export ss)
  export_one export [] one = tt
  export_one export (s ∷ []) one = (exported export one.0, ap (λ a. a.stays) (export_answer export s one))
  export_one export (s ∷ t ∷ ss) one = absurd one

  pub export_is : (export : Tree) (s : Seen) (one : OneTree (s ∷ [])) →
      answer_of (exported_seen export (s ∷ [])) ≡ (record { stays = exported export one.0 ∷ []; faults = (answer_to s).faults })
  export_is export s one =
      ap (λ a. joined with_tree a (faultless [])) (export_answer export s one)
      ∙ (λ i. record { stays = exported export one.0 ∷ []; faults = append-nil (answer_to s).faults i })

  exported_stays : (export decl : Tree) → IsDecl decl → IsPlain (exported export decl)
  exported_stays export decl h =
      let same : ExportDecl-decl (exported export decl) ≡ decl = part_node _ _ _ in inr (inl (kind_of_node _ _, subst IsDecl (sym same) h))

  export_stays : (D I : Tree → Type 0) (export : Tree) → ((decl : Tree) → D decl → I (exported export decl)) → (ss : List Seen) →
      OneTree ss →
      AllStay D ss → AllStay I (exported_seen export ss)
  export_stays D I export made [] one p = tt
  export_stays D I export made (s ∷ []) one p =
      let span = tree.Range (ExportDecl-span export) in
      let last = visited (answer_to s) (faultless (Some [])) in (
        round_stays ExportDecl (λ ts. I (node ExportDecl ts)) I (λ ts h. h) (visited (faultless (Some span)) last)
            (written_before (λ ts. I (node ExportDecl ts)) span last
            (last_stays D (λ ts. I (node ExportDecl (span ∷ ts))) made (answer_to s) p.0)),
        tt,
      )
  export_stays D I export made (s ∷ t ∷ ss) one p = absurd one

  exported_namespace_stays : (export decl : Tree) → IsNamespace decl → IsItem (exported export decl)
  exported_namespace_stays export decl h =
      let same : ExportDecl-decl (exported export decl) ≡ decl = part_node _ _ _ in
      g.IsTypedItem.exported (kind_of_node _ _) (subst IsNamespace (sym same) h)

  -- ---- imports and exports of names

  import_or_export : (t : Tree) → IsImportOrExport t → IsPlain t
  import_or_export t h = inr (inr (inr h))

  with_stays : (make : List Tree → Tree) → ((ts : List Tree) → IsPlain (make ts)) → (ts : List Tree) →
      AllStay IsPlain (with_specifiers make ts)
  with_stays make p [] = tt
  with_stays make p (t ∷ ts) = ((λ f. p (t ∷ ts)), tt)

  import_stays : (item : Tree) → AllStay IsPlain (import_export_seen facts item Import)
  import_stays item =
      with_stays (l.import_with facts item) (λ ts. import_or_export _ (inl (kind_of_node _ _)))
      (public_specifiers facts (ImportDecl-specifiers item))

  names_stay : (item : Tree) → AllStay IsPlain (import_export_seen facts item Export)
  names_stay item =
      with_stays (l.export_with facts item) (λ ts. import_or_export _ (inr (inl (kind_of_node _ _))))
      (public_specifiers facts (NamedExport-specifiers item))

  all_stays : (item : Tree) → AllStay IsPlain (import_export_seen facts item All)
  all_stays item = all_if IsPlain (facts.is_public (ExportAll-span item)) (written (all_exported facts item))
      (λ f. import_or_export _ (inr (inr (inl (kind_of_node _ _)))))

  alias_stays : (item : Tree) → kind_of item ≡ kinds.TsImportEqualsDecl → is_require item ≡ false →
      AllStay IsPlain (import_export_seen facts item Alias)
  alias_stays item k n = all_if IsPlain (facts.is_public (TsImportEqualsDecl-span item)) (written item)
      (λ f. import_or_export item (inr (inr (inr (k, n)))))

  with_one : (make : List Tree → Tree) (ts : List Tree) → OneTree (with_specifiers make ts)
  with_one make [] = tt
  with_one make (t ∷ ts) = (make (t ∷ ts), refl)

  import_export_one : (item : Tree) (rule : ImportExportRule) → OneTree (import_export_seen facts item rule)
  import_export_one item Import = with_one (l.import_with facts item) (public_specifiers facts (ImportDecl-specifiers item))
  import_export_one item Export = with_one (l.export_with facts item) (public_specifiers facts (NamedExport-specifiers item))
  import_export_one item All = one_if (facts.is_public (ExportAll-span item)) (written (all_exported facts item)) (_, refl)
  import_export_one item Alias = one_if (facts.is_public (TsImportEqualsDecl-span item)) (written item) (item, refl)

  -- ---- default exports

  -- a node of a tree and of what is seen
  abbrev pair : Kind → Tree → Seen → Seen
  pair kind t s = round kind (seens (written t ∷ s ∷ []))

  pair_stays : (kind : Kind) (P Q : Tree → Type 0) (t : Tree) (s : Seen) → ((u : Tree) → P u → Q (node kind (t ∷ u ∷ []))) →
      Stays P (answer_to s) →
      Stays Q (answer_to (pair kind t s))
  pair_stays kind P Q t s f p =
      let last = visited (answer_to s) (faultless (Some [])) in
      round_stays kind (λ ts. Q (node kind ts)) Q (λ ts h. h) (visited (faultless (Some t)) last)
      (written_before (λ ts. Q (node kind ts)) t last (last_stays P (λ ts. Q (node kind (t ∷ ts))) f (answer_to s) p))

  pair_one : (kind : Kind) (t : Tree) (s : Seen) → OneTree (s ∷ []) → OneTree (pair kind t s ∷ [])
  pair_one kind t s one =
      let same : answer_to s ≡ record { stays = Some one.0; faults = (answer_to s).faults } =
      λ i. record { stays = one.1 i; faults = (answer_to s).faults } in
      (_, ap (λ a. (round_answer kind (visited (faultless (Some t)) (visited a (faultless (Some []))))).stays) same)

  abbrev IsDefaultDecl : Tree → Type 0
  IsDefaultDecl = IsTypedDefaultDecl facts.bindings facts.is_ambient

  default_value_made : (span : SourceRange) (value : Tree) → IsLeavable facts.bindings value → IsPlain (export_default_expr span value)
  default_value_made span value h =
      let same : ExportDefaultExpr-expr (export_default_expr span value) ≡ value = part_node _ _ _ in
      inr (inr (inl (inl (kind_of_node _ _, subst (IsLeavable facts.bindings) (sym same) h))))

  default_value_stays : (item : Tree) → Stays IsPlain (answer_to (default_value_seen facts item))
  default_value_stays item =
      let value = ExportDefaultExpr-expr item in
      λ f. default_value_made _ _
      (demanded_holds (IsLeavable facts.bindings) (fault_at UnsupportedDefaultExportExpr (ExportDefaultExpr-span item))
      (answer_to (expr_seen facts.bindings value None)) (expr_stays facts.bindings value None) f)

  default_made : (span : SourceRange) (decl : Tree) → IsDefaultDecl decl → IsPlain (node ExportDefaultDecl (tree.Range span ∷ decl ∷ []))
  default_made span decl h =
      let same : ExportDefaultDecl-decl (node ExportDefaultDecl (tree.Range span ∷ decl ∷ [])) ≡ decl = part_node _ _ _ in
      inr (inr (inl (inr (kind_of_node _ _, subst IsDefaultDecl (sym same) h))))

  public_default_stays : (item : Tree) (s : Seen) → Stays IsDefaultDecl (answer_to s) → AllStay IsPlain (public_default facts item s)
  public_default_stays item s p =
      let span = ExportDefaultDecl-span item in
      all_if IsPlain (facts.is_public span) (pair ExportDefaultDecl (tree.Range span) s)
      (pair_stays ExportDefaultDecl IsDefaultDecl IsPlain (tree.Range span) s (default_made span) p)

  default_class_stays : (decl : Tree) → Stays IsDefaultDecl (answer_to (default_class_seen facts decl))
  default_class_stays decl = pair_stays kinds.ClassExpr (IsTypedClass facts.bindings) IsDefaultDecl (ClassExpr-ident decl)
      (plain_class_seen facts.bindings facts.is_implementation (ClassExpr-class decl)) made'
      (class_stays facts.bindings facts.is_implementation (ClassExpr-class decl))
    where
      made' : (class : Tree) → IsTypedClass facts.bindings class → IsDefaultDecl (node kinds.ClassExpr (ClassExpr-ident decl ∷ class ∷ []))
      made' class h =
          let same : ClassExpr-class (node kinds.ClassExpr (ClassExpr-ident decl ∷ class ∷ [])) ≡ class = part_node _ _ _ in
          inl (kind_of_node _ _, subst (IsTypedClass facts.bindings) (sym same) h)

  default_function_stays : (place : SourceRange) (decl : Tree) → kind_of decl ≡ kinds.FnExpr →
      Stays IsDefaultDecl (answer_to (default_function_seen facts place decl))
  default_function_stays place decl k =
      of_choice (λ s. Stays IsDefaultDecl (answer_to s)) facts.is_ambient _ _ (λ e f. inr (inl (k, inl e)))
      (λ e. pair_stays kinds.FnExpr (IsTypedFunction facts.bindings) IsDefaultDecl (FnExpr-ident decl)
      (default_signature facts place decl) made'
      (of_choice (λ s. Stays (IsTypedFunction facts.bindings) (answer_to s)) (facts.is_implementation place) _ _
      (λ e f. implementation_is_typed facts.bindings (FnExpr-function decl))
      (λ e. function_is_typed facts.bindings DeclarationLike (default_place decl) (FnExpr-function decl) refl)))
    where
      made' : (function : Tree) → IsTypedFunction facts.bindings function →
          IsDefaultDecl (node kinds.FnExpr (FnExpr-ident decl ∷ function ∷ []))
      made' function h =
          let same : FnExpr-function (node kinds.FnExpr (FnExpr-ident decl ∷ function ∷ [])) ≡ function = part_node _ _ _ in
          inr (inl (kind_of_node _ _, inr (subst (IsTypedFunction facts.bindings) (sym same) h)))

  default_stays : (item : Tree) (k : Kind) → kind_of (ExportDefaultDecl-decl item) ≡ k →
      AllStay IsPlain (seen_by_rule facts item (default_rule k))
  default_stays item kinds.ClassExpr q =
      let decl = ExportDefaultDecl-decl item in public_default_stays item (default_class_seen facts decl) (default_class_stays decl)
  default_stays item kinds.FnExpr q =
      let decl = ExportDefaultDecl-decl item in
      let place = ExportDefaultDecl-span item in
      public_default_stays item (default_function_seen facts place decl) (default_function_stays place decl q)
  default_stays item kinds.TsInterfaceDecl q = public_default_stays item (written (ExportDefaultDecl-decl item)) (λ f. inr (inr q))
  default_stays item _ q = tt

  public_default_one : (item : Tree) (s : Seen) → OneTree (s ∷ []) → OneTree (public_default facts item s)
  public_default_one item s one =
      let span = ExportDefaultDecl-span item in
      one_if (facts.is_public span) (pair ExportDefaultDecl (tree.Range span) s) (pair_one ExportDefaultDecl (tree.Range span) s one)

  default_function_one : (place : SourceRange) (decl : Tree) → OneTree (default_function_seen facts place decl ∷ [])
  default_function_one place decl = of_choice P facts.is_ambient _ _ (λ e. (decl, refl))
      (λ e. pair_one kinds.FnExpr (FnExpr-ident decl) (default_signature facts place decl)
      (of_choice P (facts.is_implementation place) _ _ (λ e. (_, refl)) (λ e. (_, refl))))
    where
      P : Seen → Type 0
      P s = OneTree (s ∷ [])

  default_one : (item : Tree) (rule : DefaultRule) → OneTree (default_seen facts item rule)
  default_one item Value = one_if (is_public_value facts item) (default_value_seen facts item) (_, refl)
  default_one item defaults.Class =
      let decl = ExportDefaultDecl-decl item in
      public_default_one item (default_class_seen facts decl) (pair_one kinds.ClassExpr (ClassExpr-ident decl)
      (plain_class_seen facts.bindings facts.is_implementation (ClassExpr-class decl)) (_, refl))
  default_one item defaults.Function =
      let place = ExportDefaultDecl-span item in
      let decl = ExportDefaultDecl-decl item in
      public_default_one item (default_function_seen facts place decl) (default_function_one place decl)
  default_one item Interface = public_default_one item (written (ExportDefaultDecl-decl item)) (ExportDefaultDecl-decl item, refl)

  -- ---- items

  -- of an item that is no assignment
  pub item_one : (item : Tree) (rule : ItemRule) → is_assigned rule ≡ false → OneTree (seen_by_rule facts item rule)
  item_one item (Declared rule) e = decl_one (range_of_node item) item rule
  item_one item (Exported rule) e =
      export_one item (decl_seen facts (ExportDecl-span item) (ExportDecl-decl item) rule)
      (decl_one (ExportDecl-span item) (ExportDecl-decl item) rule)
  item_one item (ImportExport rule) e = import_export_one item rule
  item_one item (Default rule) e = default_one item rule
  item_one item (Refused kind) e = (Absent, refl)
  item_one item Assigned e = cc
  item_one item Silent e = tt

  as_items : (ss : List Seen) → AllStay IsPlain ss → AllStay IsItem ss
  as_items ss p = all_weaker IsPlain IsItem (λ t h. g.IsTypedItem.plain h) ss p

-- an item, where what is seen of the lower items stays
module _ (limit : ℕ)
    (stay : (u : Tree) (here : ModuleFacts) → height u < limit → AllStay (IsTypedItem here.bindings here.is_ambient) (item_look u here))
    (facts : ModuleFacts) (item : Tree) (low : height item ≤ limit) where
  abbrev Form : ItemRule → Type 0
  Form rule = AllStay (IsItem facts) (form_by_rule item_look facts item rule)

  nothing_stays : (place : Option SourceRange) (a : Answer (Option Tree)) → Stays (IsItem facts) (tested_answer place a)
  nothing_stays None a f = tt
  nothing_stays (Some place) a f = tt

  expression : (k : Kind) → Form (expr_stmt_rule k)
  expression kinds.AssignExpr =
      let assignment = ExprStmt-expr item in
      all_if (IsItem facts) (facts.is_public (AssignExpr-span assignment))
      (tested (missing_place facts.objects assignment) (right_seen facts.bindings assignment))
      (nothing_stays (missing_place facts.objects assignment) (answer_to (right_seen facts.bindings assignment)))
  expression _ = tt

  declared : (k : Kind) → kind_of item ≡ k → is_plain facts (decl_rule k) ≡ true → Form (Declared (decl_rule k))
  declared k q n =
      let ss = decl_form item_look facts (range_of_node item) item (decl_rule k) in
      as_items facts ss (all_weaker (IsDecl facts) (IsPlain facts) (λ t h. inl h) ss
      (decl_stays facts item_look (range_of_node item) item (decl_rule k) (ap decl_rule q) n))

  export_of : (k : Kind) → kind_of (ExportDecl-decl item) ≡ k → is_plain facts (decl_rule k) ≡ true → Form (Exported (decl_rule k))
  export_of k q n =
      let place = ExportDecl-span item in
      let decl = ExportDecl-decl item in
      let ss = decl_form item_look facts place decl (decl_rule k) in
      as_items facts (exported_seen item ss) (export_stays facts (IsDecl facts) (IsPlain facts) item (exported_stays facts item) ss
      (form_one facts item_look place decl (decl_rule k)) (decl_stays facts item_look place decl (decl_rule k) (ap decl_rule q) n))

  exports : (k : Kind) → kind_of (ExportDecl-decl item) ≡ k → Form (Exported (decl_rule k))
  exports kinds.TsModuleDecl q =
      let place = ExportDecl-span item in
      let decl = ExportDecl-decl item in
      export_stays facts (IsNamespace facts) (IsItem facts) item (exported_namespace_stays facts item)
      (namespace_seen item_look facts place decl)
      (namespace_one facts item_look place decl) (namespace_stays facts limit stay place decl (omega (arith, height_at_most item 1, low)))
  exports k q = export_of k q refl

  form_stays : (k : Kind) → kind_of item ≡ k → Form (rule_of_kind k item)
  form_stays kinds.ExportDecl q = exports (kind_of (ExportDecl-decl item)) refl
  form_stays kinds.ImportDecl q = as_items facts _ (import_stays facts item)
  form_stays kinds.NamedExport q = as_items facts _ (names_stay facts item)
  form_stays kinds.ExportAll q = as_items facts _ (all_stays facts item)
  form_stays kinds.TsImportEqualsDecl q = of_choice Form (is_require item) _ _
      (λ e. ((λ f. not_empty f), tt)) (λ e. as_items facts _ (alias_stays facts item q e))
  form_stays kinds.TsExportAssignment q = ((λ f. not_empty f), tt)
  form_stays kinds.TsNamespaceExportDecl q = ((λ f. not_empty f), tt)
  form_stays kinds.ExportDefaultExpr q =
      as_items facts _
      (all_if (IsPlain facts) (is_public_value facts item) (default_value_seen facts item) (default_value_stays facts item))
  form_stays kinds.ExportDefaultDecl q = default_form (kind_of (ExportDefaultDecl-decl item)) refl
    where
      default_form : (k : Kind) → kind_of (ExportDefaultDecl-decl item) ≡ k → Form (default_rule k)
      default_form kinds.ClassExpr d = as_items facts _ (default_stays facts item kinds.ClassExpr d)
      default_form kinds.FnExpr d = as_items facts _ (default_stays facts item kinds.FnExpr d)
      default_form kinds.TsInterfaceDecl d = as_items facts _ (default_stays facts item kinds.TsInterfaceDecl d)
      default_form _ d = tt
  form_stays kinds.ExprStmt q = expression (kind_of (ExprStmt-expr item))
  form_stays kinds.TsModuleDecl q =
      all_weaker (IsNamespace facts) (IsItem facts) (λ t h. g.IsTypedItem.declared h)
      (namespace_seen item_look facts (range_of_node item) item)
      (namespace_stays facts limit stay (range_of_node item) item low)
  form_stays k q = declared k q refl

-- so each item stays
up_to : (n : ℕ) (item : Tree) (facts : ModuleFacts) → height item < n → AllStay (IsItem facts) (item_seen facts item)
up_to zero item facts h = absurd (omega arith)
up_to (suc n) item facts h = subst (AllStay (IsItem facts)) (sym (item_seen_is facts item))
    (form_stays (height item) (λ u here l. up_to n u here (omega (arith, l, h))) facts item (omega arith) (kind_of item) refl)

item_stays : (item : Tree) (facts : ModuleFacts) → AllStay (IsItem facts) (item_seen facts item)
item_stays item facts = up_to (suc (height item)) item facts (omega arith)

module _ (facts : ModuleFacts) where
  abbrev module_parts : Tree → List Tree
  module_parts program = tree.Range (Module-span program) ∷ list (transformed facts program).stays ∷ Module-shebang program ∷ []

  pub skeleton_stands : (program : Tree) → faults_of facts program ≡ [] →
      IsSkeleton facts.bindings facts.is_ambient (skeleton_of facts program)
  skeleton_stands program e = record {
    kind = kind_of_node Module (module_parts program);
    items = subst (AllTypedItems facts.bindings facts.is_ambient)
        (sym (ap parts (part_node _ Module (module_parts program)) ∙ parts_node List' (transformed facts program).stays))
        (body_stands facts (items_of program)
        (all_flat (IsItem facts) (λ item. item_look item facts) (items_of program) (λ item. item_stays item facts)) e);
  }
