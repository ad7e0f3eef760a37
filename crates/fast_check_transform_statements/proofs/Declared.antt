-- What is answered to declarators and functions, case by case.
use Rattle.std.specs.Prelude.{◌≡◌, ℕ, ◌+◌, ◌<◌, ◌≤◌, Bool, true, false, Option, Some, None, option_map, List, [], ◌∷◌, ◌++◌, flat_map}
use Rattle.std.specs.Prelude.{length, take, refl, if◌then◌else◌}
use lib.ListN.{get_or}
use Rattle.std.proofs.Common.{ap, ◌∙◌, sym, subst}
use Rattle.fast_check_tree_syntax.specs.declared.kind.Kind.TheVariants.{BindingIdent, FnDecl, VarDecl}
use Rattle.fast_check_tree_syntax.specs.declared.source.SourceRange.{SourceRange}
use Rattle.fast_check_tree_syntax.specs.declared.tree.Tree as tree
use Rattle.fast_check_tree_syntax.specs.declared.tree.Tree.{Tree, Absent}
use Rattle.fast_check_tree_syntax.specs.Shape.{is_absent, ◌is◌, kind_of, parts, node, list}
use Rattle.fast_check_tree_forms_programs.specs.Names.{Ident-span}
use Rattle.fast_check_tree_forms_statements.specs.Declarations.{FnDecl-ident, FnDecl-declare, FnDecl-function, fn_decl, VarDecl-span}
use Rattle.fast_check_tree_forms_statements.specs.Declarations.{VarDecl-ctxt, VarDecl-kind, VarDecl-declare, VarDecl-decls, var_decl}
use Rattle.fast_check_tree_forms_statements.specs.Declarations.{VarDeclarator-name, VarDeclarator-init}
use Rattle.fast_check_tree_helpers.specs.Builders.{never_value}
use Rattle.fast_check_tree_helpers.specs.declared.literal_type.DeclMutabilityKind.{DeclMutabilityKind}
use Rattle.fast_check_tree_helpers.specs.ranges.Ranges.{range_of_node}
use Rattle.fast_check_meaning_signatures.specs.declared.fault.Fault.{Fault}
use Rattle.fast_check_meaning_signatures.specs.declared.fault.FaultKind.TheVariants.{MissingExplicitType, UnsupportedDestructuring}
use Rattle.fast_check_meaning_signatures.specs.declared.fault.FaultKind.TheVariants.{UnsupportedUsing}
use Rattle.fast_check_meaning_signatures.specs.declared.function_kind.FunctionKind.TheVariants.{DeclarationLike}
use Rattle.fast_check_meaning_signatures.specs.Seen.{Seen, written, range, scope, flag, round, listed, declarator, faulty, refused, seens}
use Rattle.fast_check_meaning_signatures.specs.Typing.{type_of, seen_by}
use Rattle.fast_check_meaning_signatures.specs.Answers.{Adds, fault_at, faultless, with_tree, valued_declarator, answer_to, answer_of}
use Rattle.fast_check_meaning_signatures.specs.Expressions.{expr_seen}
use Rattle.fast_check_meaning_signatures.specs.Functions.{function_seen, implementation_seen}
use Rattle.fast_check_meaning_signatures.proofs.Choices.{of_choice}
use Rattle.fast_check_meaning_signatures.proofs.Adding.{adds_nothing, adds_fault, adds_same, adds_made, adds_demanded, adds_missing, adds_visited}
use Rattle.fast_check_transform_imports.specs.skeleton.Mutability.{mutability_of}
use Rattle.fast_check_transform_imports.specs.skeleton.ModuleFacts.{ModuleFacts}
use Rattle.fast_check_transform_imports.specs.skeleton.Visible.{declared_ident, declarator_head, typed_declarator, value_seen}
use Rattle.fast_check_transform_imports.specs.skeleton.Visible.{declarator_typing, ident_declarator_seen, declarator_seen, is_ambient_statement}
use Rattle.fast_check_transform_imports.specs.skeleton.Visible.{is_public_declarator, public_declarator, public_declarators, statement_seen}
use Rattle.fast_check_transform_imports.specs.skeleton.Visible.{signature_of, function_decl_seen, is_public_using, using_place, using_seen}
use Rattle.fast_check_transform_imports.proofs.skeleton_proofs.Standing.{declarator_one, statement_is}
use Rattle.fast_check_transform_statements.specs.PartAnswers.{retyped, value_answer, valued_answer, ident_answer, declarator_answer, public_answer}
use Rattle.fast_check_transform_statements.specs.PartAnswers.{declarators_answer, statement_answer, using_answer}
use Rattle.fast_check_transform_imports.proofs.module_facts.Listed.{alone, one_more, whole}

-- ---- declarators

module _ (facts : ModuleFacts) (place : SourceRange) (value : Tree) where
  pub absent_value : is_absent value ≡ true → (old : List Fault) → Adds (value_answer facts place value) None old old
  unfolding value_answer
  absent_value e old = adds_same (ap (λ b. answer_to (if b then refused else expr_seen facts.bindings value (Some place))) e)
      (adds_nothing None old)

  pub present_value : is_absent value ≡ false → {o : Option Tree} {old new : List Fault} →
      Adds (answer_to (expr_seen facts.bindings value (Some place))) o old new → Adds (value_answer facts place value) o old new
  unfolding value_answer
  present_value e h = adds_same (ap (λ b. answer_to (if b then refused else expr_seen facts.bindings value (Some place))) e) h

module _ (facts : ModuleFacts) (d : Tree) where
  abbrev name_place : SourceRange
  name_place = Ident-span (declared_ident d)

  abbrev missing : Fault
  missing = fault_at MissingExplicitType name_place

  -- where the value stays, and where it may not
  pub value_stays : {place : SourceRange} {value t : Tree} {o : Option Tree} {old new : List Fault} →
      Adds (value_answer facts place value) o old new →
      place ≡ name_place → value ≡ VarDeclarator-init d → o ≡ Some t → Adds (valued_answer facts d) (Some (retyped d Absent t)) old new
  unfolding value_answer valued_answer
  value_stays {old = old} {new = new} h p q e =
      adds_made (λ v. Some (valued_declarator (declarator_head d) v))
      (adds_demanded missing (subst (λ x. Adds (answer_to (value_seen facts name_place (VarDeclarator-init d))) x old new) e
      (adds_same (λ i. answer_to (value_seen facts (sym p i) (sym q i))) h)))

  pub value_goes : {place : SourceRange} {value : Tree} {o : Option Tree} {old new : List Fault} →
      Adds (value_answer facts place value) o old new →
      place ≡ name_place → value ≡ VarDeclarator-init d → o ≡ None → {all : List Fault} → all ≡ new ++ fault_at MissingExplicitType place ∷
      [] →
      Adds (valued_answer facts d) (Some (retyped d Absent Absent)) old all
  unfolding value_answer valued_answer
  value_goes {old = old} {new = new} h p q e f =
      subst (λ fs. Adds (answer_to (declarator (declarator_head d) (value_seen facts name_place (VarDeclarator-init d))))
      (Some (retyped d Absent Absent)) old fs)
      (sym (f ∙ ap (λ r. new ++ fault_at MissingExplicitType r ∷ []) p))
      (adds_made (λ v. Some (valued_declarator (declarator_head d) v))
      (adds_missing missing (subst (λ x. Adds (answer_to (value_seen facts name_place (VarDeclarator-init d))) x old new) e
      (adds_same (λ i. answer_to (value_seen facts (sym p i) (sym q i))) h))))

module _ (facts : ModuleFacts) (mutability : DeclMutabilityKind) (d : Tree) where
  abbrev ident_by : Option Tree → Seen
  ident_by o =
      seen_by o (λ type. written (typed_declarator (declarator_head d) type))
      (declarator (declarator_head d) (value_seen facts (Ident-span (declared_ident d)) (VarDeclarator-init d)))

  pub given_ident : (type : Tree) → type_of facts.bindings.unresolved (declarator_typing mutability d) ≡ Some type → (old : List Fault) →
      Adds (ident_answer facts mutability d) (Some (retyped d type never_value)) old old
  unfolding ident_answer
  given_ident type e old = adds_same (ap (λ o. answer_to (ident_by o)) e) (adds_nothing _ old)

  pub valued_ident : type_of facts.bindings.unresolved (declarator_typing mutability d) ≡ None → {t : Tree} {old new : List Fault} →
      Adds (valued_answer facts d) (Some t) old new → Adds (ident_answer facts mutability d) (Some t) old new
  unfolding ident_answer valued_answer
  valued_ident e h = adds_same (ap (λ o. answer_to (ident_by o)) e) h

  abbrev typed_if : Bool → Seen
  typed_if b = if b then ident_declarator_seen facts mutability d else faulty UnsupportedDestructuring
      (range_of_node (VarDeclarator-name d))

  pub typed_ident : kind_of (VarDeclarator-name d) is BindingIdent ≡ true → {t : Tree} {old new : List Fault} →
      Adds (ident_answer facts mutability d) (Some t) old new → Adds (declarator_answer facts mutability d) (Some t) old new
  unfolding ident_answer declarator_answer
  typed_ident e h = adds_same (ap (λ b. answer_to (typed_if b)) e) h

  pub typed_pattern : kind_of (VarDeclarator-name d) is BindingIdent ≡ false → {old new : List Fault} →
      new ≡ old ++ fault_at UnsupportedDestructuring (range_of_node (VarDeclarator-name d)) ∷ [] →
      Adds (declarator_answer facts mutability d) (Some Absent) old new
  unfolding declarator_answer
  typed_pattern e {old} p =
      adds_same (ap (λ b. answer_to (typed_if b)) e)
      (subst (λ fs. Adds (answer_to (typed_if false)) (Some Absent) old fs) (sym p) (adds_fault (Some Absent) _ old))

module _ (facts : ModuleFacts) (statement d : Tree) where
  abbrev in_if : Bool → Bool → List Seen
  in_if p a = if p then (if a then written d else declarator_seen facts (mutability_of (VarDecl-kind statement)) d) ∷ [] else []

  pub private_declarator : is_public_declarator facts d ≡ false → (old : List Fault) → Adds (public_answer facts statement d) [] old old
  unfolding public_answer
  private_declarator e old = adds_same (ap (λ p. answer_of (in_if p (is_ambient_statement facts statement))) e) (adds_nothing [] old)

  pub ambient_declarator : is_public_declarator facts d ≡ true → is_ambient_statement facts statement ≡ true → {t : Tree} → t ≡ d →
      (old : List Fault) →
      Adds (public_answer facts statement d) (t ∷ []) old old
  unfolding public_answer
  ambient_declarator e f p old =
      subst (λ u. Adds (answer_of (public_declarator facts statement d)) (u ∷ []) old old) (sym p)
      (adds_same (λ i. answer_of (in_if (e i) (f i))) (adds_nothing (d ∷ []) old))

  pub public_declarator_stays : is_public_declarator facts d ≡ true → is_ambient_statement facts statement ≡ false →
      {t : Tree} {old new : List Fault} →
      Adds (declarator_answer facts (mutability_of (VarDecl-kind statement)) d) (Some t) old new →
      Adds (public_answer facts statement d) (t ∷ []) old new
  unfolding public_answer declarator_answer
  public_declarator_stays e f h = adds_same (λ i. answer_of (in_if (e i) (f i)))
      (alone (declarator_seen facts (mutability_of (VarDecl-kind statement)) d) h)

-- ---- statements

module _ (facts : ModuleFacts) (statement : Tree) where
  pub no_declarators : {xs : List Tree} → xs ≡ [] → (old : List Fault) → Adds (declarators_answer facts statement []) xs old old
  unfolding declarators_answer
  no_declarators e old = subst (λ x. Adds (answer_of []) x old old) (sym e) (adds_nothing [] old)

  pub one_more_declarator : (ds : List Tree) (i : ℕ) (d : Tree) → i < length ds → d ≡ get_or ds i d →
      {xs ys zs : List Tree} {old mid new : List Fault} → Adds (declarators_answer facts statement (take i ds)) xs old mid →
      Adds (public_answer facts statement d) ys mid new → zs ≡ xs ++ ys →
      Adds (declarators_answer facts statement (take (i + 1) ds)) zs old new
  unfolding declarators_answer public_answer
  one_more_declarator ds i d h e g k p = one_more (public_declarator facts statement) ds i d h e g k p

  pub all_declarators : {ds es : List Tree} (i : ℕ) → length ds ≤ i → ds ≡ es → {xs : List Tree} {old new : List Fault} →
      Adds (declarators_answer facts statement (take i ds)) xs old new → Adds (declarators_answer facts statement es) xs old new
  unfolding declarators_answer
  all_declarators i h e g = whole (public_declarator facts statement) i h e g

  -- each declarator that is seen is answered by one tree
  abbrev HasTree : Seen → Type 0
  HasTree s = (t : Tree) × ((answer_to s).stays ≡ Some t)

  abbrev AllHave : List Seen → Type 0
  AllHave [] = Unit {0}
  AllHave (s ∷ ss) = HasTree s × AllHave ss

  all_append : (xs ys : List Seen) → AllHave xs → AllHave ys → AllHave (xs ++ ys)
  all_append [] ys p q = q
  all_append (x ∷ xs) ys p q = (p.0, all_append xs ys p.1 q)

  declarators_have : (ds : List Tree) → AllHave (flat_map (public_declarator facts statement) ds)
  declarators_have [] = tt
  declarators_have (d ∷ ds) =
      all_append (public_declarator facts statement d) (flat_map (public_declarator facts statement) ds)
      (of_choice AllHave (is_public_declarator facts d) _ _
      (λ e. (
        of_choice HasTree (is_ambient_statement facts statement) _ _ (λ e. (d, refl))
            (λ e. declarator_one facts (mutability_of (VarDecl-kind statement)) d),
        tt,
      )) (λ e. tt))
      (declarators_have ds)

  none_seen : (ss : List Seen) → AllHave ss → (answer_of ss).stays ≡ [] → ss ≡ []
  none_seen [] h e = refl
  none_seen (s ∷ ss) h e = let f : h.0.0 ∷ (answer_of ss).stays ≡ [] = sym (ap (λ o. with_tree o (answer_of ss).stays) h.0.1) ∙ e in cc

  pub no_statement : {xs : List Tree} {old new : List Fault} → Adds
      (declarators_answer facts statement (parts (VarDecl-decls statement))) xs old new →
      xs ≡ [] → Adds (statement_answer facts statement) [] old new
  unfolding declarators_answer statement_answer
  no_statement {old = old} {new = new} h e =
      let ss = public_declarators facts statement in
      let none : ss ≡ [] = none_seen ss (declarators_have (parts (VarDecl-decls statement))) (ap (λ a. a.stays) h.is ∙ e) in
      adds_same (ap (λ x. answer_of (statement_seen statement x)) none ∙ sym (ap answer_of none))
      (subst (λ x. Adds (answer_of ss) x old new) e h)

  abbrev with_declarators : List Tree → Tree
  with_declarators ds = var_decl (VarDecl-span statement) (VarDecl-ctxt statement) (VarDecl-kind statement) (VarDecl-declare statement)
      (list ds)

  abbrev statement_form : List Seen → Seen
  statement_form ss =
      round VarDecl (seens (range (VarDecl-span statement) ∷ scope (VarDecl-ctxt statement) ∷ written (VarDecl-kind statement) ∷
      flag (VarDecl-declare statement) ∷ listed (seens ss) ∷ []))

  seen_statement : (ss : List Seen) {xs : List Tree} {old new : List Fault} → Adds (answer_of ss) xs old new → (xs ≡ [] → ⊥) →
      Adds (answer_of (statement_seen statement ss)) (with_declarators xs ∷ []) old new
  seen_statement [] h some = absurd (some (sym (ap (λ a. a.stays) h.is)))
  seen_statement (s ∷ ss) h some =
      alone (statement_form (s ∷ ss)) (adds_same (statement_is facts statement (s ∷ ss)) (adds_made (λ ds. Some (with_declarators ds)) h))

  pub made_statement : {xs : List Tree} {old new : List Fault} →
      Adds (declarators_answer facts statement (parts (VarDecl-decls statement))) xs old new →
      (xs ≡ [] → ⊥) → {t : Tree} → t ≡ with_declarators xs → Adds (statement_answer facts statement) (t ∷ []) old new
  unfolding declarators_answer statement_answer
  made_statement {old = old} {new = new} h some p =
      let seen = statement_seen statement (public_declarators facts statement) in
      subst (λ u. Adds (answer_of seen) (u ∷ []) old new) (sym p) (seen_statement (public_declarators facts statement) h some)

-- ---- functions

module _ (facts : ModuleFacts) (place : SourceRange) (decl : Tree) where
  abbrev signature_if : Bool → Seen
  signature_if b =
      if b then implementation_seen (FnDecl-function decl)
      else function_seen facts.bindings (expr_seen facts.bindings) DeclarationLike (Ident-span (FnDecl-ident decl)) (FnDecl-function decl)

  pub implementation : facts.is_implementation place ≡ true → {f t : Tree} → f ≡ FnDecl-function decl →
      answer_to (implementation_seen f) ≡ faultless (Some t) → (old : List Fault) →
      Adds (answer_to (signature_of facts place decl)) (Some t) old old
  implementation e q p old =
      adds_same (ap (λ b. answer_to (signature_if b)) e ∙ (ap (λ f. answer_to (implementation_seen f)) (sym q) ∙ p)) (adds_nothing _ old)

  pub signature : facts.is_implementation place ≡ false → {name : SourceRange} {function t : Tree} {old new : List Fault} →
      Adds (answer_to (function_seen facts.bindings (expr_seen facts.bindings) DeclarationLike name function)) (Some t) old new →
      name ≡ Ident-span (FnDecl-ident decl) → function ≡ FnDecl-function decl →
      Adds (answer_to (signature_of facts place decl)) (Some t) old new
  signature e h p q =
      adds_same (ap (λ b. answer_to (signature_if b)) e
      ∙ (λ i. answer_to (function_seen facts.bindings (expr_seen facts.bindings) DeclarationLike (sym p i) (sym q i)))) h

  abbrev decl_if : Bool → Seen
  decl_if b =
      if b then written decl else round FnDecl
      (seens (written (FnDecl-ident decl) ∷ flag (FnDecl-declare decl) ∷ signature_of facts place decl ∷ []))

  pub ambient_function : facts.is_ambient ≡ true → {t : Tree} → t ≡ decl → (old : List Fault) →
      Adds (answer_to (function_decl_seen facts place decl)) (Some t) old old
  ambient_function e {t} p old =
      subst (λ u. Adds (answer_to (function_decl_seen facts place decl)) (Some u) old old) (sym p)
      (adds_same (ap (λ b. answer_to (decl_if b)) e) (adds_nothing _ old))

  pub made_function : facts.is_ambient ≡ false → {function t : Tree} {old new : List Fault} →
      Adds (answer_to (signature_of facts place decl)) (Some function) old new →
      t ≡ fn_decl (FnDecl-ident decl) (FnDecl-declare decl) function →
      Adds (answer_to (function_decl_seen facts place decl)) (Some t) old new
  made_function e {old = old} {new = new} h p =
      subst (λ u. Adds (answer_to (function_decl_seen facts place decl)) (Some u) old new) (sym p)
      (adds_same (ap (λ b. answer_to (decl_if b)) e)
      (adds_made (option_map (node FnDecl)) (adds_visited (adds_nothing (Some (FnDecl-ident decl)) _)
      (adds_visited (adds_nothing (Some (tree.Flag (FnDecl-declare decl))) _) (adds_visited h (adds_nothing (Some []) new))))))

-- ---- `using`

module _ (facts : ModuleFacts) (place : SourceRange) (decl : Tree) where
  abbrev using_if : Bool → List Seen
  using_if p = if p then faulty UnsupportedUsing (using_place decl) ∷ [] else []

  pub private_using : is_public_using facts place decl ≡ false → (old : List Fault) → Adds (using_answer facts place decl) [] old old
  unfolding using_answer
  private_using e old = adds_same (ap (λ p. answer_of (using_if p)) e) (adds_nothing [] old)

  pub public_using : is_public_using facts place decl ≡ true → {at : SourceRange} → at ≡ using_place decl → {old new : List Fault} →
      new ≡ old ++ fault_at UnsupportedUsing at ∷ [] → Adds (using_answer facts place decl) (Absent ∷ []) old new
  unfolding using_answer
  public_using e p {old} f =
      subst (λ fs. Adds (answer_of (using_seen facts place decl)) (Absent ∷ []) old fs)
      (sym (f ∙ ap (λ r. old ++ fault_at UnsupportedUsing r ∷ []) p))
      (adds_same (ap (λ p. answer_of (using_if p)) e)
      (alone (faulty UnsupportedUsing (using_place decl)) (adds_fault (Some Absent) (fault_at UnsupportedUsing (using_place decl)) old)))
