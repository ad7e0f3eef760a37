-- What is answered to namespaces, what goes inside of them, and how high their items are.
use Rattle.std.specs.Prelude.{◌≡◌, ◌≤◌, Bool, true, false, not, ◌&&◌, Option, Some, None, List, [], ◌∷◌, ◌++◌, refl, if◌then◌else◌}
use Rattle.std.proofs.Common.{arith, ap, ◌∙◌, sym, subst}
use Rattle.fast_check_tree_syntax.specs.declared.source.SourcePos.{SourcePos}
use Rattle.fast_check_tree_syntax.specs.declared.source.SourceRange.{SourceRange}
use Rattle.fast_check_tree_syntax.specs.declared.tree.Tree.{Tree, Absent}
use Rattle.fast_check_tree_syntax.specs.Shape.{parts}
use Rattle.fast_check_tree_syntax.specs.Height.{height, height_at_most}
use Rattle.fast_check_tree_helpers.specs.ranges.Ranges.{range_of_node}
use Rattle.fast_check_tree_forms_statements.specs.TsDeclarations.{TsModuleDecl-span, TsModuleDecl-global, TsModuleDecl-id, TsModuleDecl-body}
use Rattle.fast_check_tree_forms_statements.specs.TsDeclarations.{TsModuleBlock-body}
use Rattle.fast_check_meaning_signatures.specs.declared.fault.Fault.{Fault}
use Rattle.fast_check_meaning_signatures.specs.declared.fault.FaultKind.TheVariants.{UnsupportedGlobalModule, UnsupportedAmbientModule}
use Rattle.fast_check_meaning_signatures.specs.Seen.{Seen, faulty}
use Rattle.fast_check_meaning_signatures.specs.Answers.{Adds, fault_at, answer_of}
use Rattle.fast_check_meaning_signatures.proofs.Adding.{adds_nothing, adds_fault, adds_made, adds_same}
use Rattle.fast_check_transform_statements.specs.skeleton.KeptComments.{removed_from, start_look, starts_in_namespace}
use Rattle.fast_check_transform_statements.specs.skeleton.Namespaces.{is_ambient_module, is_namespace, innermost, items_inside}
use Rattle.fast_check_transform_statements.specs.skeleton.Namespaces.{namespace_round, namespace_with}
use Rattle.fast_check_transform_statements.specs.skeleton.ModuleFacts.{ModuleFacts, inside}
use Rattle.fast_check_transform_statements.specs.skeleton.Visible.{item_look, body_seen, namespace_seen}
use Rattle.fast_check_transform_statements.proofs.skeleton_proofs.Namespaces.{innermost_at_most, namespace_if, hidden_namespace}
use Rattle.fast_check_transform_statements.proofs.skeleton_proofs.Namespaces.{global_is, ambient_module_is}
use Rattle.fast_check_transform_statements.proofs.skeleton_proofs.StandingNamespaces.{namespace_is}
use Rattle.fast_check_transform_statements.specs.PartAnswers.{module_fault}
use Rattle.fast_check_transform_imports.proofs.module_facts.Listed.{alone}
use Rattle.fast_check_transform_module.specs.PartAnswers.{namespace_answer, items_answer}

-- the items of a namespace are no higher than it
pub inside_at_most : (decl body : Tree) → body ≡ TsModuleBlock-body (innermost (TsModuleDecl-body decl)) → height body ≤ height decl
inside_at_most decl body e =
    let block = innermost (TsModuleDecl-body decl) in
    subst (λ t. height t ≤ height decl) (sym e)
    (omega (arith, height_at_most block 1, innermost_at_most (TsModuleDecl-body decl), height_at_most decl 5))

abbrev fault_if : Tree → Bool → Bool → Option Fault
fault_if decl global ambient =
    if global then Some (fault_at UnsupportedGlobalModule (TsModuleDecl-span decl))
    else (if ambient then Some (fault_at UnsupportedAmbientModule (range_of_node (TsModuleDecl-id decl))) else None)

-- a module without a fault is a namespace, and another is none
pub faultless_namespace : (decl : Tree) → module_fault decl ≡ None → is_namespace decl ≡ true
faultless_namespace decl e = go (TsModuleDecl-global decl) (is_ambient_module decl) e
  where
    go : (g m : Bool) → fault_if decl g m ≡ None → (not g && not m) ≡ true
    go false false f = refl
    go true m f = cc
    go false true f = cc

pub faulty_namespace : (decl : Tree) (f : Fault) → module_fault decl ≡ Some f → is_namespace decl ≡ false
faulty_namespace decl f e = go (TsModuleDecl-global decl) (is_ambient_module decl) e
  where
    go : (g m : Bool) → fault_if decl g m ≡ Some f → (not g && not m) ≡ false
    go true m e = refl
    go false true e = refl
    go false false e = cc

module _ (facts : ModuleFacts) (place : SourceRange) (decl : Tree) where
  -- a fault that is reported
  diagnosed : {f : Fault} {old new : List Fault} → new ≡ old ++ f ∷ [] → {g : Fault} → f ≡ g →
      namespace_seen item_look facts place decl ≡ faulty g.kind g.range ∷ [] →
      Adds (namespace_answer facts place decl) (Absent ∷ []) old new
  unfolding namespace_answer
  diagnosed {f} {old} {new} n {g} e s =
      subst (λ fs. Adds (answer_of (namespace_seen item_look facts place decl)) (Absent ∷ []) old fs) (sym (n ∙ ap (λ x. old ++ x ∷ []) e))
      (adds_same (ap answer_of s) (alone (faulty g.kind g.range) (adds_fault (Some Absent) g old)))

  pub refused_module : {f : Fault} → module_fault decl ≡ Some f → {old new : List Fault} → new ≡ old ++ f ∷ [] →
      Adds (namespace_answer facts place decl) (Absent ∷ []) old new
  refused_module {f} e {old} {new} n = go (TsModuleDecl-global decl) (is_ambient_module decl) refl refl e
    where
      go : (g m : Bool) → TsModuleDecl-global decl ≡ g → is_ambient_module decl ≡ m → fault_if decl g m ≡ Some f →
          Adds (namespace_answer facts place decl) (Absent ∷ []) old new
      go true m p q e = diagnosed n (sym cc) (global_is facts place decl p)
      go false true p q e = diagnosed n (sym cc) (ambient_module_is facts place decl p q)
      go false false p q e = cc

  pub private_namespace : module_fault decl ≡ None → facts.is_public place ≡ false → (old : List Fault) →
      Adds (namespace_answer facts place decl) [] old old
  unfolding namespace_answer
  private_namespace e p old = adds_same (ap answer_of (hidden_namespace facts place decl (faultless_namespace decl e) p))
      (adds_nothing [] old)

  abbrev seen_inside : List Seen
  seen_inside = body_seen item_look (inside facts decl) (items_inside decl)

  pub public_namespace : module_fault decl ≡ None → facts.is_public place ≡ true → {here : ModuleFacts} {body : Tree} {ts : List Tree}
      {old new : List Fault} → Adds (items_answer here (parts body)) ts old new → here ≡ inside facts decl →
      body ≡ TsModuleBlock-body (innermost (TsModuleDecl-body decl)) → {t : Tree} → t ≡ namespace_with ts decl →
      Adds (namespace_answer facts place decl) (t ∷ []) old new
  unfolding namespace_answer items_answer
  public_namespace e p {ts = ts} {old = old} {new = new} h q b {t} m =
      let items : Adds (answer_of seen_inside) ts old new = adds_same
      (λ i. answer_of (body_seen item_look (sym q i) (parts (sym b i)))) h in
      let seen : namespace_seen item_look facts place decl ≡ namespace_round seen_inside decl ∷ [] =
      namespace_if facts place decl (faultless_namespace decl e) ∙ ap (λ x. if x then namespace_round seen_inside decl ∷ [] else []) p in
      subst (λ u. Adds (answer_of (namespace_seen item_look facts place decl)) (u ∷ []) old new) (sym m)
      (adds_same (ap answer_of seen) (alone (namespace_round seen_inside decl) (adds_same (namespace_is seen_inside decl)
      (adds_made (λ ts. Some (namespace_with ts decl)) items))))

  -- ---- the comments

  abbrev starts_if : Bool → Bool → List SourcePos
  starts_if namespace public = if namespace && public then removed_from (inside facts decl) (items_inside decl) else []

  pub nothing_refused : {f : Fault} → module_fault decl ≡ Some f → starts_in_namespace start_look facts place decl ≡ []
  nothing_refused {f} e = ap (λ n. starts_if n (facts.is_public place)) (faulty_namespace decl f e)

  pub nothing_private : module_fault decl ≡ None → facts.is_public place ≡ false → starts_in_namespace start_look facts place decl ≡ []
  nothing_private e p = λ i. starts_if (faultless_namespace decl e i) (p i)

  pub all_inside : module_fault decl ≡ None → facts.is_public place ≡ true → {here : ModuleFacts} {body : Tree} →
      here ≡ inside facts decl →
      body ≡ TsModuleBlock-body (innermost (TsModuleDecl-body decl)) →
      starts_in_namespace start_look facts place decl ≡ removed_from here (parts body)
  all_inside e p q b = (λ i. starts_if (faultless_namespace decl e i) (p i)) ∙ (λ i. removed_from (sym q i) (parts (sym b i)))
