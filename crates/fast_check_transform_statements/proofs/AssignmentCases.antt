-- What is answered to assignments that are statements, and what they declare.
use Rattle.std.specs.Prelude.{◌≡◌, Bool, true, false, not, ◌&&◌, Option, Some, None, List, [], ◌∷◌, ◌++◌, refl, if◌then◌else◌}
use Rattle.std.proofs.Common.{ap, ◌∙◌, sym}
use Rattle.std.proofs.lemmas.List.{append-nil, append_assoc}
use Rattle.fast_check_tree_syntax.specs.declared.atom.Id.{Id}
use Rattle.fast_check_tree_syntax.specs.declared.source.SourceRange.{SourceRange}
use Rattle.fast_check_tree_syntax.specs.declared.tree.Tree.{Tree}
use Rattle.fast_check_tree_forms_expressions.specs.Calls.{MemberExpr-span}
use Rattle.fast_check_tree_forms_expressions.specs.Operators.{AssignExpr-span, AssignExpr-left, AssignExpr-right}
use Rattle.fast_check_tree_helpers.specs.ranges.Ranges.{range_of_node}
use Rattle.fast_check_tables_symbols.specs.declared.symbol.Symbol.{Symbol}
use Rattle.fast_check_tables_modules.specs.EsModule.{EsModule}
use Rattle.fast_check_tables_modules.specs.Expandos.{is_expando_assignment}
use Rattle.fast_check_tables_modules.specs.symbols.Tables.{symbol_of_swc}
use Rattle.fast_check_meaning_signatures.specs.declared.fault.Fault.{Fault}
use Rattle.fast_check_meaning_signatures.specs.declared.fault.FaultKind.TheVariants.{MissingExplicitType}
use Rattle.fast_check_meaning_signatures.specs.Answers.{Answer, Adds, fault_at, unless_stays, answer_to, answer_of}
use Rattle.fast_check_meaning_signatures.specs.Seen.{Seen, tested}
use Rattle.fast_check_meaning_signatures.proofs.Adding.{adds_nothing, adds_same}
use Rattle.fast_check_meaning_expandos.specs.Assignments.{right_seen, is_declared, missing_place, kept_property}
use Rattle.fast_check_meaning_expandos.specs.Expandos.{object_of}
use Rattle.fast_check_meaning_expandos.specs.ModuleObjects.{objects_of}
use Rattle.fast_check_meaning_expandos.specs.Objects.{Objects, exports_name, stands_exported}
use Rattle.fast_check_transform_imports.specs.skeleton.ModuleFacts.{ModuleFacts}
use Rattle.fast_check_transform_statements.specs.Assigned.{assignment_answer, assignment_properties, missing_at}
use Rattle.fast_check_transform_statements.specs.PartAnswers.{value_answer}

-- what is tested adds its faults, and what is missing
tested_adds : (place : Option SourceRange) (s : Seen) (o : Option Tree) {old mid new : List Fault} → Adds (answer_to s) o old mid →
    new ≡ mid ++ missing_at place o → Adds (answer_of (tested place s ∷ [])) [] old new
tested_adds None s o {old} {mid} {new} h e = record {
  added = h.added;
  is = λ i. record { stays = []; faults = (append-nil (answer_to s).faults ∙ ap (λ a. a.faults) h.is) i };
  faults = e ∙ (append-nil mid ∙ h.faults);
}
tested_adds (Some place) s o {old} {mid} {new} h e =
    let fault = fault_at MissingExplicitType place in record {
      added = h.added ++ unless_stays o fault;
      is = λ i. record {
        stays = [];
        faults = (append-nil ((answer_to s).faults ++ unless_stays (answer_to s).stays fault)
            ∙ ap (λ (a : Answer (Option Tree)). a.faults ++ unless_stays a.stays fault) h.is) i;
      };
      faults = e ∙ (ap (λ fs. fs ++ unless_stays o fault) h.faults ∙ append_assoc old h.added (unless_stays o fault));
    }

module _ (facts : ModuleFacts) (a : Tree) where
  pub hidden_assignment : facts.is_public (AssignExpr-span a) ≡ false → (old : List Fault) → Adds (assignment_answer facts a) [] old old
  unfolding assignment_answer
  hidden_assignment e old =
      adds_same (ap (λ p. answer_of (if p then tested (missing_place facts.objects a) (right_seen facts.bindings a) ∷ [] else [])) e)
      (adds_nothing [] old)

  pub hidden_properties : facts.is_public (AssignExpr-span a) ≡ false → assignment_properties facts a ≡ []
  unfolding assignment_properties
  hidden_properties e =
      ap (λ p. if p && is_expando_assignment a then kept_property facts.objects (AssignExpr-span a) (AssignExpr-left a)
      (answer_to (right_seen facts.bindings a)).stays else []) e

  -- of one that is public
  pub tested_assignment : facts.is_public (AssignExpr-span a) ≡ true →
      {place : SourceRange} {value : Tree} (o : Option Tree) {old mid new : List Fault} →
      Adds (value_answer facts place value) o old mid → place ≡ range_of_node (AssignExpr-right a) → value ≡ AssignExpr-right a →
      new ≡ mid ++ missing_at (missing_place facts.objects a) o → Adds (assignment_answer facts a) [] old new
  unfolding assignment_answer value_answer
  tested_assignment e o h p q f =
      adds_same (ap (λ p. answer_of (if p then tested (missing_place facts.objects a) (right_seen facts.bindings a) ∷ [] else [])) e)
      (tested_adds (missing_place facts.objects a) (right_seen facts.bindings a) o
      (adds_same (λ i. value_answer facts (sym p i) (sym q i)) h) f)

  -- of one that is no expando nothing is missing, and it declares nothing
  pub nothing_missing : is_expando_assignment a ≡ false → (o : Option Tree) (old : List Fault) →
      old ≡ old ++ missing_at (missing_place facts.objects a) o
  nothing_missing e o old =
      sym (append-nil old) ∙ sym (ap (λ x. old ++ missing_at (if x && not (is_declared facts.objects (AssignExpr-left a)) then
      Some (MemberExpr-span (AssignExpr-left a)) else None) o) e)

  pub no_property : is_expando_assignment a ≡ false → assignment_properties facts a ≡ []
  unfolding assignment_properties
  no_property e = go (facts.is_public (AssignExpr-span a))
    where
      go : (p : Bool) → (if p && is_expando_assignment a then kept_property facts.objects (AssignExpr-span a) (AssignExpr-left a)
          (answer_to (right_seen facts.bindings a)).stays else []) ≡ []
      go true =
          ap (λ x. if x then kept_property facts.objects (AssignExpr-span a) (AssignExpr-left a)
          (answer_to (right_seen facts.bindings a)).stays
          else []) e
      go false = refl

  pub property_stays : facts.is_public (AssignExpr-span a) ≡ true → is_expando_assignment a ≡ true →
      {place : SourceRange} {value : Tree} (o : Option Tree)
      {old mid : List Fault} → Adds (value_answer facts place value) o old mid → place ≡ range_of_node (AssignExpr-right a) →
      value ≡ AssignExpr-right a →
      assignment_properties facts a ≡ kept_property facts.objects (AssignExpr-span a) (AssignExpr-left a) o
  unfolding assignment_properties value_answer
  property_stays e f o h p q =
      (λ i. if e i && f i then kept_property facts.objects (AssignExpr-span a) (AssignExpr-left a)
      (answer_to (right_seen facts.bindings a)).stays else [])
      ∙ ap (λ (x : Answer (Option Tree)). kept_property facts.objects (AssignExpr-span a) (AssignExpr-left a) x.stays)
      ((λ i. value_answer facts (sym p i) (sym q i)) ∙ h.is)

-- ---- what the symbols of a module say

module _ (info : EsModule) (target : Tree) {id : Id} {symbol : Option Symbol} (s : symbol ≡ symbol_of_swc info.tables id)
    (e : id ≡ object_of target) where
  pub exports_are : exports_name symbol ≡ (objects_of info).exports (object_of target)
  unfolding objects_of
  exports_are = ap exports_name (s ∙ ap (symbol_of_swc info.tables) e)

  pub keyword_is : stands_exported symbol ≡ (objects_of info).has_export_keyword (object_of target)
  unfolding objects_of
  keyword_is = ap stands_exported (s ∙ ap (symbol_of_swc info.tables) e)

-- what is missing of an expando
pub missing_is : (objects : Objects) (a : Tree) → is_expando_assignment a ≡ true → {declared : Bool} →
    declared ≡ is_declared objects (AssignExpr-left a) →
    (if declared then [] else fault_at MissingExplicitType (MemberExpr-span (AssignExpr-left a)) ∷ []) ≡ missing_at
    (missing_place objects a) None
missing_is objects a e {declared} d =
    go declared ∙ (λ i. missing_at (if (sym e i) && not (d i) then Some (MemberExpr-span (AssignExpr-left a)) else None) None)
  where
    go : (b : Bool) → (if b then [] else fault_at MissingExplicitType (MemberExpr-span (AssignExpr-left a)) ∷ []) ≡
        missing_at (if true && not b then Some (MemberExpr-span (AssignExpr-left a)) else None) None
    go true = refl
    go false = refl

-- nothing is missing where a value stays
pub none_missing : (place : Option SourceRange) (value : Tree) (old : List Fault) → old ≡ old ++ missing_at place (Some value)
none_missing None value old = sym (append-nil old)
none_missing (Some place) value old = sym (append-nil old)
