-- What is answered to properties and accessors, case by case.
use Rattle.std.specs.Prelude.{◌≡◌, Bool, true, false, Option, Some, None, List, [], ◌∷◌, ◌++◌, if◌then◌else◌}
use Rattle.std.proofs.Common.{ap, ◌∙◌, sym, subst}
use Rattle.fast_check_tree_syntax.specs.declared.source.SourceRange.{SourceRange}
use Rattle.fast_check_tree_syntax.specs.declared.tree.Tree.{Tree, Absent}
use Rattle.fast_check_tree_syntax.specs.Shape.{is_absent}
use Rattle.fast_check_tree_forms_classes.specs.Fields.{ClassProp-key, ClassProp-value}
use Rattle.fast_check_tree_forms_classes.specs.Fields.{AutoAccessor-key}
use Rattle.fast_check_tree_helpers.specs.ranges.Ranges.{range_of_node}
use Rattle.fast_check_meaning_signatures.specs.Bindings.{Bindings}
use Rattle.fast_check_meaning_signatures.specs.declared.fault.Fault.{Fault}
use Rattle.fast_check_meaning_signatures.specs.declared.fault.FaultKind.TheVariants.{MissingExplicitType}
use Rattle.fast_check_meaning_signatures.specs.Seen.{Seen, property, faulty, refused}
use Rattle.fast_check_meaning_signatures.specs.Typing.{type_of, seen_by}
use Rattle.fast_check_meaning_signatures.specs.Answers.{Answer, Adds, fault_at, demanded, answer_to, declared_property, valued_property}
use Rattle.fast_check_meaning_signatures.specs.Expressions.{expr_seen}
use Rattle.fast_check_meaning_signatures.specs.Classes.{typed_property, property_head, accessor_head, property_typing, accessor_typing}
use Rattle.fast_check_meaning_signatures.specs.Classes.{member_value_seen}
use Rattle.fast_check_meaning_signatures.proofs.Adding.{adds_nothing, adds_same, adds_made, adds_missing, adds_fault}
use Rattle.fast_check_transform_classes.specs.Parts.{no_implementations, value_answer, property_answer}
use Rattle.fast_check_transform_classes.specs.Parts.{accessor_answer}

module _ (u : Bindings) (m : Tree) where
  abbrev place : SourceRange
  place = range_of_node (ClassProp-key m)

  abbrev value_if : Bool → Answer Tree
  value_if b =
      demanded (fault_at MissingExplicitType place) (answer_to (if b then refused else expr_seen u (ClassProp-value m) (Some place)))

  -- the value that is to give the type
  pub absent_value : is_absent (ClassProp-value m) ≡ true → {old all : List Fault} → all ≡ old ++ fault_at MissingExplicitType place ∷ [] →
      Adds (value_answer u m) Absent old all
  unfolding value_answer
  absent_value e {old} p = subst (λ fs. Adds (value_if (is_absent (ClassProp-value m))) Absent old fs) (sym p)
      (adds_same (ap value_if e) (adds_missing (fault_at MissingExplicitType place) (adds_nothing None old)))

  pub present_value : is_absent (ClassProp-value m) ≡ false → {at : SourceRange} {value t : Tree} {old new : List Fault} →
      Adds (demanded (fault_at MissingExplicitType at) (answer_to (expr_seen u value (Some at)))) t old new → at ≡ place →
      value ≡ ClassProp-value m →
      Adds (value_answer u m) t old new
  unfolding value_answer
  present_value e h p q = adds_same (ap value_if e
      ∙ (λ i. demanded (fault_at MissingExplicitType (sym p i)) (answer_to (expr_seen u (sym q i) (Some (sym p i)))))) h

  abbrev property_by : Option Tree → Seen
  property_by o =
      seen_by o (typed_property (property_head m)) (property (property_head m)
      (member_value_seen u no_implementations place (ClassProp-value m)))

  pub typed_property_stays : (type : Tree) → type_of u.unresolved (property_typing m) ≡ Some type → (old : List Fault) →
      Adds (property_answer u m) (Some (declared_property (property_head m) type)) old old
  unfolding property_answer
  typed_property_stays type e old = adds_same (ap (λ o. answer_to (property_by o)) e) (adds_nothing _ old)

  pub valued_property_stays : type_of u.unresolved (property_typing m) ≡ None → {t : Tree} {old new : List Fault} →
      Adds (value_answer u m) t old new → Adds (property_answer u m) (Some (valued_property (property_head m) t)) old new
  unfolding property_answer value_answer
  valued_property_stays e h =
      adds_same (ap (λ o. answer_to (property_by o)) e) (adds_made (λ v. Some (valued_property (property_head m) v)) h)

  -- ---- accessors

  abbrev missing : Fault
  missing = fault_at MissingExplicitType (range_of_node (AutoAccessor-key m))

  abbrev accessor_by : Option Tree → Seen
  accessor_by o = seen_by o (typed_property (accessor_head m)) (faulty MissingExplicitType (range_of_node (AutoAccessor-key m)))

  pub typed_accessor : (type : Tree) → type_of u.unresolved (accessor_typing m) ≡ Some type → (old : List Fault) →
      Adds (accessor_answer u m) (Some (declared_property (accessor_head m) type)) old old
  unfolding accessor_answer
  typed_accessor type e old = adds_same (ap (λ o. answer_to (accessor_by o)) e) (adds_nothing _ old)

  pub untyped_accessor : type_of u.unresolved (accessor_typing m) ≡ None → {old all : List Fault} → all ≡ old ++ missing ∷ [] →
      Adds (accessor_answer u m) (Some Absent) old all
  unfolding accessor_answer
  untyped_accessor e {old} p =
      subst (λ fs. Adds (answer_to (accessor_by (type_of u.unresolved (accessor_typing m)))) (Some Absent) old fs) (sym p)
      (adds_same (ap (λ o. answer_to (accessor_by o)) e) (adds_fault (Some Absent) missing old))
