-- What is answered to constructors: the first parameter property that is a pattern, parameters, and the node.
use Rattle.std.specs.Prelude.{◌≡◌, ℕ, suc, ◌+◌, ◌<◌, ◌≤◌, Bool, true, false, ◌&&◌, Option, Some, None, option_map, List, [], ◌∷◌, ◌++◌, map}
use Rattle.std.specs.Prelude.{length, drop, refl, if◌then◌else◌, Result, IfOk}
use Rattle.std.specs.List.{filter}
use lib.ListN.{get_or}
use Rattle.std.proofs.Common.{ap, ◌∙◌, sym, subst, add-one}
use Rattle.std.proofs.lemmas.Result.{IfOk-weaker}
use Rattle.std.proofs.Math.Seq.{drop-cons}
use Rattle.std.proofs.lemmas.List.{drop_all}
use Rattle.fast_check_tree_syntax.specs.declared.kind.Kind.TheVariants as kinds
use Rattle.fast_check_tree_syntax.specs.declared.source.SourceRange.{SourceRange}
use Rattle.fast_check_tree_syntax.specs.declared.tree.Tree as tree
use Rattle.fast_check_tree_syntax.specs.declared.tree.Tree.{Tree, Absent}
use Rattle.fast_check_tree_syntax.specs.Shape.{parts, node, list}
use Rattle.fast_check_tree_syntax.proofs.Made.{parts_node}
use Rattle.fast_check_tree_syntax.specs.declared.kind.Kind.TheVariants.{List as List'}
use Rattle.fast_check_tree_forms_classes.specs.Classes.{Constructor-span, Constructor-ctxt, Constructor-key, Constructor-params, Constructor-body}
use Rattle.fast_check_tree_forms_classes.specs.Classes.{Constructor-accessibility, Constructor-is_optional}
use Rattle.fast_check_tree_helpers.specs.ranges.Ranges.{range_of_node}
use Rattle.fast_check_meaning_signatures.specs.Bindings.{Bindings}
use Rattle.fast_check_meaning_signatures.specs.declared.fault.Fault.{Fault}
use Rattle.fast_check_meaning_signatures.specs.declared.fault.FaultKind.TheVariants.{UnsupportedDestructuring}
use Rattle.fast_check_meaning_signatures.specs.Seen.{Seen}
use Rattle.fast_check_meaning_signatures.specs.Answers.{Adds, fault_at, faultless, answer_to, answer_of}
use Rattle.fast_check_meaning_signatures.specs.Functions.{any_params_from}
use Rattle.fast_check_meaning_signatures.specs.Classes.{is_param_property, takes_apart, plain_param, param_target, constructor_body, constructor_of}
use Rattle.fast_check_meaning_signatures.specs.Classes.{unless_taken_apart, patterns_among, param_properties, constructor_params_seen}
use Rattle.fast_check_meaning_signatures.specs.Classes.{constructor_seen, plain_params_seen}
use Rattle.fast_check_meaning_signatures.specs.Members.{is_private}
use Rattle.fast_check_meaning_signatures.proofs.Adding.{adds_nothing, adds_same, adds_made, adds_fault, adds_visited}
use Rattle.fast_check_transform_expressions.specs.Looked.{params_looked}
use Rattle.fast_check_transform_classes.specs.Parts.{first_of, first_pattern, signed_constructor}

-- ---- the first pattern

abbrev place_of : Tree → SourceRange
place_of p = range_of_node (param_target p)

first_if : (x : Tree) (t : Bool) (ys : List Tree) → first_of (if t then x ∷ ys else ys) ≡ (if t then Some (place_of x) else first_of ys)
first_if x true ys = refl
first_if x false ys = refl

first_by : (x : Tree) (a : Bool) (ys : List Tree) →
    first_of (patterns_among (if a then x ∷ ys else ys)) ≡ (if a && takes_apart x then Some (place_of x) else first_of (patterns_among ys))
first_by x true ys = first_if x (takes_apart x) (patterns_among ys)
first_by x false ys = refl

next_pattern : (ps : List Tree) (i : ℕ) (d : Tree) → i < length ps →
    first_pattern (drop i ps) ≡ (if is_param_property (get_or ps i d) && takes_apart (get_or ps i d) then Some (place_of (get_or ps i d))
    else first_pattern (drop (i + 1) ps))
next_pattern ps i d h = rw (add-one, drop-cons ps i d) (first_by (get_or ps i d) (is_param_property (get_or ps i d))
    (filter (λ p. is_param_property p) (drop (suc i) ps)))

module _ (ps : List Tree) (i : ℕ) (p : Tree) (h : i < length ps) (e : p ≡ get_or ps i p) where
  abbrev step : Bool → Option SourceRange
  step b = if b then Some (place_of p) else first_pattern (drop (i + 1) ps)

  next_is : first_pattern (drop i ps) ≡ step (is_param_property p && takes_apart p)
  next_is = next_pattern ps i p h ∙
      ap (λ t. if is_param_property t && takes_apart t then Some (place_of t) else first_pattern (drop (i + 1) ps)) (sym e)

  pub pattern_here : first_pattern ps ≡ first_pattern (drop i ps) → (is_param_property p && takes_apart p) ≡ true → {r : SourceRange} →
      r ≡ place_of p →
      Some r ≡ first_pattern ps
  pattern_here all b q = ap Some q ∙ sym (all ∙ (next_is ∙ ap step b))

  pub pattern_later : first_pattern ps ≡ first_pattern (drop i ps) → (is_param_property p && takes_apart p) ≡ false →
      first_pattern ps ≡ first_pattern (drop (i + 1) ps)
  pattern_later all b = all ∙ (next_is ∙ ap step b)

pub no_pattern : (ps : List Tree) (i : ℕ) → length ps ≤ i → first_pattern ps ≡ first_pattern (drop i ps) → None ≡ first_pattern ps
no_pattern ps i h all = sym (all ∙ ap first_pattern (drop_all i ps h))

-- ---- a constructor

pub constructor_made : (m : Tree) (ss : List Seen) {items : List Tree} {old new : List Fault} → Adds (answer_of ss) items old new →
    Adds (answer_to (constructor_of m ss)) (Some (signed_constructor m items)) old new
constructor_made m ss {new = new} h =
    adds_made (option_map (node kinds.Constructor)) (adds_visited (adds_nothing (Some (tree.Range (Constructor-span m))) _)
    (adds_visited (adds_nothing (Some (tree.Context (Constructor-ctxt m))) _) (adds_visited (adds_nothing (Some (Constructor-key m)) _)
    (adds_visited (adds_made (λ ts. Some (list ts)) h) (adds_visited (adds_nothing (Some (constructor_body (Constructor-body m))) _)
    (adds_visited (adds_nothing (Some (Constructor-accessibility m)) _)
    (adds_visited (adds_nothing (Some (tree.Flag (Constructor-is_optional m))) _)
    (adds_nothing (Some []) new))))))))

module _ (u : Bindings) (is_implementation : SourceRange → Bool) (m : Tree) where
  abbrev built : Seen
  built = constructor_of m (constructor_params_seen u is_implementation m)

  faulty_by : (ps : List Tree) (r : SourceRange) → first_of ps ≡ Some r →
      answer_to (unless_taken_apart ps built) ≡ record { stays = Some Absent; faults = fault_at UnsupportedDestructuring r ∷ [] }
  faulty_by [] r e = cc
  faulty_by (p ∷ ps) r e =
      let q : place_of p ≡ r = cc in ap (λ x. record { stays = Some Absent; faults = fault_at UnsupportedDestructuring x ∷ [] }) q

  stays_by : (ps : List Tree) → first_of ps ≡ None → answer_to (unless_taken_apart ps built) ≡ answer_to built
  stays_by [] e = refl
  stays_by (p ∷ ps) e = cc

  pub constructor_faulty : {ps : List Tree} {r : SourceRange} → first_pattern ps ≡ Some r → ps ≡ parts (Constructor-params m) →
      {old all : List Fault} →
      all ≡ old ++ fault_at UnsupportedDestructuring r ∷ [] → Adds (answer_to (constructor_seen u is_implementation m))
      (Some Absent) old all
  constructor_faulty {r = r} e q {old} p =
      subst (λ fs. Adds (answer_to (constructor_seen u is_implementation m)) (Some Absent) old fs) (sym p)
      (adds_same (faulty_by (patterns_among (param_properties m)) r (ap first_pattern (sym q) ∙ e)) (adds_fault (Some Absent) _ old))

  pub constructor_stays : {ps : List Tree} → first_pattern ps ≡ None → ps ≡ parts (Constructor-params m) →
      {items : List Tree} {old new : List Fault} →
      Adds (answer_of (constructor_params_seen u is_implementation m)) items old new →
      Adds (answer_to (constructor_seen u is_implementation m)) (Some (signed_constructor m items)) old new
  constructor_stays e q h =
      adds_same (stays_by (patterns_among (param_properties m)) (ap first_pattern (sym q) ∙ e))
      (constructor_made m (constructor_params_seen u is_implementation m) h)

  -- ---- its parameters

  abbrev plain : List Tree
  plain = map (λ p. plain_param p) (parts (Constructor-params m))

  abbrev params_if : Bool → Bool → List Seen
  params_if p i = if p then [] else (if i then any_params_from 0 plain else plain_params_seen u is_implementation plain)

  pub private_params : is_private (Constructor-accessibility m) ≡ true → {items : List Tree} → items ≡ [] → (old : List Fault) →
      Adds (answer_of (constructor_params_seen u is_implementation m)) items old old
  private_params p e old = subst (λ x. Adds (answer_of (constructor_params_seen u is_implementation m)) x old old) (sym e)
      (adds_same (ap (λ b. answer_of (params_if b (is_implementation (Constructor-span m)))) p) (adds_nothing [] old))

  plain_parts : {t : Tree} → t ≡ list plain → parts t ≡ plain
  plain_parts e = ap parts e ∙ parts_node List' plain

  pub implementation_params : {E : Type 0} (made : Result (List Tree) E) → is_private (Constructor-accessibility m) ≡ false →
      is_implementation (Constructor-span m) ≡ true → {t : Tree} → t ≡ list plain → (old : List Fault) →
      IfOk made (λ items. answer_of (any_params_from 0 (parts t)) ≡ faultless items) →
      IfOk made (λ items. Adds (answer_of (constructor_params_seen u is_implementation m)) items old old)
  implementation_params made p i {t} e old = IfOk-weaker made _ _ go
    where
      go : (items : List Tree) → answer_of (any_params_from 0 (parts t)) ≡ faultless items →
          Adds (answer_of (constructor_params_seen u is_implementation m)) items old old
      go items h =
          adds_same ((λ j. answer_of (params_if (p j) (i j))) ∙ (ap (λ ps. answer_of (any_params_from 0 ps)) (sym (plain_parts e)) ∙ h))
          (adds_nothing _ old)

  pub own_params : {E : Type 0} (made : Result (List Tree) E) → is_private (Constructor-accessibility m) ≡ false →
      is_implementation (Constructor-span m) ≡ false → {t : Tree} → t ≡ list plain → (old new : List Fault) →
      IfOk made (λ items. Adds (answer_of (params_looked u (parts t))) items old new) →
      IfOk made (λ items. Adds (answer_of (constructor_params_seen u is_implementation m)) items old new)
  own_params made p i {t} e old new = IfOk-weaker made _ _ go
    where
      go : (items : List Tree) → Adds (answer_of (params_looked u (parts t))) items old new →
          Adds (answer_of (constructor_params_seen u is_implementation m)) items old new
      go items h = adds_same ((λ j. answer_of (params_if (p j) (i j))) ∙
          ap (λ ps. answer_of (plain_params_seen u is_implementation ps)) (sym (plain_parts e))) h
