-- What stands without a fault is in the grammar: expressions that may stay, functions, arrows and parameters.
use Rattle.std.specs.Prelude.{◌≡◌, ℕ, suc, Bool, true, false, ◌&&◌, is_some, IfSome, Option, None, List, [], ◌∷◌, map, slice_get, unwrap_or}
use Rattle.std.specs.Prelude.{refl, codes, if◌then◌else◌}
use Rattle.std.proofs.Common.{ap, ap₂, ◌∙◌, sym, subst}
use Rattle.fast_check_tree_syntax.specs.declared.kind.Kind.{Kind}
use Rattle.fast_check_tree_syntax.specs.declared.kind.Kind.TheVariants as kinds
use Rattle.fast_check_tree_syntax.specs.declared.source.SourceRange.{SourceRange}
use Rattle.fast_check_tree_syntax.specs.declared.tree.Tree as tree
use Rattle.fast_check_tree_syntax.specs.declared.tree.Tree.{Tree}
use Rattle.fast_check_tree_syntax.specs.Shape.{◌is◌, kind_of, part, parts, is_absent}
use Rattle.fast_check_tree_syntax.proofs.Made.{kind_of_node, parts_node}
use Rattle.fast_check_tree_forms_classes.specs.Functions.{Function-span}
use Rattle.fast_check_tree_forms_expressions.specs.Calls.{CallExpr-callee, CallExpr-args, NewExpr-callee, NewExpr-type_args}
use Rattle.fast_check_tree_helpers.specs.GlobalCalls.{is_global_member, sole_argument}
use Rattle.fast_check_meaning_signatures.specs.Bindings.{Bindings, id_of}
use Rattle.fast_check_meaning_signatures.specs.declared.function_kind.FunctionKind.{FunctionKind}
use Rattle.fast_check_meaning_signatures.specs.declared.function_kind.FunctionKind.TheVariants.{ExpressionLike}
use Rattle.fast_check_meaning_signatures.specs.declared.rules.Slot.{Slot}
use Rattle.fast_check_meaning_signatures.specs.declared.rules.Slot.TheVariants as slots
use Rattle.fast_check_meaning_signatures.specs.Seen.{Seen, round, refused, seens}
use Rattle.fast_check_meaning_signatures.specs.NewNodes.{never_in_parens}
use Rattle.fast_check_meaning_signatures.specs.Parameters.{Look, pat_seen, pats_seen}
use Rattle.fast_check_meaning_signatures.specs.Functions.{or_own, is_setter, function_seen, implementation_seen, arrow_seen}
use Rattle.fast_check_meaning_signatures.specs.Rows.{satisfies_row, assertion_row, fn_expr_row, arguments_row}
use Rattle.fast_check_meaning_signatures.specs.Expressions.{is_plain, is_compound, freezes, makes_plain, is_made, known_by_kind, is_known, Rule}
use Rattle.fast_check_meaning_signatures.specs.Expressions.{slotted, other_rule, slot_seen, slots_seen, by_rule, expr_form, expr_seen}
use Rattle.fast_check_meaning_signatures.specs.Answers.{answer_to, parts_answer, answer_of}
use Rattle.fast_check_meaning_signatures.proofs.Choices.{of_choice}
use Rattle.fast_check_meaning_skeleton.specs.TypedGrammar.{IsLeavable, AllLeavable, IsTypedFunction, IsTypedPat, AllTypedPats}
use Rattle.fast_check_meaning_skeleton.proofs.Descending.{by_descent_holds}
use Rattle.fast_check_meaning_skeleton.proofs.Staying.{Holds, Stays, visited_stays, round_stays}
use Rattle.fast_check_meaning_skeleton.proofs.TypedPatterns.{LookStays, pat_stays, pats_hold}
use Rattle.fast_check_meaning_skeleton.proofs.TypedFunctions.{function_stays, implementation_stays, implementation_faultless}
use Rattle.fast_check_meaning_skeleton.proofs.TypedArrows.{arrow_stays}

-- what is frozen is called by its global name
is_freeze : (bindings : Bindings) (t : Tree) → freezes bindings t ≡ true →
    is_global_member (codes "Object") (codes "freeze") bindings.unresolved (CallExpr-callee t) ≡ true
is_freeze bindings t = go (is_global_member (codes "Object") (codes "freeze") bindings.unresolved (CallExpr-callee t))
  where
    go : (b : Bool) → is_some (if b then sole_argument (parts (CallExpr-args t)) else None) ≡ true → b ≡ true
    go true e = refl
    go false e = cc

-- what is made of the same class, without type arguments, is known as that is
made_is : (bindings : Bindings) (u t : Tree) → kind_of u ≡ kinds.NewExpr → NewExpr-callee u ≡ NewExpr-callee t →
    NewExpr-type_args u ≡ NewExpr-type_args t →
    makes_plain bindings t ≡ true → is_made bindings u ≡ true
made_is bindings u t e callee type_args f =
    ap (λ k. (k is kinds.NewExpr) && makes_plain bindings u) e
    ∙ (ap₂ (λ c a. (kind_of c is kinds.Ident) && (is_absent a && bindings.is_plain_class (id_of c))) callee type_args ∙ f)

module _ (bindings : Bindings) where
  abbrev Leavable : Tree → Type 0
  Leavable = IsLeavable bindings

  abbrev StaysLeavable : Seen → Type 0
  StaysLeavable s = Stays Leavable (answer_to s)

  -- ---- values with lower values in them

  module _ (look : Look) (stays : LookStays bindings look) where
    all_stay : (ts : List Tree) → Stays (AllLeavable bindings) (parts_answer (seens (map (λ p. look p None) ts)))
    all_stay [] = λ f. AllLeavable.none_leavable
    all_stay (t ∷ ts) = visited_stays Leavable (AllLeavable bindings) (AllLeavable bindings) (λ u us. AllLeavable.next_leavable)
        (answer_to (look t None)) (parts_answer (seens (map (λ p. look p None) ts))) (stays t None) (all_stay ts)

    parts_stay : (kind : Kind) (ts : List Tree) → is_compound kind ≡ true → StaysLeavable (round kind (seens (map (λ p. look p None) ts)))
    parts_stay kind ts e = round_stays kind (AllLeavable bindings) Leavable
        (λ us h. IsLeavable.compound (ap is_compound (kind_of_node kind us) ∙ e)
        (subst (AllLeavable bindings) (sym (parts_node kind us)) h)) (parts_answer (seens (map (λ p. look p None) ts))) (all_stay ts)

    -- what stands for a part, and for each of the parts from a place on
    abbrev Fits : Slot → Tree → Tree → Type 0
    Fits slots.Written p u = u ≡ p
    Fits slots.Never p u = u ≡ never_in_parens
    Fits slots.Value p u = Leavable u
    Fits slots.Function p u = IsTypedFunction bindings u
    Fits _ p u = Unit {0}

    abbrev AllFit : Tree → List Slot → ℕ → (ℕ → Tree) → Type 0
    AllFit t [] n made = Unit {0}
    AllFit t (s ∷ row) n made = Fits s (part n t) (made 0) × AllFit t row (suc n) (λ k. made (suc k))

    abbrev at : List Tree → ℕ → Tree
    at us n = unwrap_or (slice_get us n) tree.Absent

    slot_stays : (s : Slot) (p : Tree) (place : Option SourceRange) → Stays (Fits s p) (answer_to (slot_seen bindings s p look place))
    slot_stays slots.Span p place f = tt
    slot_stays slots.Scope p place f = tt
    slot_stays slots.Written p place f = refl
    slot_stays slots.Never p place f = refl
    slot_stays slots.Value p place f = stays p None f
    slot_stays slots.Function p place f = function_stays bindings look stays ExpressionLike (or_own place (Function-span p)) p refl f

    slots_stay : (place : Option SourceRange) (t : Tree) (row : List Slot) (n : ℕ) →
        Stays (λ us. AllFit t row n (at us)) (parts_answer (seens (slots_seen bindings row n t look place)))
    slots_stay place t [] n = λ f. tt
    slots_stay place t (s ∷ row) n =
        visited_stays (Fits s (part n t)) (λ us. AllFit t row (suc n) (at us)) (λ us. AllFit t (s ∷ row) n (at us)) (λ u us h hs. (h, hs))
        (answer_to (slot_seen bindings s (part n t) look place)) (parts_answer (seens (slots_seen bindings row (suc n) t look place)))
        (slot_stays s (part n t) place) (slots_stay place t row (suc n))

    -- a node whose parts fit the slots is in the grammar
    slotted_stays : (row : List Slot) (kind : Kind) (t : Tree) (place : Option SourceRange) →
        ((u : Tree) → kind_of u ≡ kind → AllFit t row 0 (λ n. part n u) → Leavable u) →
        StaysLeavable (by_rule bindings (slotted row) kind t look place)
    slotted_stays row kind t place made = round_stays kind (λ us. AllFit t row 0 (at us)) Leavable
        (λ us fit. made (tree.Node kind us) (kind_of_node kind us) (subst (λ us. AllFit t row 0 (at us)) (sym (parts_node kind us)) fit))
        (parts_answer (seens (slots_seen bindings row 0 t look place))) (slots_stay place t row 0)

    kind_stays : (kind : Kind) (b : Bool) (t : Tree) (place : Option SourceRange) → known_by_kind kind bindings t ≡ b →
        StaysLeavable (by_rule bindings (other_rule kind b) kind t look place)
    kind_stays kinds.TsSatisfiesExpr b t place f = slotted_stays satisfies_row kinds.TsSatisfiesExpr t place
        (λ u e h. IsLeavable.satisfies e h.1.0)
    kind_stays kinds.TsAsExpr b t place f = slotted_stays assertion_row kinds.TsAsExpr t place (λ u e h. IsLeavable.as_type e h.1.0)
    kind_stays kinds.TsTypeAssertion b t place f = slotted_stays assertion_row kinds.TsTypeAssertion t place
        (λ u e h. IsLeavable.assertion e h.1.0)
    kind_stays kinds.CallExpr true t place f = slotted_stays arguments_row kinds.CallExpr t place
        (λ u e h. IsLeavable.frozen e
        (ap (is_global_member (codes "Object") (codes "freeze") bindings.unresolved) h.1.1.0 ∙ is_freeze bindings t f) h.1.1.1.0)
    kind_stays kinds.NewExpr true t place f = slotted_stays arguments_row kinds.NewExpr t place
        (λ u e h. IsLeavable.made (made_is bindings u t e h.1.1.0 h.1.1.1.1.0 f) h.1.1.1.0)
    kind_stays kinds.FnExpr b t place f = slotted_stays fn_expr_row kinds.FnExpr t place (λ u e h. IsLeavable.function e h.1.0)
    kind_stays kinds.ArrowExpr b t place f = arrow_stays bindings look stays place t
    kind_stays _ b t place f = λ g. tt

    form_stays : (t : Tree) (place : Option SourceRange) → StaysLeavable (expr_form bindings t look place)
    form_stays t place = let kind = kind_of t in let P : Rule → Type 0 = λ r. StaysLeavable (by_rule bindings r kind t look place) in
        of_choice P (is_compound kind) _ _ (parts_stay kind (parts t)) (λ compound.
        of_choice P (is_plain kind) _ _ (λ e f. IsLeavable.plain e) (λ plain. kind_stays kind (is_known bindings t) t place refl))

  -- ---- all of it

  abbrev look : Look
  look = expr_seen bindings

  -- what stays of an expression gives its type, if nothing in it is at fault
  pub expr_stays : (t : Tree) (place : Option SourceRange) → StaysLeavable (look t place)
  unfolding expr_seen
  expr_stays =
      by_descent_holds (λ place. refused) (expr_form bindings) (λ f. (place : Option SourceRange) → StaysLeavable (f place)) (λ place f. tt)
      (λ t given stays. form_stays given stays t)

  -- what stays of a function, an arrow or a parameter is typed, if nothing in it is at fault
  pub function_is_typed : (kind : FunctionKind) (place : SourceRange) (t : Tree) → is_setter kind ≡ false →
      Stays (IsTypedFunction bindings) (answer_to (function_seen bindings look kind place t))
  function_is_typed = function_stays bindings look expr_stays

  pub implementation_is_typed : (t : Tree) → IfSome (answer_to (implementation_seen t)).stays (IsTypedFunction bindings)
  implementation_is_typed t = implementation_stays bindings t (implementation_faultless t)

  pub arrow_is_typed : (place : Option SourceRange) (t : Tree) → StaysLeavable (arrow_seen bindings look place t)
  arrow_is_typed = arrow_stays bindings look expr_stays

  pub pat_is_typed : (is_optional : Bool) (pat : Tree) → Stays (IsTypedPat bindings) (answer_to (pat_seen bindings look is_optional pat))
  pat_is_typed = pat_stays bindings look expr_stays

  pub pats_are_typed : (pats : List Tree) → Holds (AllTypedPats bindings) (answer_of (pats_seen bindings look pats))
  pats_are_typed = pats_hold bindings look expr_stays
