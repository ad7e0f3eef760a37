-- Each arrow that stands without a fault is typed, where values that may stay give their types.
use Rattle.std.specs.Prelude.{◌≡◌, Bool, false, Option, Some, None, List}
use Rattle.std.proofs.Common.{ap, ◌∙◌, sym, subst}
use Rattle.fast_check_tree_syntax.specs.declared.kind.Kind.TheVariants.{BlockStmt}
use Rattle.fast_check_tree_syntax.specs.declared.source.SourceRange.{SourceRange}
use Rattle.fast_check_tree_syntax.specs.declared.tree.Tree.{Tree}
use Rattle.fast_check_tree_syntax.specs.Shape.{◌is◌, kind_of, parts, flag_of, is_absent, list}
use Rattle.fast_check_tree_syntax.proofs.Made.{kind_of_node, parts_node, part_node, is_absent_node, flag_of_flag}
use Rattle.fast_check_tree_forms_expressions.specs.Expressions.{ArrowExpr-span, ArrowExpr-params, ArrowExpr-body, ArrowExpr-is_async}
use Rattle.fast_check_tree_forms_expressions.specs.Expressions.{ArrowExpr-is_generator, ArrowExpr-return_type}
use Rattle.fast_check_tree_helpers.specs.declared.literal_type.DeclMutabilityKind.TheVariants.{Mutable}
use Rattle.fast_check_tree_helpers.specs.Builders.{type_ann}
use Rattle.fast_check_tree_helpers.specs.InferredType.{inferred_type}
use Rattle.fast_check_meaning_signatures.specs.Bindings.{Bindings}
use Rattle.fast_check_meaning_signatures.specs.declared.function_kind.FunctionKind.TheVariants.{ExpressionLike}
use Rattle.fast_check_meaning_signatures.specs.Seen.{ArrowHead, Seen, written}
use Rattle.fast_check_meaning_signatures.specs.NewNodes.{arrow_body, promised}
use Rattle.fast_check_meaning_signatures.specs.Parameters.{Look, pats_seen}
use Rattle.fast_check_meaning_signatures.specs.Functions.{return_type_missing, body_seen, arrow_head, typed_arrow_seen, valued_arrow_seen, or_own}
use Rattle.fast_check_meaning_signatures.specs.Functions.{by_value, arrow_by_type, arrow_seen}
use Rattle.fast_check_meaning_signatures.specs.Answers.{fault_at, settled, demanded, signed_arrow, kept_arrow, answer_to, answer_of}
use Rattle.fast_check_meaning_signatures.proofs.Choices.{of_choice}
use Rattle.fast_check_meaning_skeleton.specs.TypedGrammar.{IsLeavable, AllTypedPats}
use Rattle.fast_check_meaning_skeleton.proofs.Staying.{Holds, Stays, demanded_holds, joined_stays}
use Rattle.fast_check_meaning_skeleton.proofs.TypedPatterns.{LookStays, pats_hold}
use Rattle.fast_check_meaning_skeleton.proofs.TypedFunctions.{IsType, body_shows}

module _ (bindings : Bindings) where
  abbrev Leavable : Tree → Type 0
  Leavable = IsLeavable bindings

  abbrev StaysLeavable : Seen → Type 0
  StaysLeavable s = Stays Leavable (answer_to s)

  -- parameters are typed
  abbrev PatsHold : List Seen → Type 0
  PatsHold pats = Holds (AllTypedPats bindings) (answer_of pats)

  typed : (a : ArrowHead) (type : Tree) (params : List Tree) → is_absent type ≡ false → AllTypedPats bindings params →
      Leavable (signed_arrow a type params)
  typed a type params present pats =
      let made = signed_arrow a type params in
      let same_params : ArrowExpr-params made ≡ list params = part_node _ _ _ in
      let same_body : ArrowExpr-body made ≡ arrow_body type = part_node _ _ _ in
      let async : ArrowExpr-is_async made ≡ false = ap flag_of (part_node _ _ _) ∙ flag_of_flag false in
      let same_type : ArrowExpr-return_type made ≡ type = part_node _ _ _ in
      IsLeavable.typed_arrow (kind_of_node _ _) (subst (AllTypedPats bindings) (sym (ap parts same_params ∙ parts_node _ _)) pats) async
      (ap is_absent same_type ∙ present) (same_body ∙ ap arrow_body (sym same_type))

  valued : (a : ArrowHead) (is_async : Bool) (value : Tree) (params : List Tree) → Leavable value → AllTypedPats bindings params →
      Leavable (kept_arrow a is_async value params)
  valued a is_async value params leavable pats =
      let made = kept_arrow a is_async value params in
      let same_params : ArrowExpr-params made ≡ list params = part_node _ _ _ in
      let same_body : ArrowExpr-body made ≡ value = part_node _ _ _ in
      IsLeavable.valued_arrow (kind_of_node _ _) (subst (AllTypedPats bindings) (sym (ap parts same_params ∙ parts_node _ _)) pats)
      (subst Leavable (sym same_body) leavable)

  -- an arrow whose return type is known
  typed_stays : (t : Tree) (pats : List Seen) (type : Seen) → PatsHold pats → IsType type → StaysLeavable (typed_arrow_seen t pats type)
  typed_stays t pats type hold shows =
      joined_stays (λ u. is_absent u ≡ false) (AllTypedPats bindings) Leavable (signed_arrow (arrow_head t)) (typed (arrow_head t))
      (settled (answer_to type)) (answer_of pats) shows hold

  -- an arrow whose value gives the return type
  valued_stays : (t : Tree) (place : SourceRange) (pats : List Seen) (value : Seen) → PatsHold pats → Stays Leavable (answer_to value) →
      StaysLeavable (valued_arrow_seen t place pats value)
  valued_stays t place pats value hold stays =
      let is_async = ArrowExpr-is_async t in
      let fault = fault_at (return_type_missing false is_async) place in
      joined_stays Leavable (AllTypedPats bindings) Leavable (kept_arrow (arrow_head t) is_async) (valued (arrow_head t) is_async)
      (demanded fault (answer_to value)) (answer_of pats)
      (demanded_holds Leavable fault (answer_to value) stays) hold

  module _ (look : Look) (stays : LookStays bindings look) where
    by_value_stays : (t : Tree) (place : SourceRange) (pats : List Seen) → PatsHold pats → (shown : Option Tree) →
        StaysLeavable (by_value bindings look t place pats shown)
    by_value_stays t place pats hold (Some type) =
        typed_stays t pats (written (type_ann (promised bindings.unresolved (ArrowExpr-is_async t) type))) hold (λ f. is_absent_node _ _)
    by_value_stays t place pats hold None = valued_stays t place pats (look (ArrowExpr-body t) None) hold (stays (ArrowExpr-body t) None)

    by_type_stays : (t : Tree) (place : SourceRange) (pats : List Seen) → PatsHold pats →
        StaysLeavable (arrow_by_type bindings look t place pats)
    by_type_stays t place pats hold = let body = ArrowExpr-body t in
        of_choice StaysLeavable (is_absent (ArrowExpr-return_type t)) _ _ (λ untyped.
        of_choice StaysLeavable (kind_of body is BlockStmt) _ _
        (λ block. let is_async = ArrowExpr-is_async t in let is_generator = ArrowExpr-is_generator t in
        typed_stays t pats (body_seen bindings.unresolved ExpressionLike is_async is_generator place body) hold
        (body_shows bindings.unresolved ExpressionLike is_async is_generator place body))
        (λ value. by_value_stays t place pats hold (inferred_type Mutable bindings.unresolved body)))
        (λ present. typed_stays t pats (written (ArrowExpr-return_type t)) hold (λ f. present))

    pub arrow_stays : (place : Option SourceRange) (t : Tree) → StaysLeavable (arrow_seen bindings look place t)
    arrow_stays place t = let pats = parts (ArrowExpr-params t) in
        by_type_stays t (or_own place (ArrowExpr-span t)) (pats_seen bindings look pats) (pats_hold bindings look stays pats)
