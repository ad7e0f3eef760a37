use Rattle.std.proofs.Common.{arith, drop, ◌≡◌, ◌<◌, length, get_or, true, false, Some, None, List, sym, ap, ◌∙◌, map}
use Rattle.std.proofs.Common.{option_map, option_copied}
use Rattle.std.proofs.lemmas.List.{drop_all}
use Rattle.std.proofs.lemmas.Result.{IfOk-weaker}
use Rattle.fast_check_tree_syntax.specs.declared.kind.Kind.TheVariants as kinds
use Rattle.fast_check_tree_syntax.specs.declared.source.SourceRange.{SourceRange}
use Rattle.fast_check_tree_syntax.specs.declared.source.SyntaxContext.{SyntaxContext}
use Rattle.fast_check_tree_syntax.specs.declared.tree.Tree as tree
use Rattle.fast_check_tree_syntax.specs.declared.tree.Tree.{Tree}
use Rattle.fast_check_tree_forms_classes.specs.Functions.{Function-span, Param-pat}
use Rattle.fast_check_meaning_signatures.specs.declared.function_kind.FunctionKind.TheVariants.{ExpressionLike}
use Rattle.fast_check_tree_syntax.specs.Part.{seen}
use Rattle.fast_check_tree_syntax.specs.Shape.{is_kind, kind_of, parts, node, is_absent}
use Rattle.fast_check_tree_syntax.specs.Height.{height, height_part, height_read, height_at_most}
use Rattle.fast_check_tree_forms_programs.specs.Names.{Ident-span, BindingIdent-id}
use Rattle.fast_check_tree_forms_expressions.specs.Expressions.{ArrowExpr-span}
use Rattle.fast_check_tree_forms_expressions.specs.Patterns.{AssignPat-span, AssignPat-left, AssignPat-right}
use Rattle.fast_check_tree_forms_expressions.specs.Patterns.{ArrayPat-span, ArrayPat-type_ann, ObjectPat-span, ObjectPat-type_ann}
use Rattle.fast_check_meaning_signatures.specs.declared.rules.Slot.TheVariants as slots
use Rattle.fast_check_transform_nodes.specs.Bindings.{names_of}
use Rattle.fast_check_meaning_signatures.specs.Seen.{faulty, seens}
use Rattle.fast_check_meaning_signatures.specs.declared.fault.FaultKind.TheVariants.{UnsupportedDestructuring, MissingExplicitType}
use Rattle.fast_check_meaning_signatures.specs.Answers.{fault_at, answer_to, answer_of, parts_answer, demanded, faultless, signed_function}
use Rattle.fast_check_meaning_signatures.specs.Expressions.{is_plain, is_compound, expr_seen, slot_seen}
use Rattle.fast_check_meaning_signatures.specs.Functions.{or_own, return_type_missing, function_head, function_seen}
use Rattle.fast_check_meaning_signatures.specs.Parameters.{default_typing, typed, emptied_array, emptied_object, without_default, default_seen, assign_seen, pat_seen}
use Rattle.fast_check_meaning_signatures.specs.Parameters.{pats_seen}
use Rattle.fast_check_meaning_signatures.proofs.Adding.{adds_same, adds_nothing, adds_made, adds_joined, adds_settled, adds_demanded}
use Rattle.fast_check_meaning_signatures.specs.Typing.{type_of}
use Rattle.fast_check_transform_expressions.specs.Looked.{known_type, known_answer, patterns, params_looked}
use Rattle.fast_check_tree_helpers.specs.OptionalParams.{is_optional_param}
use Rattle.std.specs.List.{list_all}
use Rattle.fast_check_transform_expressions.proofs.Behind.{behind_along, items_are, trees_are, adds_given, parts_step, parts_refused, items_step}
use Rattle.fast_check_transform_expressions.proofs.Behind.{items_end, with_pat, param_added, default_made}
use Rattle.fast_check_transform_expressions.proofs.Heights.{height_less}
use Rattle.fast_check_transform_expressions.proofs.Looked.{seen_left_out, seen_untyped_array, seen_untyped_object}
use Rattle.fast_check_transform_expressions.proofs.Looked.{none_of, not_leaf, not_arrow, seen_parted, seen_whole, seen_arrow, seen_slotted, seen_refused}
use Rattle.fast_check_transform_expressions.proofs.Looked.{seen_known, next_part, next_slot, next_pat, next_param, seen_by_kind, other_pat}
use Rattle.fast_check_transform_expressions.proofs.Looked.{slot_is}
use Rattle.fast_check_transform_expressions.proofs.Arrows.{own_place, arrow_known, arrow_valued}
use Rattle.fast_check_transform_expressions.proofs.+transform.Goals as goal
use Rattle.fast_check_transform_expressions.proofs.+transform.Goals.{parameters::transform_assign_pat-in-BindingIdent+in_ok-ty-in-BindingIdent+in_default-2+in_ok-to_tree-in-BindingIdent}
use Rattle.fast_check_transform_expressions.proofs.+transform.Goals.{parameters::transform_assign_pat-in-ArrayPat+in_ok-left-in-ArrayPat+else-not-is_absent}
use Rattle.fast_check_transform_expressions.proofs.+transform.Goals.{parameters::transform_assign_pat-in-ObjectPat+in_ok-left-in-ObjectPat+else-not-is_absent-2}

-- ---- expressions

pub expressions::transform_expr-returns-then-is_compound : goal.expressions::transform_expr-returns-then-is_compound
expressions::transform_expr-returns-then-is_compound t c =
    let compound : is_compound (kind_of (seen c.args.expr)) ≡ true = sym (c.is_compound.ensures ∙ ap is_compound c.kind-kind.ensures) ∙
    c.if-is_compound.true in
    IfOk-weaker c.transform_parts.result _ _ (λ tree h. adds_same
    (ap answer_to (seen_parted (names_of c.args.bindings) (seen c.args.expr) c.args.place compound)) h)
    c.transform_parts.ensures

pub expressions::transform_expr-returns-then-is_plain : goal.expressions::transform_expr-returns-then-is_plain
expressions::transform_expr-returns-then-is_plain t c =
    let k = c.kind-kind.ensures in
    let compound : is_compound (kind_of (seen c.args.expr)) ≡ false = sym (c.is_compound.ensures ∙ ap is_compound k) ∙
    c.if-is_compound.false in
    let plain : is_plain (kind_of (seen c.args.expr)) ≡ true = sym (c.is_plain.ensures ∙ ap is_plain k) ∙ c.if-is_plain.true in
    adds_same
    (ap answer_to (seen_whole (names_of c.args.bindings) (seen c.args.expr) c.args.place compound plain) ∙
    ap (λ (x : Tree). faultless (Some x))
    (sym c.in_ok-to_tree.ensures))
    (adds_nothing (Some c.in_ok-to_tree.field-0) c.args.faults.now.items)

pub expressions::transform_expr-transform_arrow-requires : goal.expressions::transform_expr-transform_arrow-requires
expressions::transform_expr-transform_arrow-requires t c =
    let plain : is_plain (kind_of (seen c.args.expr)) ≡ false = sym (c.is_plain.ensures ∙ ap is_plain c.kind-kind.ensures) ∙
    c.if-is_plain.false in
    (omega (arith, c.decreases, height_part (seen c.args.expr) 0 (not_leaf (kind_of (seen c.args.expr)) plain)), tt)

pub expressions::transform_expr-returns-then-eq : goal.expressions::transform_expr-returns-then-eq
expressions::transform_expr-returns-then-eq t c =
    let arrow : kind_of (seen c.args.expr) ≡ kinds.ArrowExpr = sym c.kind-kind.ensures ∙ is_kind c.kind-kind.result kinds.ArrowExpr
    (sym c.eq.ensures ∙ c.if-eq.true) in
    adds_same
    (ap answer_to (seen_arrow (names_of c.args.bindings) (seen c.args.expr) c.args.place arrow)) c.in_ok-transform_arrow.ensures

pub expressions::transform_expr-transform_slots-requires : goal.expressions::transform_expr-transform_slots-requires
expressions::transform_expr-transform_slots-requires t c =
    let plain : is_plain (kind_of (seen c.args.expr)) ≡ false = sym (c.is_plain.ensures ∙ ap is_plain c.kind-kind.ensures) ∙
    c.if-is_plain.false in
    (omega (arith, c.decreases, height_part (seen c.args.expr) 0 (not_leaf (kind_of (seen c.args.expr)) plain)), tt)

pub expressions::transform_expr-returns-in-Some : goal.expressions::transform_expr-returns-in-Some
expressions::transform_expr-returns-in-Some t c =
    let k = c.kind-kind.ensures in
    let compound : is_compound (kind_of (seen c.args.expr)) ≡ false = sym (c.is_compound.ensures ∙ ap is_compound k) ∙
    c.if-is_compound.false in
    let plain : is_plain (kind_of (seen c.args.expr)) ≡ false = sym (c.is_plain.ensures ∙ ap is_plain k) ∙ c.if-is_plain.false in
    let row = sym c.in_ok-row.ensures ∙ ap option_copied c.in-Some.is in
    IfOk-weaker c.transform_slots.result _ _
    (λ tree h. adds_same
    (ap answer_to (seen_slotted (names_of c.args.bindings) (seen c.args.expr) c.args.place c.in-Some.row.now compound plain row)) h)
    c.transform_slots.ensures

pub expressions::transform_expr-returns-in-None : goal.expressions::transform_expr-returns-in-None
expressions::transform_expr-returns-in-None t c =
    let k = c.kind-kind.ensures in
    let compound : is_compound (kind_of (seen c.args.expr)) ≡ false = sym (c.is_compound.ensures ∙ ap is_compound k) ∙
    c.if-is_compound.false in
    let plain : is_plain (kind_of (seen c.args.expr)) ≡ false = sym (c.is_plain.ensures ∙ ap is_plain k) ∙ c.if-is_plain.false in
    let row = sym c.in_ok-row.ensures ∙ ap option_copied c.in-None.is in
    let arrow = λ (e : kind_of (seen c.args.expr) ≡ kinds.ArrowExpr). not_arrow c.kind-kind.result (sym c.eq.ensures ∙ c.if-eq.false)
    (k ∙ e) in
    adds_same (ap answer_to (seen_refused (names_of c.args.bindings) (seen c.args.expr) c.args.place compound plain row arrow))
    (adds_nothing None c.args.faults.now.items)

pub expressions::transform_parts-transform_expr-requires : goal.expressions::transform_parts-transform_expr-requires
expressions::transform_parts-transform_expr-requires t c = grind (arith, height_read)

pub expressions::transform_parts-returns-in-None : goal.expressions::transform_parts-returns-in-None
expressions::transform_parts-returns-in-None t c =
    let u = names_of c.args.bindings in
    let items = c.parts-part-items.result.now in
    let d = c.part-item.result in
    let within : c.loop-part.part-index < length items = c.loop-part-test.true in
    let next = behind_along (next_part (λ p. expr_seen u p None) items c.loop-part.part-index d within) c.loop-part.invariant in
    let given = adds_same (ap (λ (p : Tree). answer_to (expr_seen u p None)) (sym (c.read.ensures ∙ c.part-item.is)))
    (adds_given c.in-None.is c.in_ok-tree.ensures) in
    adds_made (option_map (node (kind_of (seen c.args.expr))))
    (adds_same (ap (λ (ts : List Tree). parts_answer (seens (map (λ p. expr_seen u p None) ts))) (sym c.parts-part-items.ensures))
    (parts_refused c.loop-part.items _ _ next given))

pub expressions::transform_slots-transform_slot-requires : goal.expressions::transform_slots-transform_slot-requires
expressions::transform_slots-transform_slot-requires t c = grind (arith, height_less)

pub expressions::transform_slots-loop-index-preserved : goal.expressions::transform_slots-loop-index-preserved
expressions::transform_slots-loop-index-preserved t c =
    let u = names_of c.args.bindings in
    let e = seen c.args.expr in
    let row = c.args.row.now in
    let i = c.loop-index.index in
    let within : i < length row = c.loop-index-test.true in
    let next = behind_along (next_slot u e c.args.place row i slots.Span within) c.loop-index.invariant in
    let given =
    adds_same (ap (λ (p : Tree). answer_to (slot_seen u (get_or row i slots.Span) p (expr_seen u) c.args.place)) (sym c.part.ensures))
    (adds_given c.in-Some.is c.in_ok-tree.ensures) in
    items_are (sym c.in_ok-push-in-Some.ensures.ok) (parts_step c.loop-index.stay c.in-Some.tree _ _ next given)

-- ---- functions

pub functions::transform_arrow-transform_pats-requires : goal.functions::transform_arrow-transform_pats-requires
functions::transform_arrow-transform_pats-requires t c = grind (arith, height_less)

pub functions::transform_arrow-transform_value-requires : goal.functions::transform_arrow-transform_value-requires
functions::transform_arrow-transform_value-requires t c = grind (arith, height_less)

pub functions::transform_arrow-transform_pats-requires-in-None : goal.functions::transform_arrow-transform_pats-requires-in-None
functions::transform_arrow-transform_pats-requires-in-None t c = grind (arith, height_less)

pub functions::transform_arrow-returns-in_ok-params-in-Some : goal.functions::transform_arrow-returns-in_ok-params-in-Some
functions::transform_arrow-returns-in_ok-params-in-Some t c =
    let u = names_of c.args.bindings in
    let a = seen c.args.arrow in
    let at : c.unwrap_or-place.result ≡ or_own c.args.place (ArrowExpr-span a) = c.unwrap_or-place.ensures ∙
    own_place c.args.place c.of-form.ensures.span in
    let type = adds_same (ap (λ (p : SourceRange). known_answer (known_type u.unresolved p a)) (sym at))
    (adds_given c.in-Some.is c.in_ok-return_type.ensures) in
    let pats =
    adds_same
    (ap (λ (p : Tree). answer_of (pats_seen u (expr_seen u) (parts p)))
    (sym c.of-form.ensures.params)) c.in_ok-params-in-Some.ensures in
    IfOk-weaker c.signed_arrow.result _ _
    (λ tree e. adds_given (ap Some (sym e)) (arrow_known u c.args.place a type pats)) c.signed_arrow.ensures

pub functions::transform_arrow-returns-in_ok-params-in-None : goal.functions::transform_arrow-returns-in_ok-params-in-None
functions::transform_arrow-returns-in_ok-params-in-None t c =
    let u = names_of c.args.bindings in
    let a = seen c.args.arrow in
    let f = c.of-form.ensures in
    let at : c.unwrap_or-place.result ≡ or_own c.args.place (ArrowExpr-span a) = c.unwrap_or-place.ensures ∙
    own_place c.args.place f.span in
    let type = adds_same (ap (λ (p : SourceRange). known_answer (known_type u.unresolved p a)) (sym at))
    (adds_given c.in-None.is c.in_ok-return_type.ensures) in
    let value = adds_same (λ i. demanded (fault_at (return_type_missing false (sym f.is_async i)) (sym at i))
    (answer_to (expr_seen u (sym f.body i) None))) c.in_ok-value-in-None.ensures in
    let pats =
    adds_same (ap (λ (p : Tree). answer_of (pats_seen u (expr_seen u) (parts p))) (sym f.params)) c.in_ok-params-in-None.ensures in
    IfOk-weaker c.kept_arrow.result _ _
    (λ tree e. adds_given (ap Some (sym e)) (arrow_valued u c.args.place a type value pats)) c.kept_arrow.ensures

pub functions::transform_fn-transform_params-requires : goal.functions::transform_fn-transform_params-requires
functions::transform_fn-transform_params-requires t c = grind (arith, height_at_most)

-- ---- parameters

pub parameters::transform_params-transform_param_pat-requires : goal.parameters::transform_params-transform_param_pat-requires
parameters::transform_params-transform_param_pat-requires t c = grind (arith, height_read, height_at_most)

pub parameters::transform_pats-transform_param_pat-requires : goal.parameters::transform_pats-transform_param_pat-requires
parameters::transform_pats-transform_param_pat-requires t c = grind (arith, height_read)

pub expressions::transform_parts-loop-part-preserved : goal.expressions::transform_parts-loop-part-preserved
expressions::transform_parts-loop-part-preserved t c =
    let u = names_of c.args.bindings in
    let items = c.parts-part-items.result.now in
    let d = c.part-item.result in
    let within : c.loop-part.part-index < length items = c.loop-part-test.true in
    let next = behind_along (next_part (λ p. expr_seen u p None) items c.loop-part.part-index d within) c.loop-part.invariant in
    let given = adds_same (ap (λ (p : Tree). answer_to (expr_seen u p None)) (sym (c.read.ensures ∙ c.part-item.is)))
    (adds_given c.in-Some.is c.in_ok-tree.ensures) in
    items_are (sym c.in_ok-push-in-Some.ensures.ok) (parts_step c.loop-part.items c.in-Some.tree _ _ next given)

pub parameters::transform_param_pat-returns-in-AssignPat : goal.parameters::transform_param_pat-returns-in-AssignPat
parameters::transform_param_pat-returns-in-AssignPat t c =
    let kind = sym c.kind.ensures ∙ c.in-AssignPat.is in
    IfOk-weaker c.transform_assign_pat.result _ _
    (λ tree h. adds_same
    (ap answer_to (seen_by_kind (names_of c.args.bindings) c.args.is_optional (seen c.args.pat) kinds.AssignPat kind)) h)
    c.transform_assign_pat.ensures

pub parameters::transform_param_pat-returns-in-RestPat : goal.parameters::transform_param_pat-returns-in-RestPat
parameters::transform_param_pat-returns-in-RestPat t c =
    let kind = sym c.kind.ensures ∙ c.in-RestPat.is in
    IfOk-weaker c.transform_rest.result _ _
    (λ tree h. adds_same
    (ap answer_to (seen_by_kind (names_of c.args.bindings) c.args.is_optional (seen c.args.pat) kinds.RestPat kind)) h)
    c.transform_rest.ensures

pub parameters::transform_param_pat-returns-in_default : goal.parameters::transform_param_pat-returns-in_default
parameters::transform_param_pat-returns-in_default t c =
    let d = c.in_default in
    let k = c.kind.ensures in
    let other = other_pat (names_of c.args.bindings) c.args.is_optional (seen c.args.pat) (kind_of (seen c.args.pat))
    (λ e. d.not-BindingIdent (k ∙ e))
    (λ e. d.not-AssignPat (k ∙ e)) (λ e. d.not-RestPat (k ∙ e)) (λ e. d.not-ArrayPat (k ∙ e)) (λ e. d.not-ObjectPat (k ∙ e)) in
    IfOk-weaker c.unsupported.result _ _
    (λ tree h. adds_same
    (ap answer_to (other ∙ ap (λ (p : SourceRange). faulty UnsupportedDestructuring p) (sym c.range_of_node.ensures))) h)
    c.unsupported.ensures

pub parameters::transform_pats-loop-index-preserved : goal.parameters::transform_pats-loop-index-preserved
parameters::transform_pats-loop-index-preserved t c =
    let u = names_of c.args.bindings in
    let pats = c.parts-pats.result.now in
    let i = c.loop-index.index in
    let d = c.index-pats-index.result in
    let within : i < length pats = c.loop-index-test.true in
    let optional = c.is_optional_at_index-is_optional.ensures ∙ c.start_of_patterns-start.ensures.says i (omega arith) within in
    let pat = c.read.ensures ∙ c.index-pats-index.is in
    trees_are (sym c.in_ok-push.ensures.ok) (items_step c.loop-index.items c.in_ok-transform_param_pat.field-0 _ _
    (behind_along (next_pat u pats i d within) c.loop-index.invariant)
    (adds_same (λ j. answer_to (pat_seen u (expr_seen u) (sym optional j) (sym pat j))) c.in_ok-transform_param_pat.ensures))

pub parameters::transform_params-loop-index-preserved : goal.parameters::transform_params-loop-index-preserved
parameters::transform_params-loop-index-preserved t c =
    let u = names_of c.args.bindings in
    let params = c.parts-params.result.now in
    let i = c.loop-index.index in
    let d = c.index-params-index.result in
    let within : i < length params = c.loop-index-test.true in
    let optional = c.is_optional_at_index-is_optional.ensures ∙ c.start_of_params-start.ensures i (omega arith) within in
    let param = c.read-param.ensures ∙ c.index-params-index.is in
    let pat = c.of.ensures.pat ∙ ap Param-pat param in
    let p = get_or params i d in
    let given = param_added p (pat_seen u (expr_seen u) (list_all is_optional_param (patterns (drop i params))) (Param-pat p))
    (adds_same (λ j. answer_to (pat_seen u (expr_seen u) (sym optional j) (sym pat j))) c.in_ok-pat.ensures) in
    let made = c.in_ok-with_pattern.ensures ∙ ap (λ (p : Tree). with_pat p c.in_ok-pat.pat) param in
    trees_are (sym c.in_ok-push.ensures.ok) (items_step c.loop-index.items c.in_ok-with_pattern.field-0 _ _
    (behind_along (next_param u params i d within) c.loop-index.invariant) (adds_given (ap Some (sym made)) given))

pub expressions::transform_slots-returns-in-None : goal.expressions::transform_slots-returns-in-None
expressions::transform_slots-returns-in-None t c =
    let u = names_of c.args.bindings in
    let e = seen c.args.expr in
    let row = c.args.row.now in
    let i = c.loop-index.index in
    let within : i < length row = c.loop-index-test.true in
    let next = behind_along (next_slot u e c.args.place row i slots.Span within) c.loop-index.invariant in
    let given =
    adds_same (ap (λ (p : Tree). answer_to (slot_seen u (get_or row i slots.Span) p (expr_seen u) c.args.place)) (sym c.part.ensures))
    (adds_given c.in-None.is c.in_ok-tree.ensures) in
    adds_made (option_map (node (kind_of e))) (parts_refused c.loop-index.stay _ _ next given)

-- ---- slots

pub expressions::transform_slot-returns-in-Span : goal.expressions::transform_slot-returns-in-Span
expressions::transform_slot-returns-in-Span t c =
    adds_same (slot_is (names_of c.args.bindings) c.args.slot slots.Span (seen c.args.part) c.args.place c.in-Span.is
    ∙ ap (λ (r : SourceRange). faultless (Some (tree.Range r))) (sym c.range.ensures))
    (adds_nothing (Some (tree.Range c.range.result)) c.args.faults.now.items)

pub expressions::transform_slot-returns-in-Scope : goal.expressions::transform_slot-returns-in-Scope
expressions::transform_slot-returns-in-Scope t c =
    adds_same (slot_is (names_of c.args.bindings) c.args.slot slots.Scope (seen c.args.part) c.args.place c.in-Scope.is
    ∙ ap (λ (x : SyntaxContext). faultless (Some (tree.Context x))) (sym c.context.ensures))
    (adds_nothing (Some (tree.Context c.context.result)) c.args.faults.now.items)

pub expressions::transform_slot-returns-in_ok-to_tree-in-Written : goal.expressions::transform_slot-returns-in_ok-to_tree-in-Written
expressions::transform_slot-returns-in_ok-to_tree-in-Written t c =
    adds_same (slot_is (names_of c.args.bindings) c.args.slot slots.Written (seen c.args.part) c.args.place c.in-Written.is
    ∙ ap (λ (x : Tree). faultless (Some x)) (sym c.in_ok-to_tree-in-Written.ensures))
    (adds_nothing (Some c.in_ok-to_tree-in-Written.field-0) c.args.faults.now.items)

pub expressions::transform_slot-returns-in_ok-never_in_parens-in-Never : goal.expressions::transform_slot-returns-in_ok-never_in_parens-in-Never
expressions::transform_slot-returns-in_ok-never_in_parens-in-Never t c =
    adds_same (slot_is (names_of c.args.bindings) c.args.slot slots.Never (seen c.args.part) c.args.place c.in-Never.is
    ∙ ap (λ (x : Tree). faultless (Some x)) (sym c.in_ok-never_in_parens-in-Never.ensures))
    (adds_nothing (Some c.in_ok-never_in_parens-in-Never.field-0) c.args.faults.now.items)

pub expressions::transform_slot-returns-in-Value : goal.expressions::transform_slot-returns-in-Value
expressions::transform_slot-returns-in-Value t c =
    IfOk-weaker c.transform_expr.result _ _
    (λ tree h. adds_same
    (slot_is (names_of c.args.bindings) c.args.slot slots.Value
    (seen c.args.part) c.args.place c.in-Value.is) h) c.transform_expr.ensures

pub expressions::transform_slot-returns-in_ok-transform_fn-in-Function : goal.expressions::transform_slot-returns-in_ok-transform_fn-in-Function
expressions::transform_slot-returns-in_ok-transform_fn-in-Function t c =
    let u = names_of c.args.bindings in
    let f = seen c.args.part in
    let at : c.unwrap_or-place.result ≡ or_own c.args.place (Function-span f) = c.unwrap_or-place.ensures ∙
    own_place c.args.place c.of.ensures.span in
    adds_same (slot_is u c.args.slot slots.Function f c.args.place c.in-Function.is
    ∙ ap (λ (p : SourceRange). answer_to (function_seen u (expr_seen u) ExpressionLike p f))
    (sym at)) c.in_ok-transform_fn-in-Function.ensures

-- ---- functions

pub functions::transform_fn-returns : goal.functions::transform_fn-returns
functions::transform_fn-returns t c =
    let u = names_of c.args.bindings in
    let f = seen c.args.function in
    let params = adds_same (ap (λ (ps : Tree). answer_of (params_looked u (parts ps))) (sym c.of.ensures.params)) c.in_ok-params.ensures in
    IfOk-weaker c.signed_function.result _ _ (λ tree e. adds_given (ap Some (sym e))
    (adds_joined (λ type ps. Some (signed_function (function_head f) type ps))
    (adds_settled c.in_ok-return_type.ensures) params)) c.signed_function.ensures

-- ---- patterns by their kind

pub parameters::transform_param_pat-returns-in_ok-to_tree-in-BindingIdent :
    goal.parameters::transform_param_pat-returns-in_ok-to_tree-in-BindingIdent
parameters::transform_param_pat-returns-in_ok-to_tree-in-BindingIdent t c =
    let kind = sym c.kind.ensures ∙ c.in-BindingIdent.is in
    let at = c.of-in-BindingIdent.ensures.span ∙ ap Ident-span c.of.ensures.id in
    IfOk-weaker c.typed.result _ _
    (λ tree h. adds_same
    (ap answer_to (seen_by_kind (names_of c.args.bindings) c.args.is_optional (seen c.args.pat) kinds.BindingIdent kind) ∙
    sym (λ i. answer_to (typed (c.of.ensures.type_ann i) (at i) (c.in_ok-to_tree-in-BindingIdent.ensures i)))) h) c.typed.ensures

pub parameters::transform_param_pat-returns-in_ok-emptied_array-in-ArrayPat :
    goal.parameters::transform_param_pat-returns-in_ok-emptied_array-in-ArrayPat
parameters::transform_param_pat-returns-in_ok-emptied_array-in-ArrayPat t c =
    let kind = sym c.kind.ensures ∙ c.in-ArrayPat.is in
    let of = c.of-in-ArrayPat.ensures in
    IfOk-weaker c.typed-in-ArrayPat.result _ _
    (λ tree h. adds_same
    (ap answer_to (seen_by_kind (names_of c.args.bindings) c.args.is_optional (seen c.args.pat) kinds.ArrayPat kind) ∙
    sym (λ i. answer_to (typed (of.type_ann i) (of.span i) (c.in_ok-emptied_array-in-ArrayPat.ensures i)))) h) c.typed-in-ArrayPat.ensures

pub parameters::transform_param_pat-returns-in_ok-emptied_object-in-ObjectPat :
    goal.parameters::transform_param_pat-returns-in_ok-emptied_object-in-ObjectPat
parameters::transform_param_pat-returns-in_ok-emptied_object-in-ObjectPat t c =
    let kind = sym c.kind.ensures ∙ c.in-ObjectPat.is in
    let of = c.of-in-ObjectPat.ensures in
    IfOk-weaker c.typed-in-ObjectPat.result _ _
    (λ tree h. adds_same
    (ap answer_to (seen_by_kind (names_of c.args.bindings) c.args.is_optional (seen c.args.pat) kinds.ObjectPat kind) ∙
    sym (λ i. answer_to
    (typed (of.type_ann i) (of.span i) (c.in_ok-emptied_object-in-ObjectPat.ensures i)))) h) c.typed-in-ObjectPat.ensures

pub parameters::transform_assign_pat-returns-in-Some : goal.parameters::transform_assign_pat-returns-in-Some
parameters::transform_assign_pat-returns-in-Some t c =
    let u = names_of c.args.bindings in
    let b = c.args.is_optional in
    let pat = seen c.args.pat in
    let ident : kind_of (AssignPat-left pat) ≡ kinds.BindingIdent = sym (c.kind.ensures ∙ ap kind_of c.of.ensures.left) ∙
    c.in-BindingIdent.is in
    let known : type_of u.unresolved (default_typing pat) ≡ Some c.in-Some.ty = sym c.in_ok-ty-in-BindingIdent.ensures ∙ c.in-Some.is in
    IfOk-weaker c.without_default.result _ _
    (λ tree e. adds_same (ap answer_to (seen_known u b pat c.in-Some.ty ident known) ∙
    ap (λ (x : Tree). faultless (Some x))
    (sym (e ∙ ap (λ (l : Tree). without_default b (BindingIdent-id l) c.in-Some.ty) c.of.ensures.left)))
    (adds_nothing (Some tree) c.args.faults.now.items)) c.without_default.ensures

pub parameters::transform_assign_pat-transform_value-requires : goal.parameters::transform_assign_pat-transform_value-requires
parameters::transform_assign_pat-transform_value-requires t c =
    (omega (arith, c.decreases, height_at_most (seen c.args.pat) 2, ap height c.of.ensures.right), tt)

pub parameters::transform_assign_pat-returns : goal.parameters::transform_assign_pat-returns
parameters::transform_assign_pat-returns t c =
    let u = names_of c.args.bindings in
    let b = c.args.is_optional in
    let pat = seen c.args.pat in
    let left = c.of.ensures.left in
    let side = c.match-kind.name in
    let right = AssignPat-right pat in
    let left_out : assign_seen u (expr_seen u) b pat ≡ default_seen (AssignPat-span pat) side.1 side.2 (expr_seen u right side.0) =
    elim c.match-kind.branch [
      | parameters::transform_assign_pat-in-BindingIdent+in_ok-ty-in-BindingIdent+in_default-2+in_ok-to_tree-in-BindingIdent w ↦
          let ident : kind_of (AssignPat-left pat) ≡ kinds.BindingIdent =
          sym (c.kind.ensures ∙ ap kind_of left) ∙ w.in-BindingIdent.is in
          let unknown : type_of u.unresolved (default_typing pat) ≡ None = none_of (type_of u.unresolved (default_typing pat))
          (λ type e. w.in_default-2.not-Some type (w.in_ok-ty-in-BindingIdent.ensures ∙ e)) in
          let at = w.of-in-BindingIdent-2.ensures.span ∙ ap Ident-span (w.of-in-BindingIdent.ensures.id ∙ ap BindingIdent-id left) in
          seen_left_out u b pat ident unknown
          ∙ sym (λ i. default_seen (AssignPat-span pat) (at i) ((w.in_ok-to_tree-in-BindingIdent.ensures ∙ left) i)
          (expr_seen u right (Some (at i))))
          ∙ sym (λ i. default_seen (AssignPat-span pat) (w.name-is i).1 (w.name-is i).2 (expr_seen u right (w.name-is i).0))
      | parameters::transform_assign_pat-in-ArrayPat+in_ok-left-in-ArrayPat+else-not-is_absent w ↦
          let of = w.of-array.ensures in
          let kind : kind_of (AssignPat-left pat) ≡ kinds.ArrayPat = sym (c.kind.ensures ∙ ap kind_of left) ∙ w.in-ArrayPat.is in
          let absent = ap is_absent (sym (of.type_ann ∙ ap ArrayPat-type_ann left)) ∙
          (sym w.is_absent.ensures ∙ w.if-not-is_absent.false) in
          seen_untyped_array u b pat kind absent
          ∙ sym (λ i. default_seen (AssignPat-span pat) ((of.span ∙ ap ArrayPat-span left) i)
          ((w.in_ok-left-in-ArrayPat.ensures ∙ ap emptied_array left) i) (expr_seen u right None))
          ∙ sym (λ i. default_seen (AssignPat-span pat) (w.name-is i).1 (w.name-is i).2 (expr_seen u right (w.name-is i).0))
      | parameters::transform_assign_pat-in-ObjectPat+in_ok-left-in-ObjectPat+else-not-is_absent-2 w ↦
          let of = w.of-object.ensures in
          let kind : kind_of (AssignPat-left pat) ≡ kinds.ObjectPat = sym (c.kind.ensures ∙ ap kind_of left) ∙ w.in-ObjectPat.is in
          let absent = ap is_absent (sym (of.type_ann ∙ ap ObjectPat-type_ann left)) ∙
          (sym w.is_absent-in-ObjectPat.ensures ∙ w.if-not-is_absent-2.false) in
          seen_untyped_object u b pat kind absent
          ∙ sym (λ i. default_seen (AssignPat-span pat) ((of.span ∙ ap ObjectPat-span left) i)
          ((w.in_ok-left-in-ObjectPat.ensures ∙ ap emptied_object left) i) (expr_seen u right None))
          ∙ sym (λ i. default_seen (AssignPat-span pat) (w.name-is i).1 (w.name-is i).2 (expr_seen u right (w.name-is i).0))
    ] in
    let value = ap (λ (v : Tree). answer_to (expr_seen u v side.0)) c.of.ensures.right in
    let fault = fault_at MissingExplicitType side.1 in
    IfOk-weaker c.with_default-2.result _ _ (λ tree h. adds_same (ap answer_to left_out) h)
    (default_made c.with_default-2.result (record { span = AssignPat-span pat; left = side.2; place = side.1 })
    (answer_to (expr_seen u right side.0)) _ _ (adds_same (ap (demanded fault) (sym value)) c.in_ok-right.ensures)
    c.with_default-2.ensures)

pub expressions::transform_value-returns-in-Some : goal.expressions::transform_value-returns-in-Some
expressions::transform_value-returns-in-Some t c = adds_demanded c.args.fault (adds_given c.in-Some.is c.in_ok-tree.ensures)

pub parameters::transform_params-returns : goal.parameters::transform_params-returns
parameters::transform_params-returns t c =
    let u = names_of c.args.bindings in
    let all = c.parts-params.ensures in
    adds_same (ap (λ (ps : List Tree). answer_of (params_looked u ps)) (sym all))
    (items_end c.loop-index.items
    (behind_along
    (ap (λ (ps : List Tree). answer_of (params_looked u ps))
    (drop_all c.loop-index.index c.parts-params.result.now c.loop-index-test.false))
    c.loop-index.invariant))
