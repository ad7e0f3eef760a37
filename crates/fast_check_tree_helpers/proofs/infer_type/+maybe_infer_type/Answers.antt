use Rattle.std.proofs.Common.{ap, sym, Some, ◌∙◌}
use Rattle.std.proofs.lemmas.Result.{IfOk-weaker}
use Rattle.fast_check_tree_syntax.specs.declared.kind.Kind.TheVariants as kinds
use Rattle.fast_check_tree_syntax.specs.Part.{seen}
use Rattle.fast_check_tree_helpers.specs.InferredType.{inferred_type, asserted_type, symbol_type}
use Rattle.fast_check_tree_helpers.proofs.InferredTypes.{inferred_at, inferred_value, inferred_asserted, asserted_result, passes}
use Rattle.fast_check_tree_helpers.proofs.Lower.{lower_than}
use Rattle.fast_check_tree_helpers.proofs.infer_type.+maybe_infer_type.Goals as goal

pub returns-in-TsAsExpr-clause-inferred : goal.returns-in-TsAsExpr-clause-inferred
returns-in-TsAsExpr-clause-inferred t c =
    IfOk-weaker c.asserted_type.result _ _
    (λ found e. e ∙ (ap asserted_type c.of.ensures.type_ann
    ∙ sym (inferred_at c.args.mutability c.args.unresolved (seen c.args.value) kinds.TsAsExpr
    (sym c.kind-kind.ensures ∙ c.in-TsAsExpr.is)))) c.asserted_type.ensures

pub returns-in-TsAsExpr-clause-asserted : goal.returns-in-TsAsExpr-clause-asserted
returns-in-TsAsExpr-clause-asserted t c =
    asserted_result c.args.mutability c.args.unresolved (seen c.args.value) c.asserted_type.result (returns-in-TsAsExpr-clause-inferred t c)

pub returns-in-TsTypeAssertion-clause-inferred : goal.returns-in-TsTypeAssertion-clause-inferred
returns-in-TsTypeAssertion-clause-inferred t c =
    IfOk-weaker c.asserted_type-in-TsTypeAssertion.result _ _
    (λ found e. e ∙ (ap asserted_type c.of-in-TsTypeAssertion.ensures.type_ann
    ∙ sym (inferred_at c.args.mutability c.args.unresolved (seen c.args.value) kinds.TsTypeAssertion
    (sym c.kind-kind.ensures ∙ c.in-TsTypeAssertion.is))))
    c.asserted_type-in-TsTypeAssertion.ensures

pub returns-in-TsTypeAssertion-clause-asserted : goal.returns-in-TsTypeAssertion-clause-asserted
returns-in-TsTypeAssertion-clause-asserted t c =
    asserted_result c.args.mutability c.args.unresolved (seen c.args.value) c.asserted_type-in-TsTypeAssertion.result
    (returns-in-TsTypeAssertion-clause-inferred t c)

pub returns-in-CallExpr-clause-inferred : goal.returns-in-CallExpr-clause-inferred
returns-in-CallExpr-clause-inferred t c =
    let of = c.of-in-CallExpr.ensures in
    IfOk-weaker c.symbol_type.result _ _
    (λ found e. e ∙ ((λ i. symbol_type c.args.unresolved (of.callee i) (of.args i))
    ∙ sym (inferred_at c.args.mutability c.args.unresolved (seen c.args.value) kinds.CallExpr
    (sym c.kind-kind.ensures ∙ c.in-CallExpr.is)))) c.symbol_type.ensures

pub returns-in-CallExpr-clause-asserted : goal.returns-in-CallExpr-clause-asserted
returns-in-CallExpr-clause-asserted t c =
    asserted_result c.args.mutability c.args.unresolved (seen c.args.value) c.symbol_type.result (returns-in-CallExpr-clause-inferred t c)

pub maybe_infer_type-requires : goal.maybe_infer_type-requires
maybe_infer_type-requires t c = (
  lower_than (seen c.args.value) _ c.decreases
      (λ leaf. passes c.kind-kind.result _ (sym c.in-Some.is ∙ c.value_in.ensures) (c.kind-kind.ensures ∙ leaf)) c.part.ensures,
  tt,
)

pub returns-in-Some-clause-inferred : goal.returns-in-Some-clause-inferred
returns-in-Some-clause-inferred t c =
    let d = c.in_default in
    let value = inferred_value c.args.mutability c.args.unresolved (seen c.args.value) c.kind-kind.result (sym c.kind-kind.ensures)
    (record {
      as_type = d.not-TsAsExpr;
      assertion = d.not-TsTypeAssertion;
      call = d.not-CallExpr;
      template = d.not-Tpl;
    }) (sym c.in-Some.is ∙ c.value_in.ensures) in
    IfOk-weaker c.maybe_infer_type.result _ _
    (λ found e. e ∙ (ap (inferred_type c.args.mutability c.args.unresolved) c.part.ensures ∙ sym value)) c.maybe_infer_type.ensures.inferred

pub returns-in-Some-clause-asserted : goal.returns-in-Some-clause-asserted
returns-in-Some-clause-asserted t c =
    asserted_result c.args.mutability c.args.unresolved (seen c.args.value) c.maybe_infer_type.result (returns-in-Some-clause-inferred t c)

pub returns-in-None-clause-inferred : goal.returns-in-None-clause-inferred
returns-in-None-clause-inferred t c =
    let d = c.in_default in
    let value = inferred_value c.args.mutability c.args.unresolved (seen c.args.value) c.kind-kind.result (sym c.kind-kind.ensures)
    (record {
      as_type = d.not-TsAsExpr;
      assertion = d.not-TsTypeAssertion;
      call = d.not-CallExpr;
      template = d.not-Tpl;
    }) (sym c.in-None.is ∙ c.value_in.ensures) in
    IfOk-weaker c.maybe_lit_to_ts_type.result _ _ (λ found e. e ∙ sym value) c.maybe_lit_to_ts_type.ensures

pub returns-in-None-clause-asserted : goal.returns-in-None-clause-asserted
returns-in-None-clause-asserted t c =
    asserted_result c.args.mutability c.args.unresolved (seen c.args.value) c.maybe_lit_to_ts_type.result
    (returns-in-None-clause-inferred t c)

pub returns-in_ok-tpl_to_ts_type-in-Tpl-clause-inferred : goal.returns-in_ok-tpl_to_ts_type-in-Tpl-clause-inferred
returns-in_ok-tpl_to_ts_type-in-Tpl-clause-inferred t c =
    ap Some c.in_ok-tpl_to_ts_type-in-Tpl.ensures
    ∙ sym (inferred_at c.args.mutability c.args.unresolved (seen c.args.value) kinds.Tpl (sym c.kind-kind.ensures ∙ c.in-Tpl.is))

pub returns-in_ok-tpl_to_ts_type-in-Tpl-clause-asserted : goal.returns-in_ok-tpl_to_ts_type-in-Tpl-clause-asserted
returns-in_ok-tpl_to_ts_type-in-Tpl-clause-asserted t c type a s =
    returns-in_ok-tpl_to_ts_type-in-Tpl-clause-inferred t c ∙ inferred_asserted c.args.mutability c.args.unresolved
    (seen c.args.value) type a s
