use Rattle.std.proofs.Common.{ap, is_some, sym, ◌∙◌}
use Rattle.fast_check_tree_syntax.specs.declared.kind.Kind.TheVariants as kinds
use Rattle.fast_check_tree_syntax.specs.Part.{seen}
use Rattle.fast_check_tree_helpers.specs.declared.literal_type.DeclMutabilityKind.TheVariants.{Mutable}
use Rattle.fast_check_tree_helpers.specs.GlobalCalls.{is_symbol_call}
use Rattle.fast_check_tree_helpers.specs.InferredType.{shows_type}
use Rattle.fast_check_tree_helpers.specs.SimpleType.{is_simple_type}
use Rattle.fast_check_tree_helpers.proofs.InferredTypes.{inferred_value, passes, shown_if, shows_at}
use Rattle.fast_check_tree_helpers.proofs.Lower.{lower_than}
use Rattle.fast_check_tree_helpers.proofs.infer_type.+shows_type.Goals as goal

pub returns-in-TsAsExpr : goal.returns-in-TsAsExpr
returns-in-TsAsExpr t c =
    c.is_simple_type.ensures ∙ (ap is_simple_type c.of.ensures.type_ann
    ∙ sym (shows_at c.args.unresolved (seen c.args.value) kinds.TsAsExpr (sym c.kind-kind.ensures ∙ c.in-TsAsExpr.is) ∙ shown_if _ _))

pub returns-in-TsTypeAssertion : goal.returns-in-TsTypeAssertion
returns-in-TsTypeAssertion t c =
    c.is_simple_type-in-TsTypeAssertion.ensures ∙ (ap is_simple_type c.of-in-TsTypeAssertion.ensures.type_ann
    ∙ sym (shows_at c.args.unresolved (seen c.args.value) kinds.TsTypeAssertion (sym c.kind-kind.ensures ∙ c.in-TsTypeAssertion.is) ∙
    shown_if _ _))

pub returns-in-CallExpr : goal.returns-in-CallExpr
returns-in-CallExpr t c =
    let of = c.of-in-CallExpr.ensures in
    c.is_symbol_call.ensures ∙ ((λ i. is_symbol_call c.args.unresolved (of.callee i) (of.args i))
    ∙ sym (shows_at c.args.unresolved (seen c.args.value) kinds.CallExpr (sym c.kind-kind.ensures ∙ c.in-CallExpr.is) ∙ shown_if _ _))

pub returns-in-Tpl : goal.returns-in-Tpl
returns-in-Tpl t c = sym (shows_at c.args.unresolved (seen c.args.value) kinds.Tpl (sym c.kind-kind.ensures ∙ c.in-Tpl.is))

pub shows_type-requires : goal.shows_type-requires
shows_type-requires t c = (
  lower_than (seen c.args.value) _ c.decreases
      (λ leaf. passes c.kind-kind.result _ (sym c.in-Some.is ∙ c.value_in.ensures) (c.kind-kind.ensures ∙ leaf)) c.part.ensures,
  tt,
)

pub returns-in-Some : goal.returns-in-Some
returns-in-Some t c =
    let d = c.in_default in
    c.shows_type.ensures ∙ (ap (shows_type c.args.unresolved) c.part.ensures
    ∙ sym (ap is_some (inferred_value Mutable c.args.unresolved (seen c.args.value) c.kind-kind.result (sym c.kind-kind.ensures) (record {
      as_type = d.not-TsAsExpr;
      assertion = d.not-TsTypeAssertion;
      call = d.not-CallExpr;
      template = d.not-Tpl;
    }) (sym c.in-Some.is ∙ c.value_in.ensures))))

pub returns-in-None : goal.returns-in-None
returns-in-None t c =
    let d = c.in_default in
    c.is_typed_literal.ensures ∙
    sym (ap is_some (inferred_value Mutable c.args.unresolved (seen c.args.value) c.kind-kind.result (sym c.kind-kind.ensures) (record {
      as_type = d.not-TsAsExpr;
      assertion = d.not-TsTypeAssertion;
      call = d.not-CallExpr;
      template = d.not-Tpl;
    }) (sym c.in-None.is ∙ c.value_in.ensures)))
