use Rattle.std.proofs.Common.{ap, sym, ◌∙◌}
use Rattle.fast_check_tree_syntax.specs.declared.kind.Kind.TheVariants as kinds
use Rattle.fast_check_tree_syntax.specs.Part.{seen}
use Rattle.fast_check_tree_helpers.specs.NamedBodies.{names_type}
use Rattle.fast_check_tree_helpers.proofs.InferredTypes.{passes}
use Rattle.fast_check_tree_helpers.proofs.Named.{names_at, names_value}
use Rattle.fast_check_tree_helpers.proofs.Lower.{lower_than}
use Rattle.fast_check_tree_helpers.proofs.named_bodies.+names_type.Goals as goal

pub returns-in-TsAsExpr : goal.returns-in-TsAsExpr
returns-in-TsAsExpr t c = sym (names_at (seen c.args.value) kinds.TsAsExpr (sym c.kind-kind.ensures ∙ c.in-TsAsExpr.is))

pub returns-in-TsTypeAssertion : goal.returns-in-TsTypeAssertion
returns-in-TsTypeAssertion t c =
    sym (names_at (seen c.args.value) kinds.TsTypeAssertion (sym c.kind-kind.ensures ∙ c.in-TsTypeAssertion.is))

pub returns-in-Tpl : goal.returns-in-Tpl
returns-in-Tpl t c = sym (names_at (seen c.args.value) kinds.Tpl (sym c.kind-kind.ensures ∙ c.in-Tpl.is))

pub names_type-requires : goal.names_type-requires
names_type-requires t c = (
  lower_than (seen c.args.value) _ c.decreases
      (λ leaf. passes c.kind-kind.result _ (sym c.in-Some.is ∙ c.value_in.ensures) (c.kind-kind.ensures ∙ leaf)) c.part.ensures,
  tt,
)

pub returns-in-Some : goal.returns-in-Some
returns-in-Some t c =
    let d = c.in_default in
    c.names_type.ensures ∙ (ap names_type c.part.ensures ∙ sym (names_value (seen c.args.value) c.kind-kind.result (sym c.kind-kind.ensures)
    d.not-TsAsExpr d.not-TsTypeAssertion d.not-Tpl (sym c.in-Some.is ∙ c.value_in.ensures)))

pub returns-in-None : goal.returns-in-None
returns-in-None t c =
    let d = c.in_default in
    c.is_typed_literal.ensures ∙ sym (names_value (seen c.args.value) c.kind-kind.result (sym c.kind-kind.ensures)
    d.not-TsAsExpr d.not-TsTypeAssertion d.not-Tpl (sym c.in-None.is ∙ c.value_in.ensures))
