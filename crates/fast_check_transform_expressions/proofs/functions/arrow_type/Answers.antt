use Rattle.std.proofs.Common.{ap, ◌∙◌, sym}
use Rattle.fast_check_tree_syntax.specs.declared.kind.Kind.TheVariants as kinds
use Rattle.fast_check_tree_syntax.specs.Part.{seen}
use Rattle.fast_check_tree_syntax.specs.Shape.{◌is◌, kind_of, is_absent}
use Rattle.fast_check_tree_helpers.specs.declared.literal_type.DeclMutabilityKind.TheVariants.{Mutable}
use Rattle.fast_check_tree_helpers.specs.Builders.{type_ann}
use Rattle.fast_check_tree_helpers.specs.InferredType.{inferred_type}
use Rattle.fast_check_meaning_signatures.specs.declared.function_kind.FunctionKind.TheVariants.{ExpressionLike}
use Rattle.fast_check_meaning_signatures.specs.Answers.{answer_to}
use Rattle.fast_check_meaning_signatures.specs.Functions.{body_seen}
use Rattle.fast_check_meaning_signatures.specs.NewNodes.{promised}
use Rattle.fast_check_meaning_signatures.proofs.Adding.{adds_same}
use Rattle.fast_check_transform_expressions.proofs.Arrows.{type_written, type_of_block, type_shown, type_unknown}
use Rattle.fast_check_transform_expressions.proofs.functions.arrow_type.Goals as goal

pub returns-then-not-is_absent : goal.returns-then-not-is_absent
returns-then-not-is_absent c =
    let of = c.of-arrow.ensures in
    type_written c.args.unresolved c.args.place (seen c.args.arrow)
    (ap is_absent (sym of.return_type) ∙ (sym c.is_absent.ensures ∙ c.if-not-is_absent.true)) (c.in_ok-to_tree.ensures ∙ of.return_type)

pub returns-then-eq : goal.returns-then-eq
returns-then-eq c =
    let of = c.of-arrow.ensures in
    let u = c.args.unresolved in
    type_of_block u c.args.place (seen c.args.arrow)
    (ap is_absent (sym of.return_type) ∙ (sym c.is_absent.ensures ∙ c.if-not-is_absent.false))
    (ap (λ k. k is kinds.BlockStmt) (sym (c.kind.ensures ∙ ap kind_of of.body)) ∙ (sym c.eq.ensures ∙ c.if-eq.true))
    (adds_same (λ i. answer_to (body_seen u ExpressionLike (sym of.is_async i) (sym of.is_generator i) c.args.place (sym of.body i)))
    c.in_ok-type_by_body.ensures)

pub returns-in_ok-type_ann-in-Some : goal.returns-in_ok-type_ann-in-Some
returns-in_ok-type_ann-in-Some c =
    let of = c.of-arrow.ensures in
    let shown = (λ i. inferred_type Mutable c.args.unresolved (sym of.body i)) ∙ (sym c.in_ok-ty.ensures.inferred ∙ c.in-Some.is) in
    type_shown c.args.unresolved c.args.place (seen c.args.arrow) c.in-Some.ty
    (ap is_absent (sym of.return_type) ∙ (sym c.is_absent.ensures ∙ c.if-not-is_absent.false))
    (ap (λ k. k is kinds.BlockStmt) (sym (c.kind.ensures ∙ ap kind_of of.body)) ∙ (sym c.eq.ensures ∙ c.if-eq.false)) shown
    (c.in_ok-type_ann-in-Some.ensures ∙ ap type_ann (c.in_ok-ty-in-Some.ensures ∙ (λ i. promised c.args.unresolved (of.is_async i) c.in-Some.ty)))

pub returns-in-None : goal.returns-in-None
returns-in-None c =
    let of = c.of-arrow.ensures in
    let shown = (λ i. inferred_type Mutable c.args.unresolved (sym of.body i)) ∙ (sym c.in_ok-ty.ensures.inferred ∙ c.in-None.is) in
    type_unknown c.args.unresolved c.args.place (seen c.args.arrow)
    (ap is_absent (sym of.return_type) ∙ (sym c.is_absent.ensures ∙ c.if-not-is_absent.false))
    (ap (λ k. k is kinds.BlockStmt) (sym (c.kind.ensures ∙ ap kind_of of.body)) ∙ (sym c.eq.ensures ∙ c.if-eq.false)) shown
