use Rattle.std.proofs.Common.{refl, sym, ap, not, ◌∙◌}
use Rattle.fast_check_tree_syntax.specs.declared.kind.Kind.{Kind}
use Rattle.fast_check_tree_syntax.specs.declared.kind.Kind.TheVariants as kinds
use Rattle.fast_check_tree_syntax.specs.Part.{seen}
use Rattle.fast_check_tree_syntax.specs.Shape.{◌is◌, kind_of, is_absent}
use Rattle.fast_check_tree_helpers.specs.Places.{at-TsTypeRef-type_params}
use Rattle.fast_check_tree_helpers.specs.SimpleType.{is_simple_type}
use Rattle.fast_check_tree_helpers.proofs.Lower.{lower_part, lower_odd, lower_list, lower_item}
use Rattle.fast_check_tree_helpers.proofs.SimpleTypes.{holds, simple_at, simple_each, simple_types, one_fails, one_passes, all_pass}
use Rattle.fast_check_tree_syntax.proofs.Tests.{or_first, or_second}
use Rattle.fast_check_tree_helpers.proofs.simple_type.+simple.Goals as goal

pub is_simple_type-returns-in-TsKeywordType : goal.is_simple_type-returns-in-TsKeywordType
is_simple_type-returns-in-TsKeywordType t c =
    sym (simple_at (seen c.args.ty) kinds.TsKeywordType (sym c.kind-kind.ensures ∙ c.in-TsKeywordType.is))

pub is_simple_type-returns-in-TsThisType : goal.is_simple_type-returns-in-TsThisType
is_simple_type-returns-in-TsThisType t c = sym (simple_at (seen c.args.ty) kinds.TsThisType (sym c.kind-kind.ensures ∙ c.in-TsThisType.is))

pub is_simple_type-returns-in-TsTypeLit : goal.is_simple_type-returns-in-TsTypeLit
is_simple_type-returns-in-TsTypeLit t c = sym (simple_at (seen c.args.ty) kinds.TsTypeLit (sym c.kind-kind.ensures ∙ c.in-TsTypeLit.is))

pub is_simple_type-returns-in-TsLitType : goal.is_simple_type-returns-in-TsLitType
is_simple_type-returns-in-TsLitType t c =
    c.ne.ensures ∙ (ap (λ (k : Kind). not (k is kinds.TsTplLitType)) (c.kind.ensures ∙ ap kind_of c.of.ensures.lit)
    ∙ sym (simple_at (seen c.args.ty) kinds.TsLitType (sym c.kind-kind.ensures ∙ c.in-TsLitType.is)))

pub is_simple_type-is_simple_type-requires : goal.is_simple_type-is_simple_type-requires
is_simple_type-is_simple_type-requires t c = (
  lower_odd (seen c.args.ty) at-TsTypeRef-type_params.place c.decreases
      (sym c.in-TsTypeRef.is ∙ c.kind-kind.ensures) c.of-in-TsTypeRef.ensures.type_params refl,
  tt,
)

pub is_simple_type-returns-then-is_absent : goal.is_simple_type-returns-then-is_absent
is_simple_type-returns-then-is_absent t c =
    let absent = c.is_absent.ensures ∙ ap is_absent c.of-in-TsTypeRef.ensures.type_params in
    or_first _ _ (sym absent ∙ c.if-is_absent.true) absent ∙ sym
    (simple_at (seen c.args.ty) kinds.TsTypeRef (sym c.kind-kind.ensures ∙ c.in-TsTypeRef.is))

pub is_simple_type-returns-else-is_absent : goal.is_simple_type-returns-else-is_absent
is_simple_type-returns-else-is_absent t c =
    let of = c.of-in-TsTypeRef.ensures in
    or_second _ _ (sym (c.is_absent.ensures ∙ ap is_absent of.type_params) ∙ c.if-is_absent.false)
    (c.is_simple_type.ensures ∙ ap is_simple_type of.type_params)
    ∙ sym (simple_at (seen c.args.ty) kinds.TsTypeRef (sym c.kind-kind.ensures ∙ c.in-TsTypeRef.is))

pub is_simple_type-are_simple_types-requires : goal.is_simple_type-are_simple_types-requires
is_simple_type-are_simple_types-requires t c = (lower_list (seen c.args.ty) c.decreases, tt)

pub is_simple_type-returns-in-List : goal.is_simple_type-returns-in-List
is_simple_type-returns-in-List t c = c.are_simple_types.ensures ∙
    sym (simple_each (seen c.args.ty) (sym c.kind-kind.ensures ∙ c.in-List.is))

pub is_simple_type-is_simple_type-requires-in-Some : goal.is_simple_type-is_simple_type-requires-in-Some
is_simple_type-is_simple_type-requires-in-Some t c = (
  lower_part (seen c.args.ty) _ c.decreases
      (λ leaf. holds c.kind-kind.result _ (sym c.in-Some.is ∙ c.types_in.ensures) (c.kind-kind.ensures ∙ leaf)) c.part.ensures,
  tt,
)

pub is_simple_type-returns-in-Some : goal.is_simple_type-returns-in-Some
is_simple_type-returns-in-Some t c =
    let d = c.in_default in
    c.is_simple_type-in-Some.ensures ∙ (ap is_simple_type c.part.ensures
    ∙ sym (simple_types (seen c.args.ty) c.kind-kind.result (sym c.kind-kind.ensures) (record {
      keyword = d.not-TsKeywordType;
      this = d.not-TsThisType;
      literal = d.not-TsTypeLit;
      lit = d.not-TsLitType;
      reference = d.not-TsTypeRef;
      list = d.not-List;
    }) (sym c.in-Some.is ∙ c.types_in.ensures)))

pub is_simple_type-returns-in-None : goal.is_simple_type-returns-in-None
is_simple_type-returns-in-None t c =
    let d = c.in_default in
    sym (simple_types (seen c.args.ty) c.kind-kind.result (sym c.kind-kind.ensures) (record {
      keyword = d.not-TsKeywordType;
      this = d.not-TsThisType;
      literal = d.not-TsTypeLit;
      lit = d.not-TsLitType;
      reference = d.not-TsTypeRef;
      list = d.not-List;
    }) (sym c.in-None.is ∙ c.types_in.ensures))

pub are_simple_types-loop-ty-init : goal.are_simple_types-loop-ty-init
are_simple_types-loop-ty-init t c = refl

pub are_simple_types-is_simple_type-requires : goal.are_simple_types-is_simple_type-requires
are_simple_types-is_simple_type-requires t c =
    (lower_item (seen c.args.types) _ _ _ c.decreases c.parts-ty-items.ensures c.loop-ty-test.true c.ty-item.is c.read.ensures, tt)

pub are_simple_types-returns-then-not-is_simple_type : goal.are_simple_types-returns-then-not-is_simple_type
are_simple_types-returns-then-not-is_simple_type t c =
    one_fails _ _ _ _ c.parts-ty-items.ensures c.loop-ty-test.true c.ty-item.is c.read.ensures c.is_simple_type.ensures
    c.if-not-is_simple_type.true

pub are_simple_types-loop-ty-preserved : goal.are_simple_types-loop-ty-preserved
are_simple_types-loop-ty-preserved t c =
    one_passes _ _ _ c.loop-ty-test.true c.ty-item.is c.read.ensures c.loop-ty.invariant c.is_simple_type.ensures
    c.if-not-is_simple_type.false

pub are_simple_types-returns : goal.are_simple_types-returns
are_simple_types-returns t c = all_pass _ _ _ c.parts-ty-items.ensures c.loop-ty-test.false c.loop-ty.invariant
