use Rattle.std.proofs.Common.{ap, ◌∙◌, sym, refl, arith}
use Rattle.fast_check_tree_helpers.specs.Places.{at-MemberExpr-obj, at-MemberExpr-prop}
use Rattle.fast_check_tree_syntax.specs.declared.tree.Tree.{Tree}
use Rattle.fast_check_tree_syntax.specs.Shape.{kind_of}
use Rattle.fast_check_meaning_signatures.specs.Classes.{is_reference, property_of_kind}
use Rattle.fast_check_tree_syntax.specs.declared.kind.Kind.TheVariants as kinds
use Rattle.fast_check_tree_syntax.specs.Part.{seen}
use Rattle.fast_check_transform_classes.proofs.class_nodes.References.{reference_by, no_reference, no_property, member_reference, at-ComputedPropName-expr}
use Rattle.fast_check_transform_classes.proofs.class_nodes.References.{lower, lower_odd}
use Rattle.fast_check_transform_classes.proofs.class_nodes.superclasses.+reference.Goals as goal

pub is_reference-returns-in-Ident : goal.is_reference-returns-in-Ident
is_reference-returns-in-Ident t c = reference_by (seen c.args.expr) kinds.Ident (sym c.kind.ensures ∙ c.in-Ident.is)

pub is_reference-returns-in_default : goal.is_reference-returns-in_default
is_reference-returns-in_default t c =
    no_reference (seen c.args.expr) c.kind.result (sym c.kind.ensures) c.in_default.not-Ident c.in_default.not-MemberExpr

pub is_reference_property-returns-in_default : goal.is_reference_property-returns-in_default
is_reference_property-returns-in_default t c =
    no_property (seen c.args.prop) c.kind.result (sym c.kind.ensures) c.in_default.not-IdentName c.in_default.not-ComputedPropName

pub is_reference-is_reference-requires : goal.is_reference-is_reference-requires
is_reference-is_reference-requires t c =
    (lower_odd (seen c.args.expr) at-MemberExpr-obj.place c.decreases c.in-MemberExpr.ensures c.of.ensures.obj refl, tt)

pub is_reference-is_reference_property-requires : goal.is_reference-is_reference_property-requires
is_reference-is_reference_property-requires t c =
    (omega (arith, c.decreases, lower (seen c.args.expr) at-MemberExpr-prop.place c.in-MemberExpr.ensures c.of.ensures.prop refl), tt)

pub is_reference_property-is_reference-requires : goal.is_reference_property-is_reference-requires
is_reference_property-is_reference-requires t c = (
  omega (
    arith,
    c.decreases,
    lower (seen c.args.prop) at-ComputedPropName-expr.place c.in-ComputedPropName.ensures c.of.ensures.expr refl,
  ),
  tt,
)

pub is_reference-returns-then-is_reference : goal.is_reference-returns-then-is_reference
is_reference-returns-then-is_reference t c =
    let prop = c.is_reference_property.ensures ∙ ap (λ (p : Tree). property_of_kind (kind_of p) p is_reference) c.of.ensures.prop in
    member_reference (seen c.args.expr) (sym c.in-MemberExpr.ensures)
    (sym c.if-is_reference.true ∙ (c.is_reference.ensures ∙ ap is_reference c.of.ensures.obj)) prop

pub is_reference-returns-else-is_reference : goal.is_reference-returns-else-is_reference
is_reference-returns-else-is_reference t c =
    c.if-is_reference.false ∙ member_reference (seen c.args.expr) (sym c.in-MemberExpr.ensures)
    (sym c.if-is_reference.false ∙ (c.is_reference.ensures ∙ ap is_reference c.of.ensures.obj)) refl
