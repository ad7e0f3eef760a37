use Rattle.std.proofs.Common.{◌∙◌, sym}
use Rattle.std.proofs.lemmas.Result.{IfOk-weaker}
use Rattle.fast_check_transform_expressions.specs.nodes.Bindings.{names_of}
use Rattle.fast_check_tree_syntax.specs.Part.{seen}
use Rattle.fast_check_tables_modules.specs.diagnostics.PublicRanges.{is_implementation}
use Rattle.fast_check_tree_syntax.specs.declared.kind.Kind.TheVariants as kinds
use Rattle.fast_check_transform_classes.proofs.MembersKept.{a_constructor, a_method, a_property, an_accessor, another}
use Rattle.fast_check_transform_classes.proofs.members.transform_member.Goals as goal

pub returns-in-Constructor : goal.returns-in-Constructor
returns-in-Constructor c =
    IfOk-weaker c.transform_constructor.result _ _
    (λ tree h. a_constructor (names_of c.args.bindings) (is_implementation c.args.public_ranges.now) (seen c.args.member)
    (sym c.kind.ensures ∙
    c.in-Constructor.is) h)
    c.transform_constructor.ensures

pub returns-in-ClassMethod : goal.returns-in-ClassMethod
returns-in-ClassMethod c =
    IfOk-weaker c.transform_method.result _ _
    (λ tree h. a_method (names_of c.args.bindings) (is_implementation c.args.public_ranges.now) (seen c.args.member)
    (sym c.kind.ensures ∙
    c.in-ClassMethod.is) h)
    c.transform_method.ensures

pub returns-in-ClassProp : goal.returns-in-ClassProp
returns-in-ClassProp c =
    IfOk-weaker c.transform_property.result _ _
    (λ tree h. a_property (names_of c.args.bindings) (is_implementation c.args.public_ranges.now) (seen c.args.member)
    (sym c.kind.ensures ∙
    c.in-ClassProp.is) h)
    c.transform_property.ensures

pub returns-in-AutoAccessor : goal.returns-in-AutoAccessor
returns-in-AutoAccessor c =
    IfOk-weaker c.transform_accessor.result _ _
    (λ tree h. an_accessor (names_of c.args.bindings) (is_implementation c.args.public_ranges.now) (seen c.args.member)
    (sym c.kind.ensures ∙
    c.in-AutoAccessor.is) h)
    c.transform_accessor.ensures

pub returns-in_default : goal.returns-in_default
returns-in_default c =
    let d = c.in_default in
    let k = c.kind.ensures in
    IfOk-weaker c.to_tree.result _ _
    (λ tree e. another (names_of c.args.bindings) (is_implementation c.args.public_ranges.now) (seen c.args.member)
    (λ x. d.not-Constructor (k ∙ x))
    (λ x. d.not-ClassMethod (k ∙ x)) (λ x. d.not-ClassProp (k ∙ x))
    (λ x. d.not-AutoAccessor (k ∙ x)) e c.args.faults.now.items) c.to_tree.ensures
