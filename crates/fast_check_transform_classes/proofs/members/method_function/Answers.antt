use Rattle.std.proofs.Common.{ap, ◌∙◌, sym}
use Rattle.std.proofs.lemmas.Result.{IfOk-weaker}
use Rattle.fast_check_transform_expressions.specs.nodes.Bindings.{names_of}
use Rattle.fast_check_tree_syntax.specs.Part.{seen}
use Rattle.fast_check_tree_helpers.specs.ranges.Ranges.{range_of_node}
use Rattle.fast_check_tables_modules.specs.diagnostics.PublicRanges.{is_implementation}
use Rattle.fast_check_meaning_signatures.specs.Classes.{method_kind}
use Rattle.fast_check_transform_classes.proofs.MembersKept.{implementation, signature}
use Rattle.fast_check_transform_classes.proofs.members.method_function.Goals as goal

pub returns-then-is_impl_with_overloads : goal.returns-then-is_impl_with_overloads
returns-then-is_impl_with_overloads c =
    IfOk-weaker c.transform_implementation.result _ _
    (λ tree h. implementation (names_of c.args.bindings) (is_implementation c.args.public_ranges.now) (seen c.args.member)
    (ap (is_implementation c.args.public_ranges.now) (sym c.of.ensures.span) ∙
    (sym c.is_impl_with_overloads.ensures ∙ c.if-is_impl_with_overloads.true))
    {f = seen c.of.result.function} {t = tree} c.of.ensures.function h c.args.faults.now.items) c.transform_implementation.ensures

pub returns : goal.returns
returns c =
    IfOk-weaker c.transform_fn.result _ _
    (λ tree h. signature (names_of c.args.bindings) (is_implementation c.args.public_ranges.now) (seen c.args.member)
    (ap (is_implementation c.args.public_ranges.now) (sym c.of.ensures.span) ∙
    (sym c.is_impl_with_overloads.ensures ∙ c.if-is_impl_with_overloads.false))
    {kind = c.method_kind-kind.result} {place = c.range_of_node.result} {f = seen c.of.result.function} h (c.method_kind-kind.ensures ∙
    ap method_kind c.of.ensures.kind) (c.range_of_node.ensures ∙ ap range_of_node c.of.ensures.key) c.of.ensures.function)
    c.transform_fn.ensures
