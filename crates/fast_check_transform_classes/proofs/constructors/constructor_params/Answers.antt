use Rattle.std.proofs.Common.{ap, ◌∙◌, sym, map}
use Rattle.fast_check_transform_expressions.specs.nodes.Bindings.{names_of}
use Rattle.fast_check_tree_syntax.specs.Part.{seen}
use Rattle.fast_check_tree_syntax.specs.Shape.{parts, list}
use Rattle.fast_check_tables_modules.specs.diagnostics.PublicRanges.{is_implementation}
use Rattle.fast_check_meaning_signatures.specs.Classes.{plain_param}
use Rattle.fast_check_meaning_signatures.specs.Members.{is_private}
use Rattle.fast_check_transform_classes.proofs.Constructed.{private_params, implementation_params, own_params}
use Rattle.fast_check_transform_classes.proofs.constructors.constructor_params.Goals as goal

pub returns-then-is_private : goal.returns-then-is_private
returns-then-is_private c =
    private_params (names_of c.args.bindings) (is_implementation c.args.public_ranges.now) (seen c.args.member)
    (ap is_private (sym c.of.ensures.accessibility) ∙
    (sym c.is_private.ensures ∙ c.if-is_private.true)) c.new.ensures c.args.faults.now.items

pub returns-then-is_impl_with_overloads : goal.returns-then-is_impl_with_overloads
returns-then-is_impl_with_overloads c =
    let private = ap is_private (sym c.of.ensures.accessibility) ∙ (sym c.is_private.ensures ∙ c.if-is_private.false) in
    let plain = c.in_ok-params.ensures ∙ ap (λ ps. list (map (λ p. plain_param p) (parts ps))) c.of.ensures.params in
    let asked = ap (is_implementation c.args.public_ranges.now) (sym c.of.ensures.span) ∙
    (sym c.is_impl_with_overloads.ensures ∙ c.if-is_impl_with_overloads.true) in
    implementation_params (names_of c.args.bindings) (is_implementation c.args.public_ranges.now)
    (seen c.args.member) c.any_params.result private asked
    (c.read.ensures ∙ plain) c.args.faults.now.items c.any_params.ensures

pub returns : goal.returns
returns c =
    let private = ap is_private (sym c.of.ensures.accessibility) ∙ (sym c.is_private.ensures ∙ c.if-is_private.false) in
    let plain = c.in_ok-params.ensures ∙ ap (λ ps. list (map (λ p. plain_param p) (parts ps))) c.of.ensures.params in
    let asked = ap (is_implementation c.args.public_ranges.now) (sym c.of.ensures.span) ∙
    (sym c.is_impl_with_overloads.ensures ∙ c.if-is_impl_with_overloads.false) in
    own_params (names_of c.args.bindings) (is_implementation c.args.public_ranges.now)
    (seen c.args.member) c.transform_params.result private asked
    (c.read-2.ensures ∙ plain) _ _ c.transform_params.ensures
