use Rattle.std.proofs.Common.{ap, ◌∙◌, sym, refl}
use Rattle.fast_check_transform_expressions.specs.nodes.Bindings.{names_of}
use Rattle.fast_check_tree_syntax.specs.Part.{seen}
use Rattle.fast_check_tree_syntax.specs.Shape.{parts}
use Rattle.fast_check_tables_modules.specs.diagnostics.PublicRanges.{is_implementation}
use Rattle.fast_check_transform_classes.proofs.Constructed.{constructor_faulty, constructor_stays}
use Rattle.fast_check_transform_classes.proofs.Nothing.{none_of}
use Rattle.fast_check_meaning_signatures.proofs.Adding.{some_of}
use Rattle.fast_check_transform_classes.proofs.constructors.transform_constructor.Goals as goal

pub returns-in-Some : goal.returns-in-Some
returns-in-Some c =
    constructor_faulty (names_of c.args.bindings) (is_implementation c.args.public_ranges.now) (seen c.args.member)
    (sym c.pattern_among.ensures ∙ c.in-Some.is) (c.parts.ensures ∙ ap parts c.of.ensures.params) c.in_ok-push.ensures.items

pub returns : goal.returns
returns c =
    some_of c.signed_constructor.result c.signed_constructor.ensures
    (constructor_stays (names_of c.args.bindings) (is_implementation c.args.public_ranges.now) (seen c.args.member)
    (sym c.pattern_among.ensures ∙ none_of c.pattern_among.result (λ range e. c.in_default.not-Some range e)) (c.parts.ensures ∙
    ap parts c.of.ensures.params) c.in_ok-params.ensures) refl
