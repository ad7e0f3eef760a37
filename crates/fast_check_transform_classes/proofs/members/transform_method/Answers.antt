use Rattle.std.proofs.Common.{ap, ◌∙◌, sym, refl}
use Rattle.fast_check_transform_expressions.specs.nodes.Bindings.{names_of}
use Rattle.fast_check_tree_syntax.specs.Part.{seen}
use Rattle.fast_check_tables_modules.specs.diagnostics.PublicRanges.{is_implementation}
use Rattle.fast_check_meaning_signatures.specs.Answers.{declared_property}
use Rattle.fast_check_meaning_signatures.specs.Members.{is_private}
use Rattle.fast_check_transform_classes.proofs.MembersKept.{private_method, method_made}
use Rattle.fast_check_meaning_signatures.proofs.Adding.{some_of}
use Rattle.fast_check_transform_classes.proofs.members.transform_method.Goals as goal

pub returns-then-is_private : goal.returns-then-is_private
returns-then-is_private c =
    some_of c.declared.result c.declared.ensures
    (private_method (names_of c.args.bindings) (is_implementation c.args.public_ranges.now) (seen c.args.member)
    (ap is_private (sym c.of.ensures.accessibility) ∙ (sym c.is_private.ensures ∙ c.if-is_private.true)) c.args.faults.now.items)
    (λ i. declared_property (c.in_ok-private_method_head.ensures i) (c.in_ok-any.ensures i))

pub returns : goal.returns
returns c =
    some_of c.signed_method.result c.signed_method.ensures
    (method_made (names_of c.args.bindings) (is_implementation c.args.public_ranges.now) (seen c.args.member)
    (ap is_private (sym c.of.ensures.accessibility) ∙ (sym c.is_private.ensures ∙ c.if-is_private.false)) c.in_ok-function.ensures) refl
