use Rattle.std.proofs.Common.{ap, ◌∙◌, sym, ◌++◌, ◌∷◌, []}
use Rattle.fast_check_transform_expressions.specs.nodes.Bindings.{names_of}
use Rattle.fast_check_tree_syntax.specs.Part.{seen}
use Rattle.fast_check_tree_helpers.specs.ranges.Ranges.{range_of_node}
use Rattle.fast_check_meaning_signatures.specs.Answers.{fault_at, declared_property}
use Rattle.fast_check_meaning_signatures.specs.declared.fault.FaultKind.TheVariants.{MissingExplicitType}
use Rattle.fast_check_transform_classes.proofs.PropertyCases.{typed_accessor, untyped_accessor}
use Rattle.fast_check_meaning_signatures.proofs.Adding.{some_of}
use Rattle.fast_check_transform_classes.proofs.properties.transform_accessor.Goals as goal

pub returns-in_ok-accessor_head-in-Some : goal.returns-in_ok-accessor_head-in-Some
returns-in_ok-accessor_head-in-Some c =
    some_of c.declared.result c.declared.ensures
    (typed_accessor (names_of c.args.bindings) (seen c.args.member) c.in-Some.ty
    (sym c.in_ok-ty.ensures ∙ c.in-Some.is) c.args.faults.now.items)
    (ap (λ h. declared_property h c.in-Some.ty) c.in_ok-accessor_head-in-Some.ensures)

pub returns-in_ok-push-in-None : goal.returns-in_ok-push-in-None
returns-in_ok-push-in-None c =
    let place = c.range_of_node.ensures ∙ ap range_of_node c.of.ensures.key in
    untyped_accessor (names_of c.args.bindings) (seen c.args.member) (sym c.in_ok-ty.ensures ∙ c.in-None.is)
    (c.in_ok-push-in-None.ensures.items ∙ ap (λ r. c.args.faults.now.items ++ fault_at MissingExplicitType r ∷ []) place)
