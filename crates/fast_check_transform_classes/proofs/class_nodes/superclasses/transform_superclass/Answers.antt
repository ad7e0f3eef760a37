use Rattle.std.proofs.Common.{ap, ◌∙◌, sym, refl, ◌++◌, ◌∷◌, []}
use Rattle.fast_check_tree_syntax.specs.Part.{seen}
use Rattle.fast_check_meaning_signatures.specs.Answers.{fault_at}
use Rattle.fast_check_meaning_signatures.specs.declared.fault.FaultKind.TheVariants.{UnsupportedSuperClassExpr}
use Rattle.fast_check_transform_classes.proofs.class_nodes.References.{no_superclass, reference_stays, superclass_faulty}
use Rattle.fast_check_meaning_signatures.proofs.Adding.{some_of}
use Rattle.fast_check_transform_classes.proofs.class_nodes.superclasses.transform_superclass.Goals as goal

pub returns-then-is_absent : goal.returns-then-is_absent
returns-then-is_absent c = no_superclass (seen c.args.superclass) (sym c.is_absent.ensures ∙ c.if-is_absent.true) c.args.faults.now.items

pub returns-then-is_reference : goal.returns-then-is_reference
returns-then-is_reference c =
    some_of c.to_tree.result c.to_tree.ensures (reference_stays (seen c.args.superclass) (sym c.is_absent.ensures ∙ c.if-is_absent.false)
    (sym c.is_reference.ensures ∙ c.if-is_reference.true) c.args.faults.now.items) refl

pub returns : goal.returns
returns c =
    superclass_faulty (seen c.args.superclass) (sym c.is_absent.ensures ∙ c.if-is_absent.false)
    (sym c.is_reference.ensures ∙ c.if-is_reference.false)
    (c.in_ok-push.ensures.items ∙ ap (λ r. c.args.faults.now.items ++ fault_at UnsupportedSuperClassExpr r ∷ []) c.range_of_node.ensures)
