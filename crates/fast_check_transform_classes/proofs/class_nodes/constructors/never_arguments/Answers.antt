use Rattle.std.proofs.Common.{rules, ap, ◌∙◌}
use Rattle.fast_check_tree_syntax.specs.Part.{seen}
use Rattle.fast_check_tree_syntax.specs.Shape.{list}
use Rattle.fast_check_meaning_signatures.specs.Classes.{never_argument}
use Rattle.fast_check_transform_classes.proofs.class_nodes.Lists.{mapped_more, mapped_all}
use Rattle.fast_check_transform_classes.proofs.class_nodes.constructors.never_arguments.Goals as goal

pub loop-arg-preserved : goal.loop-arg-preserved
loop-arg-preserved c =
    mapped_more (λ t. never_argument t) c.parts-arg-items.result.now c.loop-arg.arg-index (seen c.read.result) c.loop-arg-test.true
    (search rules)
    c.loop-arg.invariant c.in_ok-never_argument.ensures c.in_ok-push.ensures.ok

pub returns : goal.returns
returns c =
    c.list.ensures ∙
    ap list (mapped_all
    (λ t. never_argument t) c.loop-arg.arg-index c.loop-arg-test.false c.parts-arg-items.ensures c.loop-arg.invariant)
