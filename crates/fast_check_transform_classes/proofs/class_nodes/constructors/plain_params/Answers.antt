use Rattle.std.proofs.Common.{rules, ap, ◌∙◌}
use Rattle.fast_check_tree_syntax.specs.Part.{seen}
use Rattle.fast_check_tree_syntax.specs.Shape.{list}
use Rattle.fast_check_meaning_signatures.specs.Classes.{plain_param}
use Rattle.fast_check_transform_classes.proofs.class_nodes.Lists.{mapped_more, mapped_all}
use Rattle.fast_check_transform_classes.proofs.class_nodes.constructors.plain_params.Goals as goal

pub loop-param-preserved : goal.loop-param-preserved
loop-param-preserved c =
    mapped_more (λ t. plain_param t) c.parts-param-items.result.now c.loop-param.param-index (seen c.read.result) c.loop-param-test.true
    (search rules)
    c.loop-param.invariant c.in_ok-plain_param.ensures c.in_ok-push.ensures.ok

pub returns : goal.returns
returns c =
    c.list.ensures ∙ ap list (mapped_all (λ t. plain_param t) c.loop-param.param-index c.loop-param-test.false c.parts-param-items.ensures
    c.loop-param.invariant)
