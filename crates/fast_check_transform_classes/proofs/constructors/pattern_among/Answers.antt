use Rattle.std.proofs.Common.{rules, ap, ◌∙◌, sym, refl}
use Rattle.fast_check_tree_syntax.specs.Part.{seen}
use Rattle.fast_check_tree_helpers.specs.ranges.Ranges.{range_of_node}
use Rattle.fast_check_transform_classes.proofs.Constructed.{pattern_here, pattern_later, no_pattern}
use Rattle.fast_check_transform_classes.proofs.constructors.pattern_among.Goals as goal

pub loop-param-init : goal.loop-param-init
loop-param-init c = refl

pub returns-then-is_pattern_property : goal.returns-then-is_pattern_property
returns-then-is_pattern_property c =
    pattern_here c.args.params.now c.loop-param.param-index (seen c.read-param.result) c.loop-param-test.true
    (search rules) c.loop-param.invariant
    (sym c.is_pattern_property.ensures ∙ c.if-is_pattern_property.true) (c.range_of_node.ensures ∙ ap range_of_node c.param_target.ensures)

pub loop-param-preserved : goal.loop-param-preserved
loop-param-preserved c =
    pattern_later c.args.params.now c.loop-param.param-index (seen c.read-param.result) c.loop-param-test.true
    (search rules) c.loop-param.invariant
    (sym c.is_pattern_property.ensures ∙ c.if-is_pattern_property.false)

pub returns : goal.returns
returns c = no_pattern c.args.params.now c.loop-param.param-index c.loop-param-test.false c.loop-param.invariant
