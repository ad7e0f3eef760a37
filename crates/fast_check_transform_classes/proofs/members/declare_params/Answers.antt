use Rattle.std.proofs.Common.{rules, ◌∙◌, sym, append-nil}
use Rattle.fast_check_tree_syntax.specs.Part.{seen}
use Rattle.fast_check_meaning_signatures.specs.Classes.{is_param_property, param_property}
use Rattle.fast_check_transform_classes.proofs.MembersKept.{taken_more, passed_more, taken_all}
use Rattle.fast_check_transform_classes.proofs.members.declare_params.Goals as goal

pub loop-param-init : goal.loop-param-init
loop-param-init c = sym (append-nil c.args.items.now)

pub loop-param-preserved : goal.loop-param-preserved
loop-param-preserved c =
    taken_more (λ p. param_property c.args.unresolved p) (λ p. is_param_property p) c.args.params.now c.loop-param.param-index
    (seen c.read-param.result)
    c.loop-param-test.true (search rules)
    (sym c.is_param_property.ensures ∙ c.if-not-is_param_property.false) c.args.items.now c.loop-param.invariant
    c.in_ok-param_property.ensures c.in_ok-push.ensures.ok

pub loop-param-preserved-then-not-is_param_property : goal.loop-param-preserved-then-not-is_param_property
loop-param-preserved-then-not-is_param_property c =
    passed_more (λ p. param_property c.args.unresolved p) (λ p. is_param_property p) c.args.params.now c.loop-param.param-index
    (seen c.read-param.result)
    c.loop-param-test.true (search rules)
    (sym c.is_param_property.ensures ∙ c.if-not-is_param_property.true) c.args.items.now c.loop-param.invariant

pub returns : goal.returns
returns c =
    taken_all (λ p. param_property c.args.unresolved p)
    (λ p. is_param_property p) c.args.params.now c.loop-param.param-index c.loop-param-test.false
    c.args.items.now c.loop-param.invariant
