use Rattle.std.proofs.Common.{◌≡◌, map, take}
use Rattle.fast_check_meaning_signatures.specs.Classes.{plain_param}
use Rattle.fast_check_transform_classes.proofs.class_nodes.constructors.plain_params.Given as goal

abbrev pub invariant-loop-param : goal.invariant-loop-param
invariant-loop-param l = l.items ≡ map (λ t. plain_param t) (take l.param-index l.param-items)
