use Rattle.std.proofs.Common.{◌≡◌, ◌++◌, take}
use Rattle.fast_check_transform_classes.specs.Parts.{declared_params}
use Rattle.fast_check_transform_classes.proofs.members.declare_params.Given as goal

abbrev pub invariant-loop-param : goal.invariant-loop-param
invariant-loop-param l = l.items ≡ l.initial.items ++ declared_params l.unresolved (take l.param-index l.params)
