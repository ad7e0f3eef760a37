use Rattle.std.proofs.Common.{◌≡◌, map, take}
use Rattle.fast_check_meaning_signatures.specs.Classes.{never_argument}
use Rattle.fast_check_transform_classes.proofs.class_nodes.constructors.never_arguments.Given as goal

abbrev pub invariant-loop-arg : goal.invariant-loop-arg
invariant-loop-arg l = l.items ≡ map (λ t. never_argument t) (take l.arg-index l.arg-items)
