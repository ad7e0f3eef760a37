use Rattle.std.proofs.Common.{◌≡◌, map, take}
use Rattle.std.specs.List.{filter}
use Rattle.fast_check_meaning_signatures.specs.Classes.{super_call, is_super_call}
use Rattle.fast_check_transform_classes.proofs.class_nodes.constructors.super_calls.Given as goal

abbrev pub invariant-loop-stmt : goal.invariant-loop-stmt
invariant-loop-stmt l = l.items ≡ map (λ s. super_call s) (filter (λ s. is_super_call s) (take l.stmt-index l.stmt-items))
