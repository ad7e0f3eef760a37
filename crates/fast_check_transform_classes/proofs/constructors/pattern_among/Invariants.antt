use Rattle.std.proofs.Common.{◌≡◌, drop}
use Rattle.fast_check_transform_classes.specs.Parts.{first_pattern}
use Rattle.fast_check_transform_classes.proofs.constructors.pattern_among.Given as goal

abbrev pub invariant-loop-param : goal.invariant-loop-param
invariant-loop-param l = first_pattern l.params ≡ first_pattern (drop l.param-index l.params)
