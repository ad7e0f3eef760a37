use Rattle.std.proofs.Common.{◌++◌, drop, []}
use Rattle.fast_check_meaning_signatures.specs.Answers.{answer_of}
use Rattle.fast_check_meaning_signatures.specs.Functions.{any_params_from}
use Rattle.fast_check_transform_expressions.proofs.Behind.{Behind}
use Rattle.fast_check_transform_expressions.proofs.functions.any_params.Given as goal

abbrev pub invariant-loop-place : goal.invariant-loop-place
invariant-loop-place l =
    Behind (λ ts. l.items ++ ts) (answer_of (any_params_from 0 l.param-items))
    (answer_of (any_params_from l.place (drop l.place l.param-items))) [] []
