use Rattle.std.specs.List.{AllZip}
use Rattle.fast_check_build_answers.specs.PackageAnswer.{IsRefused}
use Rattle.fast_check_build_answers.proofs.answer.refuse.Given as goal

abbrev pub invariant-loop-entrypoint : goal.invariant-loop-entrypoint
invariant-loop-entrypoint l = AllZip (IsRefused l.diagnostics) l.yielded l.answers.items
