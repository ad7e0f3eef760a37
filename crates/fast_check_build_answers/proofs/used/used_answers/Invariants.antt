use Rattle.std.proofs.Common.{◌≡◌, ◌++◌}
use Rattle.std.specs.List.{AllZip}
use Rattle.fast_check_build_answers.specs.PackageAnswer.{IsUsedAnswer}
use Rattle.fast_check_build_answers.proofs.used.used_answers.Given as goal

abbrev pub invariant-loop-specifier : goal.invariant-loop-specifier
invariant-loop-specifier l = record {
  all : l.yielded ++ l.specifier-iterator.rest.items ≡ l.fn.items.items;
  answered : AllZip IsUsedAnswer l.yielded l.answers.items;
}
