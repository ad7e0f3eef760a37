use Rattle.std.proofs.Common.{◌≡◌, ◌++◌}
use Rattle.fast_check_build_answers.specs.Answered.{AreAnswered}
use Rattle.fast_check_build_answers.proofs.packages.answer_all.Given as goal

abbrev pub invariant-loop-package_ranges : goal.invariant-loop-package_ranges
invariant-loop-package_ranges l = record {
  all : l.yielded ++ l.package_ranges-iterator ≡ l.fn.ranges.entries;
  answered : AreAnswered l.input.graph.now l.input.root_symbol.now l.input.options.now.should_error_on_first_diagnostic l.yielded
      l.answers.items;
}
