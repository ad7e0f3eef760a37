use Rattle.std.proofs.Common.{◌≡◌, ◌++◌}
use Rattle.fast_check_build_answers.specs.Once.{AreAnsweredOnce}
use Rattle.fast_check_build_answers.proofs.once.answer_all_once.Given as goal

abbrev pub invariant-loop-package_ranges : goal.invariant-loop-package_ranges
invariant-loop-package_ranges l = record {
  all : l.yielded ++ l.package_ranges-iterator ≡ l.fn.ranges.entries;
  answered : AreAnsweredOnce l.input.graph.now l.input.root_symbol.now l.input.options.now.should_error_on_first_diagnostic l.yielded
      l.answers.items;
}
