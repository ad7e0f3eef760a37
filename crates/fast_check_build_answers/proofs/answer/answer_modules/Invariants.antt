use Rattle.std.proofs.Common.{◌≡◌, true, [], ◌++◌}
use Rattle.std.specs.List.{AllZip}
use Rattle.fast_check_build_answers.specs.PackageFaults.{Diagnoses, package_faults, sound_front}
use Rattle.fast_check_build_answers.specs.PackageAnswer.{ShowsMore, tree_modules}
use Rattle.fast_check_build_answers.proofs.answer.answer_modules.Given as goal

abbrev pub invariant-loop-specifier : goal.invariant-loop-specifier
invariant-loop-specifier l = record {
  all : l.yielded ++ l.specifier-iterator ≡ l.fn.module_ranges.entries;
  faults : AllZip Diagnoses
      (package_faults l.input.options.now.should_error_on_first_diagnostic l.input.graph.now l.input.root_symbol.now l.yielded)
      l.diagnostics.items;
  shown : ShowsMore l.input.graph.now
      (tree_modules l.input.root_symbol.now
      (sound_front l.input.options.now.should_error_on_first_diagnostic l.input.graph.now l.input.root_symbol.now l.yielded))
      l.initial.answers.items l.answers.items;
  goes_on : l.input.options.now.should_error_on_first_diagnostic ≡ true → l.diagnostics.items ≡ [];
}
