use Rattle.std.proofs.Common.{◌≡◌, map, take}
use Rattle.fast_check_build_answers.specs.Kept.{entry_of, kept_diagnostic}
use Rattle.fast_check_build_answers.specs.KeptAnswers.{named_in}
use Rattle.fast_check_build_answers.proofs.kept.keep_faulty.Given as goal

abbrev pub invariant-loop-specifier : goal.invariant-loop-specifier
invariant-loop-specifier l = map entry_of l.kept.items ≡ map (kept_diagnostic l.graph) (map (λ a. a.0) (take l.specifier-index l.answers))

abbrev pub invariant-loop-diagnostic : goal.invariant-loop-diagnostic
invariant-loop-diagnostic l = map entry_of l.kept.items ≡ map (kept_diagnostic l.graph)
    (named_in l.answers (take l.diagnostic-index l.diagnostics))
