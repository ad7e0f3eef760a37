use Rattle.std.proofs.Common.{◌≡◌, map, take}
use Rattle.fast_check_build_answers.specs.Kept.{entry_of}
use Rattle.fast_check_build_answers.specs.KeptAnswers.{kept_answer}
use Rattle.fast_check_build_answers.proofs.kept.keep_answers.Given as goal

abbrev pub invariant-loop-answer : goal.invariant-loop-answer
invariant-loop-answer l = map entry_of l.kept.items ≡ map (kept_answer l.graph) (take l.answer-index l.answers)
