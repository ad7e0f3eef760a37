use Rattle.std.proofs.lemmas.Result.{err_from_is_err_and}
use Rattle.fast_check_program_commands.proofs.build_command.request.answer_request.Goals as goal

pub returns-in_err-answers-clause-refusal : goal.returns-in_err-answers-clause-refusal
returns-in_err-answers-clause-refusal c =
    let p = err_from_is_err_and c.from_residual.result c.from_residual.ensures.1 in
    rw (p.1, p.2) c.in_err-answers.ensures.refusal

pub returns-clause-answer : goal.returns-clause-answer
returns-clause-answer c = record {
  answers = c.in_ok-answers.answers.items;
  answered = c.in_ok-answers.ensures.built;
  is_line = c.in_ok-answer_of.ensures;
}
