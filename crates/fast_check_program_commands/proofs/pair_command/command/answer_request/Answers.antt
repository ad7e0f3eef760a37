use Rattle.std.proofs.lemmas.Result.{IfOk-weaker, IfErr-weaker}
use Rattle.fast_check_program_commands.proofs.pair_command.Refused.{second_refused}
use Rattle.fast_check_program_commands.proofs.pair_command.command.answer_request.Goals as goal

pub returns-in-Ok-clause-answer : goal.returns-in-Ok-clause-answer
returns-in-Ok-clause-answer c =
    IfOk-weaker c.answer_second.result _ _ (λ answer h. record {
      a = c.in-Ok.info;
      b = h.0;
      are_modules = record { first = c.in-Ok.ensures.made; second = h.1 };
      answer = h.2;
    }) c.answer_second.ensures.answer

pub returns-in-Ok-clause-refusal : goal.returns-in-Ok-clause-refusal
returns-in-Ok-clause-refusal c =
    IfErr-weaker c.answer_second.result _ _
    (λ refusal h. second_refused refusal c.args.request c.in-Ok.info c.in-Ok.ensures.made h) c.answer_second.ensures.refusal
