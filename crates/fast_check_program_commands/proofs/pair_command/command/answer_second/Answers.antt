use Rattle.std.proofs.lemmas.Result.{IfOk-weaker, IfErr-weaker}
use Rattle.fast_check_program_commands.proofs.pair_command.Refused.{modules_refused}
use Rattle.fast_check_program_commands.proofs.pair_command.command.answer_second.Goals as goal

pub returns-in-Ok-clause-answer : goal.returns-in-Ok-clause-answer
returns-in-Ok-clause-answer c =
    IfOk-weaker c.answer_if_admitted.result _ _ (λ answer h. (c.in-Ok.info, c.in-Ok.ensures.made, h)) c.answer_if_admitted.ensures.answer

pub returns-in-Ok-clause-refusal : goal.returns-in-Ok-clause-refusal
returns-in-Ok-clause-refusal c =
    IfErr-weaker c.answer_if_admitted.result _ _
    (λ refusal h. modules_refused refusal c.args.a.info.now c.in-Ok.info c.args.a.ranges.now c.args.b c.in-Ok.ensures.made h)
    c.answer_if_admitted.ensures.refusal
