use Rattle.std.proofs.lemmas.Result.{IfOk-weaker, IfErr-weaker}
use Rattle.fast_check_program_transform.proofs.Refused.{module_refused}
use Rattle.fast_check_program_transform.proofs.command.answer_request.Goals as goal

pub returns-in-Ok-clause-answer : goal.returns-in-Ok-clause-answer
returns-in-Ok-clause-answer c =
    let made = c.in-Ok.ensures in
    IfOk-weaker c.answer_if_admitted.result _ _ (λ answer h. record {
      info = c.in-Ok.info;
      is_module = record { specifier = made.specifier; source = made.source; tables = made.tables; without_fault = made.well_formed };
      answer = h;
    }) c.answer_if_admitted.ensures.answer

pub returns-in-Ok-clause-refusal : goal.returns-in-Ok-clause-refusal
returns-in-Ok-clause-refusal c =
    let made = c.in-Ok.ensures in
    IfErr-weaker c.answer_if_admitted.result _ _
    (λ refusal h. module_refused refusal c.args.request c.in-Ok.info
    (record { specifier = made.specifier; source = made.source; tables = made.tables; without_fault = made.well_formed }) h)
    c.answer_if_admitted.ensures.refusal
