use Rattle.std.proofs.Common.{rules}
use Rattle.std.proofs.lemmas.Result.{err_from_is_err_and, IfOk-weaker, IfErr-weaker}
use Rattle.fast_check_program_transform.proofs.Refused.{refused, request_refused, of_bytes, answer_status}
use Rattle.fast_check_program_transform.proofs.command.answer_transform.Goals as goal

pub returns-in_err-read_request-clause-answer : goal.returns-in_err-read_request-clause-answer
returns-in_err-read_request-clause-answer c = search rules

pub returns-in_err-read_request-clause-status : goal.returns-in_err-read_request-clause-status
returns-in_err-read_request-clause-status c = search rules

pub returns-in_err-read_request-clause-refusal : goal.returns-in_err-read_request-clause-refusal
returns-in_err-read_request-clause-refusal c =
    let p = err_from_is_err_and c.from_residual.result c.from_residual.ensures.1 in
    rw (p.1, p.2) (refused _ _ c.in_err-read_request.ensures.refusal)

pub returns-in_err-read_request-clause-of_bytes : goal.returns-in_err-read_request-clause-of_bytes
returns-in_err-read_request-clause-of_bytes c =
    let p = err_from_is_err_and c.from_residual.result c.from_residual.ensures.1 in
    rw (p.1, p.2) (of_bytes _ _ (refused _ _ c.in_err-read_request.ensures.refusal))

pub returns-clause-answer : goal.returns-clause-answer
returns-clause-answer c =
    IfOk-weaker c.answer_request.result _ _ (λ answer h. (c.in_ok-read_request.field-0, c.in_ok-read_request.ensures.request, h))
    c.answer_request.ensures.answer

pub returns-clause-status : goal.returns-clause-status
returns-clause-status c =
    IfOk-weaker c.answer_request.result _ _ (λ answer h. answer_status c.in_ok-read_request.field-0 answer.line.items answer.status h)
    c.answer_request.ensures.answer

pub returns-clause-refusal : goal.returns-clause-refusal
returns-clause-refusal c =
    IfErr-weaker c.answer_request.result _ _
    (λ refusal h. request_refused refusal c.args.bytes.items c.in_ok-read_request.field-0 c.in_ok-read_request.ensures.request h)
    c.answer_request.ensures.refusal

pub returns-clause-of_bytes : goal.returns-clause-of_bytes
returns-clause-of_bytes c =
    IfErr-weaker c.answer_request.result _ _
    (λ refusal h. of_bytes refusal c.args.bytes.items
    (request_refused refusal c.args.bytes.items c.in_ok-read_request.field-0 c.in_ok-read_request.ensures.request h))
    c.answer_request.ensures.refusal
