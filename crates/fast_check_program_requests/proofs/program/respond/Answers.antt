use Rattle.std.proofs.Common.{rules, ◌≡◌, Some, map, option_map, string_bytes}
use Rattle.std.proofs.lemmas.Result.{err_from_is_err_and}
use Rattle.fast_check_program_requests.specs.Call.{called}
use Rattle.fast_check_program_requests.proofs.Calls.{read_refused}
use Rattle.fast_check_program_requests.proofs.program.respond.Goals as goal

pub returns-in_err-read_bytes-in-Some-clause-refusal : goal.returns-in_err-read_bytes-in-Some-clause-refusal
returns-in_err-read_bytes-in-Some-clause-refusal g c =
    let command = c.in-Some.command in
    let is : called g.C.Command.named (map string_bytes c.args.words.now) ≡ Some command = search rules in
    let p = err_from_is_err_and c.from_residual.result c.from_residual.ensures.1 in
    rw (p.1, p.2)
    (read_refused g.C.Command.named g.C.Command.Refuses (map string_bytes c.args.words.now) (option_map g.R.Read.remaining c.args.input)
    command _ is c.in_err-read_bytes-in-Some.ensures.refusal)
