use Rattle.std.proofs.Common.{rules}
use Rattle.fast_check_program_requests.proofs.refusal.Refusal.write_line.Goals as goal

pub returns : goal.returns
returns g c = search rules
