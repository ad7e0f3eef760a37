use Rattle.std.proofs.Common.{rules}
use Rattle.fast_check_program_requests.proofs.input.read_bytes.Goals as goal

pub returns-in-Ok-clause-bytes : goal.returns-in-Ok-clause-bytes
returns-in-Ok-clause-bytes g c = search rules

pub returns-in-Err-clause-refusal : goal.returns-in-Err-clause-refusal
returns-in-Err-clause-refusal g c = search rules

pub returns-clause-refusal : goal.returns-clause-refusal
returns-clause-refusal g c = search rules
