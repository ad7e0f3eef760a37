use Rattle.std.proofs.Common.{rules}
use Rattle.fast_check_program_requests.proofs.refusal.RefusalFromAllocError.from.Goals as goal

pub returns : goal.returns
returns c = search rules
