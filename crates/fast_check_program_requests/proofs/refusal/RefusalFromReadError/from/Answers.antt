use Rattle.std.proofs.Common.{rules}
use Rattle.fast_check_program_requests.proofs.refusal.RefusalFromReadError.from.Goals as goal

pub returns-in-BadForm : goal.returns-in-BadForm
returns-in-BadForm c = search rules

pub returns-in-OutOfMemory : goal.returns-in-OutOfMemory
returns-in-OutOfMemory c = search rules
