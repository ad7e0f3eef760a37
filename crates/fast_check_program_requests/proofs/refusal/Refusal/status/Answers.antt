use Rattle.std.proofs.Common.{rules}
use Rattle.fast_check_program_requests.proofs.refusal.Refusal.status.Goals as goal

pub returns-in-OutOfMemory : goal.returns-in-OutOfMemory
returns-in-OutOfMemory c = search rules

pub returns-in_default : goal.returns-in_default
returns-in_default c = search rules

pub returns-in-Unwritable : goal.returns-in-Unwritable
returns-in-Unwritable c = search rules
