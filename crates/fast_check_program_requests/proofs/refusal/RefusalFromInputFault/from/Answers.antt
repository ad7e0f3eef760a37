use Rattle.std.proofs.Common.{rules}
use Rattle.fast_check_program_requests.proofs.refusal.RefusalFromInputFault.from.Goals as goal

pub returns-in-NotJson : goal.returns-in-NotJson
returns-in-NotJson c = search rules

pub returns-in-OutOfMemory : goal.returns-in-OutOfMemory
returns-in-OutOfMemory c = search rules
