use Rattle.std.proofs.Common.{rules}
use Rattle.fast_check_program_requests.proofs.refusal.Refusal.line.Goals as goal

pub returns-in-Usage : goal.returns-in-Usage
returns-in-Usage c = search rules

pub returns-in-Unreadable : goal.returns-in-Unreadable
returns-in-Unreadable c = search rules

pub returns-in-NotJson : goal.returns-in-NotJson
returns-in-NotJson c = search rules

pub returns-in-BadForm : goal.returns-in-BadForm
returns-in-BadForm c = search rules

pub returns-in-InvalidExport : goal.returns-in-InvalidExport
returns-in-InvalidExport c = search rules

pub returns-in-Unwritable : goal.returns-in-Unwritable
returns-in-Unwritable c = search rules

pub returns-in-OutOfMemory : goal.returns-in-OutOfMemory
returns-in-OutOfMemory c = search rules
