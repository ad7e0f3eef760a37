use Rattle.std.proofs.Common.{arith, rules}
use Rattle.std.proofs.lemmas.Grind.{common_steps}
use Rattle.fast_check_tables_diagnostics.proofs.diagnostics.shown.lines.Goals as goal

pub returns-in_err-lines : goal.returns-in_err-lines
returns-in_err-lines c = search rules

pub returns-in_err-from_str : goal.returns-in_err-from_str
returns-in_err-from_str c = search rules

pub returns-in_err-push : goal.returns-in_err-push
returns-in_err-push c = search rules

pub returns : goal.returns
returns c = grind (arith, common_steps)
