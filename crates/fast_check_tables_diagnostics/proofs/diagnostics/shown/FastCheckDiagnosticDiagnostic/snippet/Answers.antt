use Rattle.std.proofs.Common.{rules}
use Rattle.fast_check_tables_diagnostics.proofs.diagnostics.shown.FastCheckDiagnosticDiagnostic.snippet.Goals as goal

pub returns-in_err-range : goal.returns-in_err-range
returns-in_err-range c = search rules

pub returns : goal.returns
returns c = search rules
