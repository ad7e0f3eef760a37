use Rattle.std.proofs.Common.{rules}
use Rattle.fast_check_tables_diagnostics.proofs.diagnostics.shown.FastCheckDiagnosticDiagnostic.snippet_fixed.Goals as goal

pub returns : goal.returns
returns c = search rules
