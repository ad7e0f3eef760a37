use Rattle.std.proofs.Common.{rules}
use Rattle.fast_check_tables_diagnostics.proofs.diagnostics.shown.FastCheckDiagnosticDiagnostic.docs_url.Goals as goal

pub returns-in_err-format : goal.returns-in_err-format
returns-in_err-format c = search rules

pub returns : goal.returns
returns c = search rules
