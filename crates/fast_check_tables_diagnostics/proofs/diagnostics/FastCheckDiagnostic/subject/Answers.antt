use Rattle.std.proofs.Common.{rules}
use Rattle.fast_check_tables_diagnostics.specs.Diagnostic.{report_of}
use Rattle.fast_check_tables_diagnostics.proofs.diagnostics.FastCheckDiagnostic.subject.Goals as goal

pub returns-in-UnsupportedNestedJavaScript : goal.returns-in-UnsupportedNestedJavaScript
unfolding report_of
returns-in-UnsupportedNestedJavaScript c = search rules

pub returns-in-NotFoundReference : goal.returns-in-NotFoundReference
unfolding report_of
returns-in-NotFoundReference c = search rules
