use Rattle.std.proofs.Common.{ap, sym}
use Rattle.fast_check_tables_diagnostics.specs.Diagnostic.{report_of}
use Rattle.fast_check_tables_diagnostics.proofs.OtherKinds.{other_levels}
use Rattle.fast_check_tables_diagnostics.proofs.diagnostics.shown.FastCheckDiagnosticDiagnostic.level.Goals as goal

pub returns-in-UnsupportedJavaScriptEntrypoint : goal.returns-in-UnsupportedJavaScriptEntrypoint
unfolding report_of
returns-in-UnsupportedJavaScriptEntrypoint c = sym (ap (λ d. (report_of d).level) c.in-UnsupportedJavaScriptEntrypoint.is)

pub returns-in_default : goal.returns-in_default
returns-in_default c = other_levels c.args.self.now c.in_default.not-UnsupportedJavaScriptEntrypoint
