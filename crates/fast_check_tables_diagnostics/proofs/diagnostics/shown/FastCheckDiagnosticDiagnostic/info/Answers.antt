use Rattle.std.proofs.Common.{rules}
use Rattle.fast_check_tables_diagnostics.specs.Diagnostic.{report_of}
use Rattle.fast_check_tables_diagnostics.proofs.OtherKinds.{other_info}
use Rattle.fast_check_tables_diagnostics.proofs.diagnostics.shown.FastCheckDiagnosticDiagnostic.info.Goals as goal

pub returns-in-MissingExplicitReturnType : goal.returns-in-MissingExplicitReturnType
unfolding report_of
returns-in-MissingExplicitReturnType c = search rules

pub returns-in_default : goal.returns-in_default
returns-in_default c = let plain = other_info c.args.self.now c.in_default.not-MissingExplicitReturnType in search rules
