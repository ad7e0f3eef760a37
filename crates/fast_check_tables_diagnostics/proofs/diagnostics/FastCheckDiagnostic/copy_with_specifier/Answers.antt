use Rattle.std.proofs.Common.{ap, refl}
use Rattle.fast_check_tables_diagnostics.specs.declared.diagnostics.FastCheckDiagnostic.{FastCheckDiagnostic}
use Rattle.fast_check_tables_diagnostics.specs.Diagnostic.{report_of}
use Rattle.fast_check_tables_diagnostics.specs.DiagnosticCopy.{texts_in, flags_in, with_specifier}
use Rattle.fast_check_tables_diagnostics.proofs.Copies.{copies_found, other_specifiers}
use Rattle.fast_check_tables_diagnostics.proofs.diagnostics.FastCheckDiagnostic.copy_with_specifier.Goals as goal
use Rattle.fast_check_tables_diagnostics.proofs.diagnostics.FastCheckDiagnostic.copy_with_specifier.Goals.{in-UnsupportedNestedJavaScript}
use Rattle.fast_check_tables_diagnostics.proofs.diagnostics.FastCheckDiagnostic.copy_with_specifier.Goals.{in-UnsupportedJavaScriptEntrypoint}
use Rattle.fast_check_tables_diagnostics.proofs.diagnostics.FastCheckDiagnostic.copy_with_specifier.Goals.{in-ExportNotFound, in_default}

-- the diagnostic of the module
abbrev wanted : goal.Joined-self → FastCheckDiagnostic → FastCheckDiagnostic
wanted c d = with_specifier d c.args.specifier.now

pub returns : goal.returns
unfolding report_of texts_in flags_in with_specifier
returns c =
    let copied = c.in_ok-specifier.ensures.cases in elim c.match-self.branch [
      | in-UnsupportedNestedJavaScript w ↦ copies_found (ap (wanted c) w.in-UnsupportedNestedJavaScript.is) w.result-is (refl, copied, refl, refl)
      | in-UnsupportedJavaScriptEntrypoint w ↦ copies_found (ap (wanted c) w.in-UnsupportedJavaScriptEntrypoint.is) w.result-is (refl, copied, refl, refl)
      | in-ExportNotFound w ↦ copies_found (ap (wanted c) w.in-ExportNotFound.is) w.result-is (refl, copied, refl, refl)
      | in_default w ↦
          let n = w.in_default in
          let last =
          other_specifiers c.args.self.now c.args.specifier.now n.not-UnsupportedNestedJavaScript n.not-UnsupportedJavaScriptEntrypoint
          n.not-ExportNotFound in
          copies_found last w.result-is (refl, copied, refl, refl)
    ]
