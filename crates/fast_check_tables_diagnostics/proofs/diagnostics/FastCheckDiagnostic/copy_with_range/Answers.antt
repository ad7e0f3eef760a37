use Rattle.std.proofs.Common.{ap, refl}
use Rattle.fast_check_tables_diagnostics.specs.declared.diagnostics.FastCheckDiagnostic.{FastCheckDiagnostic}
use Rattle.fast_check_tables_diagnostics.specs.Diagnostic.{report_of}
use Rattle.fast_check_tables_diagnostics.specs.DiagnosticCopy.{texts_in, flags_in, with_range}
use Rattle.fast_check_tables_diagnostics.proofs.Copies.{copies_found, other_ranges}
use Rattle.fast_check_tables_diagnostics.proofs.diagnostics.FastCheckDiagnostic.copy_with_range.Goals as goal
use Rattle.fast_check_tables_diagnostics.proofs.diagnostics.FastCheckDiagnostic.copy_with_range.Goals.{in-MissingExplicitType}
use Rattle.fast_check_tables_diagnostics.proofs.diagnostics.FastCheckDiagnostic.copy_with_range.Goals.{in-MissingExplicitReturnType}
use Rattle.fast_check_tables_diagnostics.proofs.diagnostics.FastCheckDiagnostic.copy_with_range.Goals.{in-UnsupportedAmbientModule}
use Rattle.fast_check_tables_diagnostics.proofs.diagnostics.FastCheckDiagnostic.copy_with_range.Goals.{in-UnsupportedDefaultExportExpr}
use Rattle.fast_check_tables_diagnostics.proofs.diagnostics.FastCheckDiagnostic.copy_with_range.Goals.{in-UnsupportedDestructuring}
use Rattle.fast_check_tables_diagnostics.proofs.diagnostics.FastCheckDiagnostic.copy_with_range.Goals.{in-UnsupportedGlobalModule}
use Rattle.fast_check_tables_diagnostics.proofs.diagnostics.FastCheckDiagnostic.copy_with_range.Goals.{in-UnsupportedRequire}
use Rattle.fast_check_tables_diagnostics.proofs.diagnostics.FastCheckDiagnostic.copy_with_range.Goals.{in-UnsupportedSuperClassExpr}
use Rattle.fast_check_tables_diagnostics.proofs.diagnostics.FastCheckDiagnostic.copy_with_range.Goals.{in-UnsupportedTsExportAssignment}
use Rattle.fast_check_tables_diagnostics.proofs.diagnostics.FastCheckDiagnostic.copy_with_range.Goals.{in-UnsupportedTsNamespaceExport, in_default}

-- the diagnostic at the place
abbrev wanted : goal.Joined-self → FastCheckDiagnostic → FastCheckDiagnostic
wanted c d = with_range d c.args.range.now

pub returns : goal.returns
unfolding report_of texts_in flags_in with_range
returns c =
    let copied = c.in_ok-range.ensures.cases in elim c.match-self.branch [
      | in-MissingExplicitType w ↦ copies_found (ap (wanted c) w.in-MissingExplicitType.is) w.result-is (refl, copied, refl, refl)
      | in-MissingExplicitReturnType w ↦ copies_found (ap (wanted c) w.in-MissingExplicitReturnType.is) w.result-is (refl, copied, refl, refl)
      | in-UnsupportedAmbientModule w ↦ copies_found (ap (wanted c) w.in-UnsupportedAmbientModule.is) w.result-is (refl, copied, refl, refl)
      | in-UnsupportedDefaultExportExpr w ↦ copies_found (ap (wanted c) w.in-UnsupportedDefaultExportExpr.is) w.result-is (refl, copied, refl, refl)
      | in-UnsupportedDestructuring w ↦ copies_found (ap (wanted c) w.in-UnsupportedDestructuring.is) w.result-is (refl, copied, refl, refl)
      | in-UnsupportedGlobalModule w ↦ copies_found (ap (wanted c) w.in-UnsupportedGlobalModule.is) w.result-is (refl, copied, refl, refl)
      | in-UnsupportedRequire w ↦ copies_found (ap (wanted c) w.in-UnsupportedRequire.is) w.result-is (refl, copied, refl, refl)
      | in-UnsupportedSuperClassExpr w ↦ copies_found (ap (wanted c) w.in-UnsupportedSuperClassExpr.is) w.result-is (refl, copied, refl, refl)
      | in-UnsupportedTsExportAssignment w ↦ copies_found (ap (wanted c) w.in-UnsupportedTsExportAssignment.is) w.result-is (refl, copied, refl, refl)
      | in-UnsupportedTsNamespaceExport w ↦ copies_found (ap (wanted c) w.in-UnsupportedTsNamespaceExport.is) w.result-is (refl, copied, refl, refl)
      | in_default w ↦
          let n = w.in_default in
          let last = other_ranges c.args.self.now c.args.range.now n.not-MissingExplicitType n.not-MissingExplicitReturnType
          n.not-UnsupportedAmbientModule n.not-UnsupportedDefaultExportExpr n.not-UnsupportedDestructuring n.not-UnsupportedGlobalModule
          n.not-UnsupportedRequire n.not-UnsupportedSuperClassExpr n.not-UnsupportedTsExportAssignment n.not-UnsupportedTsNamespaceExport in
          copies_found last w.result-is (refl, copied, refl, refl)
    ]
