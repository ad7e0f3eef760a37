use Rattle.std.proofs.Common.{[], ◌∷◌, ap, refl}
use Rattle.fast_check_tables_diagnostics.specs.declared.diagnostics.FastCheckDiagnostic.{FastCheckDiagnostic}
use Rattle.fast_check_tables_diagnostics.specs.Diagnostic.{report_of}
use Rattle.fast_check_tables_diagnostics.specs.DiagnosticCopy.{texts_in, flags_in, with_names}
use Rattle.fast_check_tables_diagnostics.proofs.Copies.{copies_found, other_names}
use Rattle.fast_check_tables_diagnostics.proofs.diagnostics.FastCheckDiagnostic.copy_with_names.Goals as goal
use Rattle.fast_check_tables_diagnostics.proofs.diagnostics.FastCheckDiagnostic.copy_with_names.Goals.{in-NotFoundReference}
use Rattle.fast_check_tables_diagnostics.proofs.diagnostics.FastCheckDiagnostic.copy_with_names.Goals.{in-UnsupportedComplexReference}
use Rattle.fast_check_tables_diagnostics.proofs.diagnostics.FastCheckDiagnostic.copy_with_names.Goals.{in-UnsupportedPrivateMemberReference}
use Rattle.fast_check_tables_diagnostics.proofs.diagnostics.FastCheckDiagnostic.copy_with_names.Goals.{in_default}

-- the diagnostic of a kind that holds the place and the names
abbrev wanted : goal.Joined-self → FastCheckDiagnostic → FastCheckDiagnostic
wanted c d = with_names d c.args.range.now c.args.first.now c.args.second.now

pub returns : goal.returns
unfolding report_of texts_in flags_in with_names
returns c =
    let copied = c.in_ok-range.ensures in elim c.match-self.branch [
      | in-NotFoundReference w ↦ copies_found (ap (wanted c) w.in-NotFoundReference.is) w.result-is
          (refl, copied.0, (λ i. copied.1 i ∷ copied.2 i ∷ []), refl)
      | in-UnsupportedComplexReference w ↦ copies_found (ap (wanted c) w.in-UnsupportedComplexReference.is) w.result-is
          (refl, copied.0, (λ i. copied.1 i ∷ copied.2 i ∷ []), refl)
      | in-UnsupportedPrivateMemberReference w ↦ copies_found (ap (wanted c) w.in-UnsupportedPrivateMemberReference.is) w.result-is
          (refl, copied.0, (λ i. copied.1 i ∷ copied.2 i ∷ []), refl)
      | in_default w ↦
          let n = w.in_default in
          let last = other_names c.args.self.now c.args.range.now c.args.first.now c.args.second.now n.not-NotFoundReference
          n.not-UnsupportedComplexReference n.not-UnsupportedPrivateMemberReference in
          copies_found last w.result-is (refl, copied.0, (λ i. copied.1 i ∷ copied.2 i ∷ []), refl)
    ]
