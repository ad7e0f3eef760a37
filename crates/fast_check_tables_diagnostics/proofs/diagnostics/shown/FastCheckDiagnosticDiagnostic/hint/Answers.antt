use Rattle.std.proofs.Common.{rules, Some, ap, sym, ◌∙◌}
use Rattle.fast_check_tables_diagnostics.specs.Diagnostic.{report_of}
use Rattle.fast_check_tables_diagnostics.proofs.OtherKinds.{other_hints}
use Rattle.fast_check_tables_diagnostics.proofs.diagnostics.shown.FastCheckDiagnosticDiagnostic.hint.Goals as goal

pub returns-in-MissingExplicitReturnType : goal.returns-in-MissingExplicitReturnType
unfolding report_of
returns-in-MissingExplicitReturnType c = search rules

pub returns-in_ok-hint-in-UnsupportedExpandoProperty :
    goal.returns-in_ok-hint-in-UnsupportedExpandoProperty
unfolding report_of
returns-in_ok-hint-in-UnsupportedExpandoProperty c =
    ap Some c.in_ok-hint-in-UnsupportedExpandoProperty.ensures.ok ∙ sym (ap (λ d. (report_of d).hint) c.in-UnsupportedExpandoProperty.is)

pub returns-in_default : goal.returns-in_default
returns-in_default c =
    let plain =
    other_hints c.args.self.now c.in_default.not-MissingExplicitReturnType c.in_default.not-UnsupportedExpandoProperty in search rules
