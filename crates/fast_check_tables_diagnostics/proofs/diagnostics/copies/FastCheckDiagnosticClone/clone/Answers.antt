use Rattle.std.proofs.Common.{ap, sym, ◌∙◌}
use Rattle.fast_check_tables_diagnostics.specs.Subject.{shown_subject}
use Rattle.fast_check_tables_diagnostics.proofs.Copies.{answers_copy, emit_copied, names_kept, range_kept, specifier_kept}
use Rattle.fast_check_tables_diagnostics.proofs.diagnostics.copies.FastCheckDiagnosticClone.clone.Goals as goal

pub returns-in-NotFoundReference : goal.returns-in-NotFoundReference
returns-in-NotFoundReference c =
    record { cases = answers_copy c.copy_with_names.result (names_kept c.in-NotFoundReference.is) c.copy_with_names.ensures }

pub returns-in_ok-clone-in-Emit : goal.returns-in_ok-clone-in-Emit
returns-in_ok-clone-in-Emit c =
    record { cases = emit_copied _ _ _ _ c.in-Emit.is c.in_ok-clone-in-Emit.ensures.cases c.in_ok-inner-in-Emit.ensures.cases }

pub returns-in-Range : goal.returns-in-Range
returns-in-Range c =
    let subject = sym c.subject.ensures ∙ ap shown_subject c.in-Range.is in let n = c.in_default in
    let kept = range_kept _ _ n.not-NotFoundReference n.not-UnsupportedComplexReference n.not-UnsupportedExpandoProperty
    n.not-UnsupportedPrivateMemberReference subject in
    record { cases = answers_copy c.copy_with_range.result kept c.copy_with_range.ensures }

pub returns-in-Module : goal.returns-in-Module
returns-in-Module c =
    let subject = sym c.subject.ensures ∙ ap shown_subject c.in-Module.is in
    let kept = specifier_kept _ _ c.in_default.not-Emit subject in
    record { cases = answers_copy c.copy_with_specifier.result kept c.copy_with_specifier.ensures }
