use Rattle.std.proofs.Common.{ap, sym, subst, ◌∙◌}
use Rattle.std.specs.Fmt.{HasWritten}
use Rattle.fast_check_tables_diagnostics.specs.Diagnostic.{report_of}
use Rattle.fast_check_tables_diagnostics.proofs.OtherKinds.{other_messages}
use Rattle.fast_check_tables_diagnostics.proofs.diagnostics.FastCheckDiagnosticDisplay.fmt.Goals as goal

pub returns-in-NotFoundReference-clause-writes : goal.returns-in-NotFoundReference-clause-writes
unfolding report_of
returns-in-NotFoundReference-clause-writes g c = λ plain ok.
    subst (λ text. HasWritten g.W.Write.write_str_gives c.args.f.now text c.write.new.self)
    (sym (ap (λ d. (report_of d).message) c.in-NotFoundReference.is)) (c.write.ensures.writes plain ok)

pub returns-in-UnsupportedComplexReference-clause-writes :
    goal.returns-in-UnsupportedComplexReference-clause-writes
unfolding report_of
returns-in-UnsupportedComplexReference-clause-writes g c = λ plain ok.
    subst (λ text. HasWritten g.W.Write.write_str_gives c.args.f.now text c.write-in-UnsupportedComplexReference.new.self)
    (sym (ap (λ d. (report_of d).message) c.in-UnsupportedComplexReference.is)) (c.write-in-UnsupportedComplexReference.ensures.writes plain ok)

pub returns-in-UnsupportedExpandoProperty-clause-writes :
    goal.returns-in-UnsupportedExpandoProperty-clause-writes
unfolding report_of
returns-in-UnsupportedExpandoProperty-clause-writes g c = λ plain ok.
    subst (λ text. HasWritten g.W.Write.write_str_gives c.args.f.now text c.write-in-UnsupportedExpandoProperty.new.self)
    (sym (ap (λ d. (report_of d).message) c.in-UnsupportedExpandoProperty.is)) (c.write-in-UnsupportedExpandoProperty.ensures.writes plain ok)

pub returns-in-UnsupportedPrivateMemberReference-clause-writes :
    goal.returns-in-UnsupportedPrivateMemberReference-clause-writes
unfolding report_of
returns-in-UnsupportedPrivateMemberReference-clause-writes g c = λ plain ok.
    subst (λ text. HasWritten g.W.Write.write_str_gives c.args.f.now text c.write-in-UnsupportedPrivateMemberReference.new.self)
    (sym (ap (λ d. (report_of d).message) c.in-UnsupportedPrivateMemberReference.is)) (c.write-in-UnsupportedPrivateMemberReference.ensures.writes plain ok)

pub returns-in-Emit-clause-writes : goal.returns-in-Emit-clause-writes
unfolding report_of
returns-in-Emit-clause-writes g c = λ plain ok.
    subst (λ text. HasWritten g.W.Write.write_str_gives c.args.f.now text c.write-in-Emit.new.self)
    (sym (ap (λ d. (report_of d).message) c.in-Emit.is)) (c.write-in-Emit.ensures.writes plain ok)

pub returns-in-ExportNotFound-clause-writes : goal.returns-in-ExportNotFound-clause-writes
unfolding report_of
returns-in-ExportNotFound-clause-writes g c = λ plain ok.
    subst (λ text. HasWritten g.W.Write.write_str_gives c.args.f.now text c.write-in-ExportNotFound.new.self)
    (sym (ap (λ d. (report_of d).message) c.in-ExportNotFound.is)) (c.write-in-ExportNotFound.ensures.writes plain ok)

pub returns-in_default-clause-writes : goal.returns-in_default-clause-writes
returns-in_default-clause-writes g c = λ plain ok.
    let plain_message = other_messages c.args.self.now c.in_default.not-NotFoundReference c.in_default.not-UnsupportedComplexReference
    c.in_default.not-UnsupportedExpandoProperty c.in_default.not-UnsupportedPrivateMemberReference c.in_default.not-Emit
    c.in_default.not-ExportNotFound in
    subst (λ text. HasWritten g.W.Write.write_str_gives c.args.f.now text c.write_str.new.self)
    (ap (λ texts. texts.message) c.texts.ensures ∙ plain_message) (c.write_str.ensures.writes plain ok)
