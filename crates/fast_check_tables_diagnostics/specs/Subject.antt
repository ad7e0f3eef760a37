-- What a diagnostic speaks of.
use Rattle.std.specs.Prelude.{Option, Some, None}
use Rattle.url.specs.Parts.{Parts}
use Rattle.fast_check_tables_diagnostics.specs.declared.diagnostics.range.FastCheckDiagnosticRange.{FastCheckDiagnosticRange}
use Rattle.fast_check_tables_diagnostics.specs.declared.diagnostics.Subject.{Subject as LentSubject}
use Rattle.fast_check_tables_diagnostics.specs.declared.diagnostics.Subject.TheVariants as lent

-- a part of a module's source text, or a module as a whole
pub data Subject : Type 0 where
  Part : (range : FastCheckDiagnosticRange) → Subject
  Whole : (specifier : Parts) → Subject

-- the part of the source text, if any
abbrev pub range_of_subject : Subject → Option FastCheckDiagnosticRange
range_of_subject (Part range) = Some range
range_of_subject (Whole _) = None

-- the module
abbrev pub specifier_of_subject : Subject → Parts
specifier_of_subject (Part range) = range.specifier
specifier_of_subject (Whole specifier) = specifier

abbrev pub shown_subject : LentSubject → Subject
shown_subject (lent.Range range) = Part range.now
shown_subject (lent.Module specifier) = Whole specifier.now
