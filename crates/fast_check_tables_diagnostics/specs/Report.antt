-- What is reported of a diagnostic, and how a reader gets it.
use Rattle.std.specs.Prelude.{ℕ, List, ◌++◌, Option, Some, None, option_map, codes}
use Rattle.std.specs.Rc.{rc_str_bytes}
use Rattle.url.specs.Parts.{Parts}
use Rattle.fast_check_tables_diagnostics.specs.declared.diagnostics.range.FastCheckDiagnosticRange.{FastCheckDiagnosticRange}
use Rattle.fast_check_tables_diagnostics.specs.declared.diagnostics.view.DiagnosticLevel.{DiagnosticLevel}
use Rattle.fast_check_tables_diagnostics.specs.DiagnosticView.{DiagnosticView, Snippet, Location, AtPosition, AtModule}
use Rattle.fast_check_tables_diagnostics.specs.Subject.{Subject, specifier_of_subject, range_of_subject}

pub record Report : Type 0 where
  pub subject : Subject
  pub level : DiagnosticLevel
  -- the name of its kind, in lower case with hyphens
  pub code : List ℕ
  -- what is wrong
  pub message : List ℕ
  -- what the range is to the reader
  pub range_description : Option (List ℕ)
  -- what can be done about it
  pub hint : Option (List ℕ)
  -- lines that say more
  pub info : List (List ℕ)

abbrev pub row : Subject → DiagnosticLevel → List ℕ → List ℕ → Option (List ℕ) → Option (List ℕ) → List (List ℕ) →
    Report
row subject level code message range_description hint info = record {
  subject = subject;
  level = level;
  code = code;
  message = message;
  range_description = range_description;
  hint = hint;
  info = info;
}

-- it stands at the start of its range, or at its module where it has none
abbrev pub location_at : Parts → Option FastCheckDiagnosticRange → Location
location_at specifier (Some range) = AtPosition specifier (rc_str_bytes range.text_info) range.range.start.0
location_at specifier None = AtModule specifier

-- its range is shown in the source text, with the description
abbrev pub snippet_at : Option (List ℕ) → FastCheckDiagnosticRange → Snippet
snippet_at description range =
    record { text = rc_str_bytes range.text_info; range = range.range; description = description }

-- no mended source text is offered; the page that explains a kind stands under its name
abbrev pub view_at : Report → DiagnosticView
view_at r = record {
  level = r.level;
  code = r.code;
  message = r.message;
  location = location_at (specifier_of_subject r.subject) (range_of_subject r.subject);
  snippet = option_map (snippet_at r.range_description) (range_of_subject r.subject);
  hint = r.hint;
  snippet_fixed = None;
  info = r.info;
  docs_url = Some (codes "https://jsr.io/go/slow-type-" ++ r.code);
}
