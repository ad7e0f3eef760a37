-- What a reader is shown of a fault.
use Rattle.std.specs.Prelude.{ℕ, List, Option}
use Rattle.std.specs.Option.{option_copied}
use Rattle.std.specs.Rc.{rc_str_bytes}
use Rattle.url.specs.Parts.{Parts}
use Rattle.fast_check_tree_syntax.specs.declared.source.SourceRange.{SourceRange}
use Rattle.fast_check_tables_diagnostics.specs.declared.diagnostics.view.DiagnosticLevel.{DiagnosticLevel}
use Rattle.fast_check_tables_diagnostics.specs.declared.diagnostics.view.DiagnosticLocation.{DiagnosticLocation}
use Rattle.fast_check_tables_diagnostics.specs.declared.diagnostics.view.DiagnosticLocation.TheVariants.{ModulePosition}
use Rattle.fast_check_tables_diagnostics.specs.declared.diagnostics.view.DiagnosticLocation.TheVariants.{Module}
use Rattle.fast_check_tables_diagnostics.specs.declared.diagnostics.view.DiagnosticSnippet.{DiagnosticSnippet}

-- where it stands: at a position of a module's source text, or at a module as a whole
pub data Location : Type 0 where
  AtPosition : (specifier : Parts) (text : List ℕ) (position : ℕ) → Location
  AtModule : (specifier : Parts) → Location

-- a part of a source text, and what it is to the reader
pub record Snippet : Type 0 where
  pub text : List ℕ
  pub range : SourceRange
  pub description : Option (List ℕ)

-- all that is shown of a fault
pub record DiagnosticView : Type 0 where
  pub level : DiagnosticLevel
  pub code : List ℕ
  pub message : List ℕ
  pub location : Location
  pub snippet : Option Snippet
  pub hint : Option (List ℕ)
  pub snippet_fixed : Option Snippet
  pub info : List (List ℕ)
  pub docs_url : Option (List ℕ)

abbrev pub location_of : DiagnosticLocation → Location
location_of (ModulePosition specifier text position) = AtPosition specifier.now (rc_str_bytes text.now) position.0
location_of (Module specifier) = AtModule specifier.now

abbrev pub snippet_of : DiagnosticSnippet → Snippet
snippet_of s = record { text = rc_str_bytes s.source.now; range = s.range; description = option_copied s.description }
