-- Rows of the table of diagnostics as deno_graph has them: three that name nothing, three that name what they hold, and three of whole modules.
-- They do not come from the page that the table is written from, so a wrong row of that page has no proof.
use Rattle.std.specs.Prelude.{◌≡◌, ℕ, List, [], ◌∷◌, ◌++◌, Some, None, codes, String, string_bytes}
use Rattle.std.specs.Global.{Global}
use Rattle.url.specs.Parts.{Parts, serialize}
use Rattle.fast_check_tables_diagnostics.specs.declared.diagnostics.range.FastCheckDiagnosticRange.{FastCheckDiagnosticRange}
use Rattle.fast_check_tables_diagnostics.specs.declared.diagnostics.FastCheckDiagnostic.TheVariants as kinds
use Rattle.fast_check_tables_diagnostics.specs.declared.diagnostics.view.DiagnosticLevel.TheVariants.{Error, Warning}
use Rattle.fast_check_tables_diagnostics.specs.Subject.{Part, Whole}
use Rattle.fast_check_tables_diagnostics.specs.Report.{row}
use Rattle.fast_check_tables_diagnostics.specs.Diagnostic.{report_of}

pub record TextsArePinned : Type 0 where
  pub missing_type : (range : FastCheckDiagnosticRange) → report_of (kinds.MissingExplicitType range) ≡
      row (Part range) Error (codes "missing-explicit-type") (codes "missing explicit type in the public API")
      (Some (codes "this symbol is missing an explicit type")) (Some (codes "add an explicit type annotation to the symbol"))
      (codes "all symbols in the public API must have an explicit type" ∷ [])
  pub super_class : (range : FastCheckDiagnosticRange) → report_of (kinds.UnsupportedSuperClassExpr range) ≡
      row (Part range) Error (codes "unsupported-super-class-expr") (codes "super class expression was too complex")
      (Some (codes "this is the superclass expression")) (Some (codes "extract the superclass expression into a variable"))
      (codes "fast check was unable to infer the type of the superclass expression" ∷ [])
  pub destructuring : (range : FastCheckDiagnosticRange) → report_of (kinds.UnsupportedDestructuring range) ≡
      row (Part range) Error (codes "unsupported-destructuring") (codes "found destructuring, which is not supported in the public API")
      None (Some (codes "separate each destructured symbol into its own export statement"))
      (codes "destructuring can not be inferred by fast check" ∷ [])
  pub not_found : (range : FastCheckDiagnosticRange) (name referrer : String Global) → report_of (kinds.NotFoundReference range name referrer) ≡
      row (Part range) Error (codes "not-found-reference")
      (codes "could not resolve '" ++ (string_bytes name ++ (codes "' referenced from '" ++ (string_bytes referrer ++ codes "'"))))
      (Some (codes "this is the reference")) (Some (codes "fix the reference to point to a symbol that exists"))
      (codes "this error may be the result of a bug in Deno - if you think this is the case, please open an issue" ∷ [])
  pub complex : (range : FastCheckDiagnosticRange) (name referrer : String Global) → report_of (kinds.UnsupportedComplexReference range name referrer) ≡
      row (Part range) Error (codes "unsupported-complex-reference")
      (codes "the reference '" ++ (string_bytes name ++ (codes "' from '" ++ (string_bytes referrer ++ codes "' was too complex"))))
      (Some (codes "this is the reference"))
      (Some (codes "extract the shared type to a type alias and reference the type alias instead"))
      (codes "the reference was too complex to be resolved by fast check" ∷ [])
  pub private_member : (range : FastCheckDiagnosticRange) (name referrer : String Global) →
      report_of (kinds.UnsupportedPrivateMemberReference range name referrer) ≡
      row (Part range) Error (codes "unsupported-private-member-reference")
      (codes "public API member (" ++ (string_bytes referrer ++
      (codes ") is referencing or transitively referencing a class private member (" ++ (string_bytes name ++ codes ")"))))
      (Some (codes "this is the reference"))
      (Some (codes "extract the type of the private member to a type alias and reference the type alias instead"))
      (codes "private members can not be referenced from public API members" ∷
      codes "this is because fast check removes private members from the types" ∷ [])
  pub javascript : (specifier : Parts) → report_of (kinds.UnsupportedJavaScriptEntrypoint specifier) ≡
      row (Whole specifier) Warning (codes "unsupported-javascript-entrypoint")
      (codes "used a JavaScript module without type declarations as an entrypoint") None
      (Some (codes "add a type declaration (d.ts) for the JavaScript module, or rewrite it to TypeScript"))
      (codes "JavaScript files with no corresponding declaration require type inference to be type checked" ∷
      codes "fast check avoids type inference, so JavaScript entrypoints should be avoided" ∷ [])
  pub not_exported : (specifier : Parts) → report_of (kinds.ExportNotFound specifier) ≡
      row (Whole specifier) Error (codes "export-not-found") (codes "export not found: " ++ serialize specifier) None
      (Some (codes "this error is the result of a bug in Deno and you don't be seeing it - please open an issue if one doesn't exist"))
      (codes "this error is the result of a bug in Deno and you don't be seeing it - please open an issue if one doesn't exist" ∷ [])
  pub failed : (specifier : Parts) (inner : String Global) → report_of (kinds.Emit specifier inner) ≡
      row (Whole specifier) Error (codes "emit") (codes "failed to emit fast check module: " ++ string_bytes inner) None
      (Some (codes "this error may be the result of a bug in Deno - if you think this is the case, please open an issue"))
      (codes "this error may be the result of a bug in Deno - if you think this is the case, please open an issue" ∷ [])
