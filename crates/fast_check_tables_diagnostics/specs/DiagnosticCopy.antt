-- What a copy of a diagnostic is.
use Rattle.std.specs.Prelude.{◌≡◌, ℕ, Bool, false, List, [], ◌∷◌, String, string_bytes}
use Rattle.std.specs.Global.{Global}
use Rattle.url.specs.Parts.{Parts}
use Rattle.fast_check_tables_diagnostics.specs.declared.diagnostics.range.FastCheckDiagnosticRange.{FastCheckDiagnosticRange}
use Rattle.fast_check_tables_diagnostics.specs.declared.diagnostics.FastCheckDiagnostic.{FastCheckDiagnostic}
use Rattle.fast_check_tables_diagnostics.specs.declared.diagnostics.FastCheckDiagnostic.TheVariants as kinds
use Rattle.fast_check_tables_diagnostics.specs.DiagnosticRange.{IsCopy}
use Rattle.fast_check_tables_diagnostics.specs.Subject.{Subject, Part, Whole}
use Rattle.fast_check_tables_diagnostics.specs.Diagnostic.{report_of}

-- a copy of a place or of a module
abbrev pub IsSubjectCopy : Subject → Subject → Type 0
IsSubjectCopy (Part range) (Part copy) = IsCopy range copy
IsSubjectCopy (Whole specifier) (Whole copy) = copy ≡ specifier
IsSubjectCopy _ _ = ⊥

-- the texts that a diagnostic holds
unfoldable pub texts_in : FastCheckDiagnostic → List (List ℕ)
texts_in (kinds.NotFoundReference _ name referrer) = string_bytes name ∷ string_bytes referrer ∷ []
texts_in (kinds.UnsupportedComplexReference _ name referrer) = string_bytes name ∷ string_bytes referrer ∷ []
texts_in (kinds.UnsupportedExpandoProperty _ object reference) = string_bytes object ∷ string_bytes reference ∷ []
texts_in (kinds.UnsupportedPrivateMemberReference _ name referrer) = string_bytes name ∷ string_bytes referrer ∷ []
texts_in (kinds.Emit _ inner) = string_bytes inner ∷ []
texts_in _ = []

-- whether it is of a function that is definitely void or never, and of one that is asynchronous
unfoldable pub flags_in : FastCheckDiagnostic → Bool × Bool
flags_in (kinds.MissingExplicitReturnType _ is_definitely_void_or_never is_async) =
    (is_definitely_void_or_never, is_async)
flags_in _ = (false, false)

-- a copy is of the same kind, by the name of the kind, and so are its flags; its place or module is a copy, and its
-- texts have the same bytes
abbrev pub IsDiagnosticCopy : FastCheckDiagnostic → FastCheckDiagnostic → Type 0
IsDiagnosticCopy d copy =
    ((report_of copy).code ≡ (report_of d).code) × IsSubjectCopy (report_of d).subject (report_of copy).subject ×
    (texts_in copy ≡ texts_in d) × (flags_in copy ≡ flags_in d)

-- the diagnostic of the same kind that holds this place and these names, for the kinds that hold a place and two names
unfoldable pub with_names : FastCheckDiagnostic → FastCheckDiagnosticRange → String Global → String Global →
    FastCheckDiagnostic
with_names (kinds.NotFoundReference _ _ _) range first second = kinds.NotFoundReference range first second
with_names (kinds.UnsupportedComplexReference _ _ _) range first second =
    kinds.UnsupportedComplexReference range first second
with_names (kinds.UnsupportedPrivateMemberReference _ _ _) range first second =
    kinds.UnsupportedPrivateMemberReference range first second
with_names _ range first second = kinds.UnsupportedExpandoProperty range first second

-- the same diagnostic at this place, for the kinds that hold a place and no text
unfoldable pub with_range : FastCheckDiagnostic → FastCheckDiagnosticRange → FastCheckDiagnostic
with_range (kinds.MissingExplicitType _) range = kinds.MissingExplicitType range
with_range (kinds.MissingExplicitReturnType _ definite is_async) range =
    kinds.MissingExplicitReturnType range definite is_async
with_range (kinds.UnsupportedAmbientModule _) range = kinds.UnsupportedAmbientModule range
with_range (kinds.UnsupportedDefaultExportExpr _) range = kinds.UnsupportedDefaultExportExpr range
with_range (kinds.UnsupportedDestructuring _) range = kinds.UnsupportedDestructuring range
with_range (kinds.UnsupportedGlobalModule _) range = kinds.UnsupportedGlobalModule range
with_range (kinds.UnsupportedRequire _) range = kinds.UnsupportedRequire range
with_range (kinds.UnsupportedSuperClassExpr _) range = kinds.UnsupportedSuperClassExpr range
with_range (kinds.UnsupportedTsExportAssignment _) range = kinds.UnsupportedTsExportAssignment range
with_range (kinds.UnsupportedTsNamespaceExport _) range = kinds.UnsupportedTsNamespaceExport range
with_range _ range = kinds.UnsupportedUsing range

-- the same diagnostic of this module, for the kinds that hold a module and no text
unfoldable pub with_specifier : FastCheckDiagnostic → Parts → FastCheckDiagnostic
with_specifier (kinds.UnsupportedNestedJavaScript _) specifier = kinds.UnsupportedNestedJavaScript specifier
with_specifier (kinds.UnsupportedJavaScriptEntrypoint _) specifier = kinds.UnsupportedJavaScriptEntrypoint specifier
with_specifier (kinds.ExportNotFound _) specifier = kinds.ExportNotFound specifier
with_specifier _ specifier = kinds.Cached specifier
