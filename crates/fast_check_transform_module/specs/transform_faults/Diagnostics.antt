-- How the faults of a transform are reported: each as a diagnostic of its kind at its place, in their order.
use Rattle.std.specs.Prelude.{◌≡◌, ℕ, Bool, List, [], ◌∷◌, Option, Some, None, MatchOption, take, if◌then◌else◌}
use Rattle.std.specs.Prelude.{string_bytes}
use Rattle.std.specs.Rc.{rc_str_bytes}
use Rattle.fast_check_tree_syntax.specs.declared.source.SourceRange.{SourceRange}
use Rattle.fast_check_tables_modules.specs.EsModule.{EsModule}
use Rattle.fast_check_tables_modules.specs.diagnostics.declared.diagnostics.range.FastCheckDiagnosticRange.{
  FastCheckDiagnosticRange,
}
use Rattle.fast_check_tables_modules.specs.diagnostics.declared.diagnostics.FastCheckDiagnostic.{FastCheckDiagnostic}
use Rattle.fast_check_tables_modules.specs.diagnostics.declared.diagnostics.FastCheckDiagnostic.TheVariants.{
  MissingExplicitType,
  MissingExplicitReturnType,
  UnsupportedDestructuring,
  UnsupportedSuperClassExpr,
  UnsupportedDefaultExportExpr,
  UnsupportedUsing,
  UnsupportedRequire,
  UnsupportedTsExportAssignment,
  UnsupportedTsNamespaceExport,
  UnsupportedGlobalModule,
  UnsupportedAmbientModule,
  UnsupportedExpandoProperty,
}
use Rattle.fast_check_meaning_signatures.specs.declared.fault.Fault.{Fault}
use Rattle.fast_check_meaning_signatures.specs.declared.fault.FaultKind.{FaultKind}
use Rattle.fast_check_meaning_signatures.specs.declared.fault.FaultKind.TheVariants as kinds

-- the faults that are reported: all of them, or the first alone
abbrev pub diagnosed : Bool → List Fault → List Fault
diagnosed first_alone fs = if first_alone then take 1 fs else fs

-- a place in the source text of a module
pub record IsPlaceOf (info : EsModule) (at : SourceRange) (place : FastCheckDiagnosticRange) : Type 0 where
  pub specifier : place.specifier ≡ info.specifier
  pub range : place.range ≡ at
  pub text : rc_str_bytes place.text_info ≡ rc_str_bytes info.source.text

-- an expando property whose value mentions a name that its object exports, with both names
abbrev pub IsExpandoProperty : FastCheckDiagnosticRange → List ℕ → List ℕ → FastCheckDiagnostic → Type 0
IsExpandoProperty place object reference (UnsupportedExpandoProperty p o r) = (p ≡ place) ×
    ((string_bytes o ≡ object) × (string_bytes r ≡ reference))
IsExpandoProperty place object reference _ = ⊥

-- a kind of fault with its flags and names, and its place
abbrev pub Diagnosed : Type 0
Diagnosed = FaultKind × FastCheckDiagnosticRange

-- what a diagnostic of a transform reports
abbrev pub diagnosed_by : FastCheckDiagnostic → Option Diagnosed
diagnosed_by (MissingExplicitType place) = Some (kinds.MissingExplicitType, place)
diagnosed_by (MissingExplicitReturnType place is_definitely_void_or_never is_async) =
    Some (kinds.MissingExplicitReturnType is_definitely_void_or_never is_async, place)
diagnosed_by (UnsupportedDestructuring place) = Some (kinds.UnsupportedDestructuring, place)
diagnosed_by (UnsupportedSuperClassExpr place) = Some (kinds.UnsupportedSuperClassExpr, place)
diagnosed_by (UnsupportedDefaultExportExpr place) = Some (kinds.UnsupportedDefaultExportExpr, place)
diagnosed_by (UnsupportedUsing place) = Some (kinds.UnsupportedUsing, place)
diagnosed_by (UnsupportedRequire place) = Some (kinds.UnsupportedRequire, place)
diagnosed_by (UnsupportedTsExportAssignment place) = Some (kinds.UnsupportedTsExportAssignment, place)
diagnosed_by (UnsupportedTsNamespaceExport place) = Some (kinds.UnsupportedTsNamespaceExport, place)
diagnosed_by (UnsupportedGlobalModule place) = Some (kinds.UnsupportedGlobalModule, place)
diagnosed_by (UnsupportedAmbientModule place) = Some (kinds.UnsupportedAmbientModule, place)
diagnosed_by (UnsupportedExpandoProperty place object reference) =
    Some (kinds.UnsupportedExpandoProperty (string_bytes object) (string_bytes reference), place)
diagnosed_by _ = None

-- a fault of a module, as a diagnostic of its kind, with its flags and names, at its place
abbrev pub IsDiagnosticOf : EsModule → Fault → FastCheckDiagnostic → Type 0
IsDiagnosticOf info fault d =
    MatchOption (diagnosed_by d) ⊥ (λ x. (fault.kind ≡ x.0) × IsPlaceOf info fault.range x.1)

-- faults one by one as diagnostics
abbrev pub AreDiagnosticsOf : EsModule → List Fault → List FastCheckDiagnostic → Type 0
AreDiagnosticsOf info [] [] = Unit {0}
AreDiagnosticsOf info (f ∷ fs) (d ∷ ds) = IsDiagnosticOf info f d × AreDiagnosticsOf info fs ds
AreDiagnosticsOf info _ _ = ⊥
