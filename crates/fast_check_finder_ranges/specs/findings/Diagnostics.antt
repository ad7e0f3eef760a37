-- What is reported of a module, and by which diagnostics.
use Rattle.std.specs.Prelude.{◌≡◌, ℕ, suc, ◌≤◌, Bool, true, false, cond, not, ◌&&◌, List, [], ◌∷◌, map, AllPairs}
use Rattle.std.specs.Prelude.{Option, Some, None, option_map}
use Rattle.std.specs.List.{list_any, filter, Contains, IsDistinct}
use Rattle.std.specs.Str.{bytes_eq}
use Rattle.url.specs.Parts.{serialize}
use Rattle.fast_check_tables_diagnostics.specs.PublicRanges.{same_range}
use Rattle.fast_check_tables_diagnostics.specs.declared.diagnostics.FastCheckDiagnostic.{FastCheckDiagnostic}
use Rattle.fast_check_tables_diagnostics.specs.declared.diagnostics.FastCheckDiagnostic.TheVariants.{
  ExportNotFound,
  UnsupportedJavaScriptEntrypoint,
  UnsupportedNestedJavaScript,
}
use Rattle.fast_check_finder_demands.specs.declared.fault.DemandFaultKind.{DemandFaultKind}
use Rattle.fast_check_finder_demands.specs.declared.fault.DemandFaultKind.TheVariants.{PrivateMember, NotFound, TooComplex}
use Rattle.fast_check_finder_demands.specs.asked.Demands.{Text}
use Rattle.fast_check_finder_ranges.specs.findings.Faults.{PlacedFault, demand_fault}
use Rattle.fast_check_finder_ranges.specs.findings.Yields.{ModuleFault, missing_entry, untyped_entry, untyped_module, of_demand}

abbrev pub same_kind : DemandFaultKind → DemandFaultKind → Bool
same_kind PrivateMember PrivateMember = true
same_kind NotFound NotFound = true
same_kind TooComplex TooComplex = true
same_kind _ _ = false

-- two faults are one: the same at the same place of the same module. The source text isn't compared.
abbrev pub same_fault : PlacedFault → PlacedFault → Bool
same_fault a b = same_range a.range b.range
    && (same_kind a.kind b.kind
    && (bytes_eq a.name b.name &&
    (bytes_eq a.referrer b.referrer && bytes_eq (serialize a.specifier) (serialize b.specifier))))

-- and so are two reports of a module
abbrev pub same_report : ModuleFault → ModuleFault → Bool
same_report missing_entry missing_entry = true
same_report untyped_entry untyped_entry = true
same_report untyped_module untyped_module = true
same_report (of_demand a) (of_demand b) = same_fault a b
same_report _ _ = false

abbrev pub is_untyped : ModuleFault → Bool
is_untyped untyped_module = true
is_untyped _ = false

abbrev pub others : List ModuleFault → List ModuleFault
others faults = filter (λ f. not (is_untyped f)) faults

-- That the types of a module are not known is reported where nothing else is wrong with it.
abbrev pub reported_of : List ModuleFault → List ModuleFault → List ModuleFault
reported_of [] faults = faults
reported_of (f ∷ fs) faults = f ∷ fs

abbrev pub all_reported : List ModuleFault → List ModuleFault
all_reported faults = reported_of (others faults) faults

-- what a diagnostic reports of the module: one of the module as a whole carries its specifier
abbrev pub fault_reported : Text → FastCheckDiagnostic → Option ModuleFault
fault_reported t (ExportNotFound specifier) = cond (bytes_eq t (serialize specifier)) (Some missing_entry) None
fault_reported t (UnsupportedJavaScriptEntrypoint specifier) =
    cond (bytes_eq t (serialize specifier)) (Some untyped_entry) None
fault_reported t (UnsupportedNestedJavaScript specifier) =
    cond (bytes_eq t (serialize specifier)) (Some untyped_module) None
fault_reported t d = option_map of_demand (demand_fault d)

-- where a report stands: those of the module as a whole first, and then those of demands, by their places in the text
abbrev pub place_of : ModuleFault → ℕ
place_of (of_demand fault) = suc fault.range.start.0
place_of _ = 0

-- These diagnostics of a module report what of these faults is to be reported, with its source text, and nothing else.
-- All that is to be reported is reported, in the order of places, but no two report the same.
pub record AreDiagnosed (t : Text) (faults : List ModuleFault) (ds : List FastCheckDiagnostic) : Type 0 where
  pub reports : List ModuleFault
  pub tell : map (fault_reported t) ds ≡ map Some reports
  pub once : IsDistinct same_report reports
  pub by_place : AllPairs (λ f g. place_of f ≤ place_of g) reports
  pub only : (f : ModuleFault) → Contains reports f → Contains (all_reported faults) f
  pub all : (f : ModuleFault) → Contains (all_reported faults) f → list_any (same_report f) reports ≡ true
