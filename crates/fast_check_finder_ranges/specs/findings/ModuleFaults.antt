-- Inner: no contract of a public call cites what stands here.
-- Inner: no contract of a public call cites what stands here, but for `AreFaultsOf` and `AddsTo`.
-- What is wrong with a module, as far as it was collected.
use Rattle.std.specs.Prelude.{◌≡◌, ℕ, Bool, true, cond, List, [], ◌∷◌, ◌++◌, Option, Some}
use Rattle.std.specs.List.{list_any, AllByRecursion, Contains}
use Rattle.std.specs.Rc.{rc_str_bytes}
use Rattle.std.specs.declared.alloc.Global.{Global}
use Rattle.std.specs.declared.rc.RcStr.{RcStr}
use Rattle.fast_check_finder_ranges.specs.findings.Faults.{placed_with}
use Rattle.fast_check_finder_ranges.specs.findings.Findings.{entry_fault}
use Rattle.fast_check_finder_ranges.specs.findings.Yields.{ModuleFault, untyped_module, of_demand}
use Rattle.fast_check_finder_ranges.specs.findings.Diagnostics.{same_report, is_untyped, others}
use Rattle.fast_check_finder_ranges.specs.declared.findings.module_faults.ReportedFault.{ReportedFault}
use Rattle.fast_check_finder_ranges.specs.declared.findings.module_faults.ReportedFault.TheVariants.{OfEntry, OfDemand}
use Rattle.fast_check_finder_ranges.specs.declared.findings.module_faults.ModuleFaults.{ModuleFaults}

abbrev pub fault_with : ReportedFault → List ℕ → ModuleFault
fault_with (OfEntry f) text = entry_fault f
fault_with (OfDemand f) text = of_demand (placed_with f text)

abbrev pub fault_of : ReportedFault × RcStr Global → ModuleFault
fault_of e = fault_with e.0 (rc_str_bytes e.1)

-- each that is reported is one of these, and each of these is reported
pub record AreFaults (fs : List ModuleFault) (reported : List (ReportedFault × RcStr Global)) : Type 0 where
  pub only : AllByRecursion (λ e. Contains fs (fault_of e)) reported
  pub all : (f : ModuleFault) → Contains fs f → list_any (λ e. same_report f (fault_of e)) reported ≡ true

-- these faults more are reported
abbrev pub AddsFaults : List ModuleFault → List (ReportedFault × RcStr Global) → List (ReportedFault × RcStr Global) → Type 0
AddsFaults more old new = (fs : List ModuleFault) → AreFaults fs old → AreFaults (fs ++ more) new

-- these are the faults of a module
pub record AreFaultsOf (fs : List ModuleFault) (m : ModuleFaults) : Type 0 where
  pub untyped : m.is_untyped ≡ list_any is_untyped fs
  pub reported : AreFaults (others fs) m.others.entries

abbrev pub AddsTo : List ModuleFault → ModuleFaults → ModuleFaults → Type 0
AddsTo more old new = (fs : List ModuleFault) → AreFaultsOf fs old → AreFaultsOf (fs ++ more) new

-- behind what else is reported
abbrev pub reported_with : Bool → List (Option ModuleFault) → List (Option ModuleFault)
reported_with is_untyped [] = cond is_untyped (Some untyped_module ∷ []) []
reported_with is_untyped (x ∷ xs) = x ∷ xs
