-- The diagnostics of a module have none of a cache, and none that is reported of a module as a whole under another specifier.
use Rattle.std.proofs.Common.{◌≡◌, ◌∙◌, sym, ap, refl, subst, Bool, true, false, cond, List, [], ◌∷◌, map, Option, Some, None, arith}
use Rattle.std.specs.List.{Contains}
use Rattle.std.specs.Option.{is_some}
use Rattle.std.specs.Str.{bytes_eq}
use Rattle.std.proofs.lemmas.Bool.{false≢true}
use Rattle.std.proofs.lemmas.List.Elements.{All-from_recursion, All-contains}
use Rattle.std.specs.List.{AllByRecursion}
use Rattle.url.specs.Parts.{Parts, serialize}
use Rattle.fast_check_tables_diagnostics.specs.declared.diagnostics.FastCheckDiagnostic.{FastCheckDiagnostic}
use Rattle.fast_check_tables_diagnostics.specs.declared.diagnostics.FastCheckDiagnostic.TheVariants.{Cached, ExportNotFound}
use Rattle.fast_check_finder_demands.specs.asked.Demands.{Text}
use Rattle.fast_check_finder_ranges.specs.findings.Faults.{demand_fault}
use Rattle.fast_check_finder_ranges.specs.findings.Yields.{ModuleFault, missing_entry}
use Rattle.fast_check_finder_ranges.specs.findings.Diagnostics.{fault_reported, AreDiagnosed}

cached_tells_nothing : (t : Text) (specifier : Parts) → fault_reported t (Cached specifier) ≡ None
unfolding demand_fault
cached_tells_nothing t specifier = refl

-- each diagnostic reports something
each_tells : (t : Text) (ds : List FastCheckDiagnostic) (fs : List ModuleFault) → map (fault_reported t) ds ≡ map Some fs →
    AllByRecursion (λ d. is_some (fault_reported t d) ≡ true) ds
each_tells t [] fs e = tt
each_tells t (d ∷ ds) [] e = absurd (false≢true (ap is_nil e))
  where
    is_nil : List (Option ModuleFault) → Bool
    is_nil [] = true
    is_nil (x ∷ xs) = false
each_tells t (d ∷ ds) (f ∷ fs) e = (ap (head_some) e, each_tells t ds fs (ap tail_of e))
  where
    head_some : List (Option ModuleFault) → Bool
    head_some [] = false
    head_some (x ∷ xs) = is_some x

    tail_of : List (Option ModuleFault) → List (Option ModuleFault)
    tail_of [] = []
    tail_of (x ∷ xs) = xs

module _ (t : Text) (faults : List ModuleFault) (ds : List FastCheckDiagnostic) (diagnosed : AreDiagnosed t faults ds) where
  tells : (d : FastCheckDiagnostic) → Contains ds d → is_some (fault_reported t d) ≡ true
  tells d among = All-contains (λ x. is_some (fault_reported t x) ≡ true) ds d
      (All-from_recursion (λ x. is_some (fault_reported t x) ≡ true) ds (each_tells t ds diagnosed.reports diagnosed.tell)) among

  pub no_cached : (specifier : Parts) → Contains ds (Cached specifier) → ⊥
  no_cached specifier among = false≢true (sym (ap is_some (cached_tells_nothing t specifier)) ∙ tells (Cached specifier) among)

  pub no_foreign : (other : Parts) → bytes_eq t (serialize other) ≡ false → Contains ds (ExportNotFound other) → ⊥
  no_foreign other away among =
      false≢true (sym (ap (λ b. is_some (cond b (Some missing_entry) None)) away) ∙ tells (ExportNotFound other) among)
