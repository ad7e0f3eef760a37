-- Faults that compare alike are one report.
use Rattle.std.proofs.Common.{◌≡◌, ◌∙◌, refl, true, false, List, [], ◌∷◌, map, ℕ, ◌≤◌, arith}
use Rattle.std.specs.Prelude.{AllPairs}
use Rattle.std.specs.List.{IsDistinct, AllByRecursion}
use Rattle.std.specs.Map.{keys_of}
use Rattle.std.specs.List.Sorted.{IsStrictlySortedBy}
use Rattle.std.specs.Ordering.{is_eq, eq_by_cmp}
use Rattle.std.specs.declared.cmp.Ordering.TheVariants.{Less}
use Rattle.std.specs.Rc.{rc_str_bytes}
use Rattle.std.specs.declared.alloc.Global.{Global}
use Rattle.std.specs.declared.rc.RcStr.{RcStr}
use Rattle.std.proofs.lemmas.List.Elements.{All-from_recursion}
use Rattle.std.proofs.lemmas.List.Kept.{AllPairs-cons}
use Rattle.std.proofs.lemmas.Map.Keys.{IsDistinct-cons, IsDistinct-head, IsDistinct-tail, sorted_head, sorted_tail}
use Rattle.fast_check_finder_ranges.specs.declared.findings.found.EntryFault.TheVariants.{NotFound, Untyped}
use Rattle.fast_check_finder_ranges.specs.contracts.findings.module_faults.ReportedFaultOrd.TheImpl as order
use Rattle.fast_check_finder_ranges.specs.declared.findings.module_faults.ReportedFault.{ReportedFault}
use Rattle.fast_check_finder_ranges.specs.declared.findings.module_faults.ReportedFault.TheVariants.{OfEntry, OfDemand}
use Rattle.fast_check_finder_ranges.specs.findings.Yields.{ModuleFault, missing_entry, untyped_entry, untyped_module, of_demand}
use Rattle.fast_check_finder_ranges.specs.findings.Diagnostics.{same_report, place_of}
use Rattle.fast_check_finder_ranges.specs.findings.ModuleFaults.{fault_with, fault_of}
use Rattle.fast_check_finder_ranges.proofs.findings.Compared.{compares, same_itself, starts_before}

pub report_itself : (f : ModuleFault) → same_report f f ≡ true
report_itself missing_entry = refl
report_itself untyped_entry = refl
report_itself untyped_module = refl
report_itself (of_demand r) = same_itself r

pub reports_tie : (a b : ReportedFault) (t u : List ℕ) → same_report (fault_with a t) (fault_with b u) ≡ is_eq (order.cmp-value.it a b)
reports_tie (OfEntry NotFound) (OfEntry NotFound) t u = refl
reports_tie (OfEntry NotFound) (OfEntry Untyped) t u = refl
reports_tie (OfEntry Untyped) (OfEntry NotFound) t u = refl
reports_tie (OfEntry Untyped) (OfEntry Untyped) t u = refl
reports_tie (OfEntry NotFound) (OfDemand b) t u = refl
reports_tie (OfEntry Untyped) (OfDemand b) t u = refl
reports_tie (OfDemand a) (OfEntry NotFound) t u = refl
reports_tie (OfDemand a) (OfEntry Untyped) t u = refl
reports_tie (OfDemand a) (OfDemand b) t u = compares a b t u

-- those of a map are reported once
apart : (e : ReportedFault × RcStr Global) (es : List (ReportedFault × RcStr Global)) →
    AllByRecursion (λ k. eq_by_cmp order.cmp-value.it e.0 k ≡ false) (keys_of es) →
    AllByRecursion (λ f. same_report (fault_of e) f ≡ false) (map fault_of es)
apart e [] a = tt
apart e (x ∷ xs) a = (reports_tie e.0 x.0 (rc_str_bytes e.1) (rc_str_bytes x.1) ∙ a.0, apart e xs a.1)

pub none_twice : IsDistinct same_report []
unfolding IsDistinct
none_twice = tt

pub told_once : (es : List (ReportedFault × RcStr Global)) → IsDistinct (eq_by_cmp order.cmp-value.it) (keys_of es) →
    IsDistinct same_report (map fault_of es)
told_once [] s = none_twice
told_once (x ∷ xs) s = IsDistinct-cons same_report (fault_of x) (map fault_of xs)
    (apart x xs (IsDistinct-head (eq_by_cmp order.cmp-value.it) x.0 (keys_of xs) s))
    (told_once xs (IsDistinct-tail (eq_by_cmp order.cmp-value.it) x.0 (keys_of xs) s))

-- and by their places

placed : (a b : ReportedFault) (t u : List ℕ) → order.cmp-value.it a b ≡ Less → place_of (fault_with a t) ≤ place_of (fault_with b u)
placed (OfEntry NotFound) b t u e = omega arith
placed (OfEntry Untyped) b t u e = omega arith
placed (OfDemand a) (OfEntry NotFound) t u e = cc
placed (OfDemand a) (OfEntry Untyped) t u e = cc
placed (OfDemand a) (OfDemand b) t u e = omega (arith, starts_before a b e)

all_placed : (e : ReportedFault × RcStr Global) (es : List (ReportedFault × RcStr Global)) →
    AllByRecursion (λ k. order.cmp-value.it e.0 k ≡ Less) (keys_of es) →
    AllByRecursion (λ f. place_of (fault_of e) ≤ place_of f) (map fault_of es)
all_placed e [] a = tt
all_placed e (x ∷ xs) a = (placed e.0 x.0 (rc_str_bytes e.1) (rc_str_bytes x.1) a.0, all_placed e xs a.1)

pub told_by_place : (es : List (ReportedFault × RcStr Global)) → IsStrictlySortedBy order.cmp-value.it (keys_of es) →
    AllPairs (λ f g. place_of f ≤ place_of g) (map fault_of es)
told_by_place [] s = λ i j d lt within. absurd (omega arith)
told_by_place (x ∷ xs) s = AllPairs-cons (λ f g. place_of f ≤ place_of g) (fault_of x) (map fault_of xs)
    (All-from_recursion (λ g. place_of (fault_of x) ≤ place_of g) (map fault_of xs)
    (all_placed x xs (sorted_head order.cmp-value.it x.0 (keys_of xs) s)))
    (told_by_place xs (sorted_tail order.cmp-value.it x.0 (keys_of xs) s))
