-- How the faults of a module are collected.
use Rattle.std.proofs.Common.{◌≡◌, ◌∙◌, refl, sym, ap, subst, Bool, true, false, cond, ◌||◌, List, [], ◌∷◌, ◌++◌, map, Option, Some, None}
use Rattle.std.proofs.Common.{⊎_elim, append_assoc, append-nil, ℕ, ◌+◌, ◌<◌, length, take}
use Rattle.std.specs.Prelude.{not}
use lib.ListN.{get_or}
use Rattle.std.specs.List.{list_any, flat_map, AllByRecursion, Contains}
use Rattle.std.specs.Map.{lookup}
use Rattle.std.specs.BTreeMap.{is_at, insert_entry}
use Rattle.std.specs.Option.{is_some}
use Rattle.std.specs.Ordering.{is_eq, match_ordering}
use Rattle.std.specs.Rc.{rc_str_bytes}
use Rattle.std.specs.declared.alloc.Global.{Global}
use Rattle.std.specs.declared.cmp.Ordering.{Ordering}
use Rattle.std.specs.declared.cmp.Ordering.TheVariants.{Less, Equal, Greater}
use Rattle.std.specs.declared.rc.RcStr.{RcStr}
use Rattle.std.proofs.lemmas.Bool.{false≢true, or_right}
use Rattle.std.proofs.lemmas.List.{take_more, map-append}
use Rattle.std.proofs.lemmas.List.Concat.{flat_map-append}
use Rattle.std.proofs.lemmas.List.Elements.{Contains-append_left, Contains-push, Contains-push_cases, filter-append}
use Rattle.std.proofs.lemmas.List.Folds.{list_any-append}
use Rattle.fast_check_finder_ranges.specs.contracts.findings.module_faults.ReportedFaultOrd.TheImpl as order
use Rattle.fast_check_finder_ranges.specs.declared.findings.module_faults.ModuleFaults.{ModuleFaults}
use Rattle.fast_check_finder_ranges.specs.declared.findings.module_faults.ReportedFault.{ReportedFault}
use Rattle.fast_check_finder_ranges.specs.findings.Faults.{PlacedFault}
use Rattle.fast_check_finder_ranges.specs.findings.Yields.{ModuleFault, untyped_module, of_demand}
use Rattle.fast_check_finder_ranges.specs.findings.Diagnostics.{same_report, is_untyped, others}
use Rattle.fast_check_finder_ranges.specs.findings.ModuleFaults.{fault_with, fault_of, AreFaults, AddsFaults, AddsTo}
use Rattle.fast_check_finder_ranges.proofs.findings.Inserted.{inserted}
use Rattle.fast_check_finder_ranges.proofs.findings.Reports.{report_itself, reports_tie}
use Rattle.fast_check_tables_packages.proofs.Found.{or_none}

-- what holds of each entry, where one is put at a new key
all_at : {K X : Type 0} (P : K × X → Type 0) (r : Ordering) (e n : K × X) (es rest : List (K × X)) (o : Option X) →
    cond (is_eq r) (Some e.1) o ≡ None → AllByRecursion P (e ∷ es) → P n → (o ≡ None → AllByRecursion P rest) →
    AllByRecursion P (match_ordering r (n ∷ e ∷ es) ((e.0, n.1) ∷ es) (e ∷ rest))
all_at P Less e n es rest o h a p g = (p, a)
all_at P Equal e n es rest o h a p g = absurd (false≢true (sym (ap is_some h)))
all_at P Greater e n es rest o h a p g = (a.0, g h)

all_inserted : {K X : Type 0} (cmp : K → K → Ordering) (P : K × X → Type 0) (es : List (K × X)) (k : K) (v : X) →
    lookup (is_at (cmp k)) es ≡ None → AllByRecursion P es → P (k, v) → AllByRecursion P (insert_entry cmp es k v)
all_inserted cmp P [] k v h a p = (p, tt)
all_inserted cmp P (e ∷ es) k v h a p = all_at P (cmp k e.0) e (k, v) es (insert_entry cmp es k v) (lookup (is_at (cmp k)) es) h a p
    (λ g. all_inserted cmp P es k v g a.1 p)

pub all_weaker : {X : Type 0} (P Q : X → Type 0) → ((x : X) → P x → Q x) → (xs : List X) → AllByRecursion P xs → AllByRecursion Q xs
all_weaker P Q h [] a = tt
all_weaker P Q h (x ∷ xs) a = (h x a.0, all_weaker P Q h xs a.1)

some_or : {X : Type 0} (b : Bool) (v : X) (o : Option X) → is_some (cond b (Some v) o) ≡ (b || is_some o)
some_or true v o = refl
some_or false v o = refl

-- a key that is there reports the same
told_there : (es : List (ReportedFault × RcStr Global)) (k : ReportedFault) (t : List ℕ) →
    is_some (lookup (is_at (order.cmp-value.it k)) es) ≡ list_any (λ e. same_report (fault_with k t) (fault_of e)) es
told_there [] k t = refl
told_there (e ∷ es) k t =
    some_or (is_eq (order.cmp-value.it k e.0)) e.1 (lookup (is_at (order.cmp-value.it k)) es)
    ∙ (ap (λ b. b || is_some (lookup (is_at (order.cmp-value.it k)) es)) (sym (reports_tie k e.0 t (rc_str_bytes e.1)))
    ∙ ap (λ b. same_report (fault_with k t) (fault_of e) || b) (told_there es k t))

module _ (fs : List ModuleFault) (es : List (ReportedFault × RcStr Global)) (k : ReportedFault) (v : RcStr Global) (a : AreFaults fs es) where
  more : AllByRecursion (λ e. Contains (fs ++ fault_of (k, v) ∷ []) (fault_of e)) es
  more = all_weaker (λ e. Contains fs (fault_of e)) (λ e. Contains (fs ++ fault_of (k, v) ∷ []) (fault_of e))
      (λ e c. Contains-append_left fs (fault_of (k, v) ∷ []) (fault_of e) c) es a.only

  last : Contains (fs ++ fault_of (k, v) ∷ []) (fault_of (k, v))
  last = Contains-push fs (fault_of (k, v))

  pub added : lookup (is_at (order.cmp-value.it k)) es ≡ None → AreFaults (fs ++ fault_of (k, v) ∷ []) (insert_entry order.cmp-value.it es k v)
  added h = record {
    only = all_inserted order.cmp-value.it (λ e. Contains (fs ++ fault_of (k, v) ∷ []) (fault_of e)) es k v h more last;
    all = λ f c. inserted order.cmp-value.it (λ e. same_report f (fault_of e)) es k v h ∙ ⊎_elim
        (λ old. ap (λ b. b || same_report f (fault_of (k, v))) (a.all f old))
        (λ new. or_right (list_any (λ e. same_report f (fault_of e)) es) (same_report f (fault_of (k, v)))
        (ap (same_report f) new ∙ report_itself f))
        (Contains-push_cases fs (fault_of (k, v)) f c);
  }

  pub stood : is_some (lookup (is_at (order.cmp-value.it k)) es) ≡ true → AreFaults (fs ++ fault_of (k, v) ∷ []) es
  stood h = record {
    only = more;
    all = λ f c. ⊎_elim
        (λ old. a.all f old)
        (λ new. subst (λ (g : ModuleFault). list_any (λ e. same_report g (fault_of e)) es ≡ true) new
        (sym (told_there es k (rc_str_bytes v)) ∙ h))
        (Contains-push_cases fs (fault_of (k, v)) f c);
  }

abbrev Reported : Type 0
Reported = List (ReportedFault × RcStr Global)

pub adds_none : (old : Reported) → AddsFaults [] old old
adds_none old fs a = subst (λ (x : List ModuleFault). AreFaults x old) (sym (append-nil fs)) a

pub adds_then : (xs ys : List ModuleFault) (a b c : Reported) → AddsFaults xs a b → AddsFaults ys b c → AddsFaults (xs ++ ys) a c
adds_then xs ys a b c p q fs h = subst (λ (x : List ModuleFault). AreFaults x c) (append_assoc fs xs ys) (q (fs ++ xs) (p fs h))

-- those of one more of a list
pub adds_more : {S : Type 0} (demand_yields : S → List PlacedFault) (ss : List S) (i : ℕ) (a b c : Reported) {s : S} → i < length ss → s ≡ get_or ss i s →
    AddsFaults (map of_demand (flat_map demand_yields (take i ss))) a b → AddsFaults (map of_demand (demand_yields s)) b c →
    AddsFaults (map of_demand (flat_map demand_yields (take (i + 1) ss))) a c
adds_more {S} demand_yields ss i a b c {s} h e p q =
    subst (λ (zs : List ModuleFault). AddsFaults zs a c)
    (sym (ap (λ (ts : List S). map of_demand (flat_map demand_yields ts)) (take_more ss i s h ∙ ap (λ t. take i ss ++ t ∷ []) (sym e))
    ∙ (ap (map of_demand) (flat_map-append demand_yields (take i ss) (s ∷ []) ∙ ap (λ zs. flat_map demand_yields (take i ss) ++ zs) (append-nil (demand_yields s)))
    ∙ map-append of_demand (flat_map demand_yields (take i ss)) (demand_yields s))))
    (adds_then (map of_demand (flat_map demand_yields (take i ss))) (map of_demand (demand_yields s)) a b c p q)

-- faults but that the types are not known
abbrev pub AreOthers : List ModuleFault → Type 0
AreOthers zs = (others zs ≡ zs) × (list_any is_untyped zs ≡ false)

pub demands_are_others : (xs : List PlacedFault) → AreOthers (map of_demand xs)
demands_are_others [] = (refl, refl)
demands_are_others (x ∷ xs) = (ap (λ zs. of_demand x ∷ zs) (demands_are_others xs).0, (demands_are_others xs).1)

pub adds_others : (zs : List ModuleFault) (old new : ModuleFaults) → AreOthers zs → new.is_untyped ≡ old.is_untyped →
    AddsFaults zs old.others.entries new.others.entries → AddsTo zs old new
adds_others zs old new o u adds fs a = record {
  untyped = u ∙ (a.untyped ∙ sym (list_any-append is_untyped fs zs ∙ (ap (λ b. list_any is_untyped fs || b) o.1 ∙ or_none (list_any is_untyped fs))));
  reported = subst (λ (x : List ModuleFault). AreFaults x new.others.entries)
      (sym (filter-append (λ f. not (is_untyped f)) fs zs ∙ ap (λ x. others fs ++ x) o.0))
      (adds (others fs) a.reported);
}

pub adds_untyped : (old new : ModuleFaults) → new.is_untyped ≡ true → new.others.entries ≡ old.others.entries → AddsTo (untyped_module ∷ []) old new
adds_untyped old new u same fs a = record {
  untyped = u ∙ sym (list_any-append is_untyped fs (untyped_module ∷ []) ∙ or_right (list_any is_untyped fs) true refl);
  reported = subst (λ (x : List ModuleFault). AreFaults x new.others.entries)
      (sym (filter-append (λ f. not (is_untyped f)) fs (untyped_module ∷ []) ∙ append-nil (others fs)))
      (subst (λ (es : Reported). AreFaults (others fs) es) (sym same) a.reported);
}
