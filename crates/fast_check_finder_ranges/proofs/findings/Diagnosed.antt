-- The diagnostics of a module report what is to be reported.
use Rattle.std.proofs.Common.{◌≡◌, ◌≤◌, ◌∙◌, refl, sym, ap, subst, Bool, true, false, cond, ◌||◌, List, [], ◌∷◌, ◌++◌, map, Some, None, arith}
use Rattle.std.specs.Prelude.{AllPairs}
use Rattle.std.specs.List.{list_any, AllByRecursion, Contains, IsDistinct}
use Rattle.std.specs.declared.alloc.Global.{Global}
use Rattle.std.specs.declared.rc.RcStr.{RcStr}
use Rattle.std.specs.Cmp.Lexicographic.{nat_list_eq_equiv}
use Rattle.std.specs.Str.{bytes_eq}
use Rattle.std.proofs.lemmas.Bool.{false≢true}
use Rattle.std.proofs.lemmas.List.Elements.{All-from_recursion, All-map, All-contains}
use Rattle.std.proofs.lemmas.Map.Keys.{IsDistinct-cons}
use Rattle.url.specs.Parts.{Parts, serialize}
use Rattle.fast_check_tables_diagnostics.specs.declared.diagnostics.FastCheckDiagnostic.{FastCheckDiagnostic}
use Rattle.fast_check_finder_demands.specs.asked.Demands.{Text}
use Rattle.fast_check_finder_demands.proofs.asked.Maps.{none_in, first_in}
use Rattle.fast_check_finder_demands.proofs.Elements.{later}
use Rattle.fast_check_finder_ranges.specs.declared.findings.module_faults.ReportedFault.{ReportedFault}
use Rattle.fast_check_finder_ranges.specs.findings.Yields.{ModuleFault, missing_entry, untyped_entry, untyped_module, of_demand}
use Rattle.fast_check_finder_ranges.specs.findings.Diagnostics.{fault_reported, same_report, is_untyped, others, all_reported, reported_of, place_of, AreDiagnosed}
use Rattle.fast_check_finder_ranges.specs.findings.ModuleFaults.{fault_of, AreFaults, reported_with}
use Rattle.fast_check_finder_ranges.proofs.findings.Lists.{any_map}
use Rattle.fast_check_finder_ranges.proofs.findings.Reports.{none_twice}

map-map : {X Y Z : Type 0} (f : Y → Z) (g : X → Y) (xs : List X) → map f (map g xs) ≡ map (λ x. f (g x)) xs
map-map f g [] = refl
map-map f g (x ∷ xs) = ap (λ r. f (g x) ∷ r) (map-map f g xs)

cons_is_not_nil : {X : Type 0} (x : X) (xs : List X) → x ∷ xs ≡ [] → ⊥
cons_is_not_nil {X} x xs h = none_in x (subst (λ (ys : List X). Contains ys x) h (first_in x xs))

-- where nothing else is wrong
all_untyped : (fs : List ModuleFault) → others fs ≡ [] → AllByRecursion (λ f. f ≡ untyped_module) fs
all_untyped [] h = tt
all_untyped (missing_entry ∷ fs) h = absurd (cons_is_not_nil _ _ h)
all_untyped (untyped_entry ∷ fs) h = absurd (cons_is_not_nil _ _ h)
all_untyped (untyped_module ∷ fs) h = (refl, all_untyped fs h)
all_untyped (of_demand r ∷ fs) h = absurd (cons_is_not_nil _ _ h)

untyped_in : (fs : List ModuleFault) → list_any is_untyped fs ≡ true → Contains fs untyped_module
untyped_in [] h = absurd (false≢true h)
untyped_in (missing_entry ∷ fs) h = later missing_entry fs untyped_module (untyped_in fs h)
untyped_in (untyped_entry ∷ fs) h = later untyped_entry fs untyped_module (untyped_in fs h)
untyped_in (untyped_module ∷ fs) h = first_in untyped_module fs
untyped_in (of_demand r ∷ fs) h = later (of_demand r) fs untyped_module (untyped_in fs h)

one_alone : (f : ModuleFault) → IsDistinct same_report (f ∷ [])
one_alone f = IsDistinct-cons same_report f [] tt none_twice

module _ (t : Text) (fs : List ModuleFault) (ds : List FastCheckDiagnostic) where
  are_untyped : others fs ≡ [] → (f : ModuleFault) → Contains fs f → f ≡ untyped_module
  are_untyped h f c = All-contains (λ g. g ≡ untyped_module) fs f (All-from_recursion (λ g. g ≡ untyped_module) fs (all_untyped fs h)) c

  alone : (u : Bool) → u ≡ list_any is_untyped fs → others fs ≡ [] → map (fault_reported t) ds ≡ cond u (Some untyped_module ∷ []) [] →
      AreDiagnosed t fs ds
  alone true u h e = record {
    reports = untyped_module ∷ [];
    tell = e;
    once = one_alone untyped_module;
    by_place = λ i j d lt within. absurd (omega arith);
    only = λ f c. subst (λ (g : ModuleFault). Contains (all_reported fs) g) (sym (only_one f c))
        (subst (λ (o : List ModuleFault). Contains (reported_of o fs) untyped_module) (sym h) (untyped_in fs (sym u)));
    all = λ f c. ap (λ g. same_report g untyped_module || false)
        (are_untyped h f (subst (λ (o : List ModuleFault). Contains (reported_of o fs) f) h c));
  }
    where
      only_one : (f : ModuleFault) → Contains (untyped_module ∷ []) f → f ≡ untyped_module
      only_one f c = All-contains (λ g. g ≡ untyped_module) (untyped_module ∷ []) f
          (All-from_recursion (λ g. g ≡ untyped_module) (untyped_module ∷ []) (refl, tt)) c
  alone false u h e = record {
    reports = [];
    tell = e;
    once = none_twice;
    by_place = λ i j d lt within. absurd (omega arith);
    only = λ f c. absurd (none_in f c);
    all = λ f c. absurd (none_untyped fs u (all_untyped fs h) f (subst (λ (o : List ModuleFault). Contains (reported_of o fs) f) h c));
  }
    where
      none_untyped : (gs : List ModuleFault) → false ≡ list_any is_untyped gs → AllByRecursion (λ g. g ≡ untyped_module) gs →
          (f : ModuleFault) → Contains gs f → ⊥
      none_untyped [] n a f c = none_in f c
      none_untyped (g ∷ gs) n a f c = false≢true (n ∙ ap (λ x. is_untyped x || list_any is_untyped gs) a.0)

  beside : (es : List (ReportedFault × RcStr Global)) (o : List ModuleFault) → others fs ≡ o → AreFaults o es → all_reported fs ≡ o →
      IsDistinct same_report (map fault_of es) → AllPairs (λ f g. place_of f ≤ place_of g) (map fault_of es) →
      map (fault_reported t) ds ≡ map (λ e. Some (fault_of e)) es → AreDiagnosed t fs ds
  beside es o h a is once by_place e = record {
    reports = map fault_of es;
    tell = e ∙ sym (map-map Some fault_of es);
    once = once;
    by_place = by_place;
    only = λ f c. subst (λ (x : List ModuleFault). Contains x f) (sym is)
        (All-contains (Contains o) (map fault_of es) f
        (All-map (Contains o) fault_of es (All-from_recursion (λ e. Contains o (fault_of e)) es a.only)) c);
    all = λ f c. any_map (same_report f) fault_of es ∙ a.all f (subst (λ (x : List ModuleFault). Contains x f) is c);
  }

  by_parts : (u : Bool) (es : List (ReportedFault × RcStr Global)) (o : List ModuleFault) → others fs ≡ o → u ≡ list_any is_untyped fs →
      AreFaults o es → IsDistinct same_report (map fault_of es) → AllPairs (λ f g. place_of f ≤ place_of g) (map fault_of es) →
      map (fault_reported t) ds ≡ reported_with u (map (λ e. Some (fault_of e)) es) → AreDiagnosed t fs ds
  by_parts u [] [] h v a once by_place e = alone u v h e
  by_parts u [] (f ∷ o) h v a once by_place e = absurd (false≢true (a.all f (first_in f o)))
  by_parts u (x ∷ es) [] h v a once by_place e = absurd (none_in (fault_of x) a.only.0)
  by_parts u (x ∷ es) (f ∷ o) h v a once by_place e = beside (x ∷ es) (f ∷ o) h a (ap (λ x. reported_of x fs) h) once by_place e

pub diagnosed : (t : Text) (fs : List ModuleFault) (u : Bool) (es : List (ReportedFault × RcStr Global)) (ds : List FastCheckDiagnostic) →
    u ≡ list_any is_untyped fs → AreFaults (others fs) es → IsDistinct same_report (map fault_of es) →
    AllPairs (λ f g. place_of f ≤ place_of g) (map fault_of es) →
    map (fault_reported t) ds ≡ reported_with u (map (λ e. Some (fault_of e)) es) → AreDiagnosed t fs ds
diagnosed t fs u es ds v a once by_place e = by_parts t fs ds u es (others fs) refl v a once by_place e

-- that the types are not known, behind what else is reported

pub pushed : (u : Bool) (t : Text) (ds : List FastCheckDiagnostic) (d : FastCheckDiagnostic) → u ≡ true → ds ≡ [] →
    fault_reported t d ≡ Some untyped_module → map (fault_reported t) (ds ++ d ∷ []) ≡ reported_with u (map (fault_reported t) ds)
pushed u t [] d h n e = ap (λ o. o ∷ []) e ∙ sym (ap (λ b. cond b (Some untyped_module ∷ []) []) h)
pushed u t (x ∷ ds) d h n e = absurd (cons_is_not_nil x ds n)

pub whole_reported : (s : Parts) (f : ModuleFault) → cond (bytes_eq (serialize s) (serialize s)) (Some f) None ≡ Some f
whole_reported s f = ap (λ b. cond b (Some f) None) (nat_list_eq_equiv.refl (serialize s))
