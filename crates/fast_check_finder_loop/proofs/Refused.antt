-- Packages with a text that does not join: the loop stops at one, and an answer has none.
use Rattle.std.proofs.Common.{◌≡◌, ◌∙◌, sym, ap, refl, subst, ℕ, ◌<◌, List, [], ◌∷◌, map, length, get_or, Option, Some, None, Result, Ok, Err, IsErrAnd, MatchResult, arith}
use Rattle.std.specs.Prelude.{option_to_list, slice_get}
use Rattle.std.specs.List.{Contains, flat_map}
use Rattle.std.proofs.lemmas.List.{length-map, get_or-map}
use Rattle.std.proofs.lemmas.List.Elements.{Contains-get_or}
use Rattle.url.specs.Parts.{serialize}
use Rattle.fast_check_tables_packages.specs.declared.package.PackageNv.{PackageNv}
use Rattle.fast_check_tables_packages.specs.Package.{Nv, nv_of}
use Rattle.fast_check_tables_packages.specs.declared.fault.BuildFault.{BuildFault}
use Rattle.fast_check_tables_packages.specs.declared.fault.BuildFault.TheVariants.{InvalidExport, OutOfMemory}
use Rattle.fast_check_tables_cache.specs.Cache.{item_of}
use Rattle.fast_check_finder_ranges.specs.declared.findings.found.Entrance.{Entrance as FoundEntrance}
use Rattle.fast_check_finder_ranges.specs.declared.findings.found.Entrance.TheVariants.{Entered, Cached}
use Rattle.fast_check_finder_ranges.specs.declared.findings.found.FoundModule.{FoundModule}
use Rattle.fast_check_finder_ranges.specs.declared.findings.found.FoundPackage.{FoundPackage}
use Rattle.fast_check_finder_ranges.specs.findings.Faults.{placed_seen}
use Rattle.fast_check_finder_ranges.specs.findings.Yields.{ModuleFault, Yield, known_package, entry_point, refused_export, dependency, recorded, public}
use Rattle.fast_check_finder_ranges.specs.findings.Yields.{implementing, faulty, untyped_module, cached}
use Rattle.fast_check_finder_ranges.specs.findings.Findings.{faulty_module, entry_fault, placed_yield, placed_yields}
use Rattle.fast_check_finder_ranges.specs.findings.Found.{source_in, own_text, module_yields, entry_fault_yields, entrance_yields, dependency_yields}
use Rattle.fast_check_finder_ranges.specs.findings.Found.{untyped_yields, package_yields, found_yields}
use Rattle.fast_check_finder_ranges.specs.entries.Entries.{Entrance, passed_over, refused, entered, DiagnosesRefused}
use Rattle.fast_check_finder_demands.specs.asked.Demands.{Text, of_package}
use Rattle.fast_check_finder_demands.specs.facts.GraphFacts.{Known}
use Rattle.fast_check_finder_demands.proofs.Each.{Each, each_nil, each_one, each_append, each_cons, each_map, each_flat}
use Rattle.fast_check_finder_demands.proofs.asked.Maps.{first_in}
use Rattle.fast_check_finder_loop.specs.Account.{Account, Chained, IsYield}
use Rattle.fast_check_finder_loop.specs.Rules.{entrance_at, followers}
use Rattle.fast_check_finder_loop.specs.Yields.{entry_yields, demand_yields}
use Rattle.fast_check_finder_loop.specs.Refusals.{IsRefusal, IsNotRefused, JoinAll, NotRefusedYield, IsRefusedOf}

-- what is found tells of no text that does not join

faulty_joins : (p : Nv) (t : Text) (f : ModuleFault) → Each NotRefusedYield (faulty_module p t f)
faulty_joins p t f = each_cons NotRefusedYield (recorded p t) (faulty p t f ∷ []) tt (each_one NotRefusedYield (faulty p t f) tt)

entrance_joins : (p : Nv) (e : Option FoundEntrance) → Each NotRefusedYield (entrance_yields p e)
entrance_joins p None = each_nil NotRefusedYield
entrance_joins p (Some (Cached urls item)) = each_one NotRefusedYield (cached p urls.value.keys (item_of item)) tt
entrance_joins p (Some (Entered urls faults)) = each_cons NotRefusedYield (known_package p) _ tt
    (each_append NotRefusedYield (map (λ url. entry_point p (serialize url)) urls.value.keys) (flat_map (entry_fault_yields p) faults.items)
    (each_map NotRefusedYield (λ url. entry_point p (serialize url)) urls.value.keys (λ url c. tt))
    (each_flat NotRefusedYield (entry_fault_yields p) faults.items (λ x c. faulty_joins p (serialize x.0) (entry_fault x.1))))

module_joins : (p : Nv) (m : FoundModule) → Each NotRefusedYield (module_yields p m)
module_joins p m =
    let t = own_text m in
    let faults = flat_map (placed_seen (source_in m.info.now)) m.faults.items in
    each_cons NotRefusedYield (recorded p t) _ tt
    (each_append NotRefusedYield (map (public p t) m.ranges.items) _
    (each_map NotRefusedYield (public p t) m.ranges.items (λ r c. tt))
    (each_append NotRefusedYield (map (implementing p t) m.implementations.items) (placed_yields p t faults)
    (each_map NotRefusedYield (implementing p t) m.implementations.items (λ r c. tt))
    (each_map NotRefusedYield (placed_yield p t) faults (λ f c. tt))))

package_joins : (packages : List Nv) (p : Nv) (f : FoundPackage) → Each NotRefusedYield (package_yields packages p f)
package_joins packages p f =
    each_append NotRefusedYield (entrance_yields p f.entrance) _ (entrance_joins p f.entrance)
    (each_append NotRefusedYield (flat_map (dependency_yields packages p) f.dependencies.items) _
    (each_flat NotRefusedYield (dependency_yields packages p) f.dependencies.items
    (λ place c. each_map NotRefusedYield (dependency p) (option_to_list (slice_get packages place)) (λ q i. tt)))
    (each_append NotRefusedYield (flat_map (module_yields p) f.modules.items) (flat_map (untyped_yields p) f.untyped.items)
    (each_flat NotRefusedYield (module_yields p) f.modules.items (λ m c. module_joins p m))
    (each_flat NotRefusedYield (untyped_yields p) f.untyped.items (λ url c. faulty_joins p (serialize url) untyped_module))))

pub found_join : (found : List (PackageNv × FoundPackage)) → Each NotRefusedYield (found_yields found)
found_join found = each_flat NotRefusedYield (λ e. package_yields (map (λ x. nv_of x.0) found) (nv_of e.0) e.1) found
    (λ e c. package_joins (map (λ x. nv_of x.0) found) (nv_of e.0) e.1)

pub all_join : (k : Known) (account : Account) (found : List Yield) → Each NotRefusedYield found → IsYield (demand_yields k) account found →
    JoinAll k account
all_join k account found joins y nv c = go (entrance_at k nv) refl
  where
    go : (e : Entrance) → entrance_at k nv ≡ e → IsNotRefused e
    go passed_over e = tt
    go (entered urls) e = tt
    go (refused text) e =
        joins (refused_export nv text)
        (y.complete (of_package nv) (refused_export nv text) c
        (subst (λ (x : Entrance). Contains (entry_yields k.graph k.used nv x) (refused_export nv text)) (sym e)
        (first_in (refused_export nv text) [])))

-- the package that stops the loop is one of those that were asked for
pub refused_of : (k : Known) (packages : List PackageNv) (i : ℕ) (p : PackageNv) (nv : Nv) → i < length packages → p ≡ get_or packages i p →
    nv ≡ nv_of p → (f : BuildFault) → DiagnosesRefused nv (entrance_at k nv) f → IsRefusedOf k (map nv_of packages) f
refused_of k packages i p nv le is e OutOfMemory t = tt
refused_of k packages i p nv le is e (InvalidExport q text) t = (
  subst (λ (x : Nv). Contains (map nv_of packages) x) (sym (t.0 ∙ (e ∙ ap nv_of is)))
      (subst (λ (x : Nv). Contains (map nv_of packages) x) (get_or-map nv_of packages i p (nv_of p) le)
      (Contains-get_or (map nv_of packages) i (nv_of p) (omega (arith, le, length-map packages nv_of)))),
  ap (entrance_at k) t.0 ∙ t.1,
)

-- and so is demanded
pub refusal : (k : Known) (roots packages : List Nv) → ((p : Nv) → Contains packages p → Chained (followers k) roots (of_package p)) →
    (f : BuildFault) →
    IsRefusedOf k packages f → IsRefusal k roots f
refusal k roots packages chained OutOfMemory t = tt
refusal k roots packages chained (InvalidExport p text) t = (chained (nv_of p) t.0, t.1)

-- `?` passes it on as it is
pub refused_on : {T E : Type 0} (r : Result T E) (e : E) (P : T → Type 0) (Q : E → Type 0) → IsErrAnd r (λ y. y ≡ e) → Q e → MatchResult r P Q
refused_on (Ok x) e P Q is q = absurd is
refused_on (Err y) e P Q is q = subst Q (sym is) q
