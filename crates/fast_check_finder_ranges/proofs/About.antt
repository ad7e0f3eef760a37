-- Which packages and modules what is found is about.
use Rattle.std.proofs.Common.{◌≡◌, ◌∙◌, refl, sym, ap, false, cond, List, [], ◌∷◌, map}
use Rattle.std.specs.List.{list_any, flat_map, AllByRecursion}
use Rattle.std.specs.Str.{bytes_eq}
use Rattle.std.specs.Prelude.{Option, Some, None, option_to_list, slice_get}
use Rattle.url.specs.Parts.{Parts, serialize}
use Rattle.fast_check_tables_packages.specs.Package.{Nv}
use Rattle.fast_check_tables_packages.proofs.Found.{or_none}
use Rattle.fast_check_tables_graph.specs.ModuleNames.{specifier_of}
use Rattle.fast_check_finder_demands.specs.asked.Demands.{Text, same_nv}
use Rattle.fast_check_finder_ranges.specs.findings.Faults.{placed_seen}
use Rattle.fast_check_finder_ranges.specs.findings.Findings.{faulty_module, placed_yield}
use Rattle.fast_check_finder_ranges.specs.findings.Found.{source_in, own_text, module_yields, entry_fault_yields, entrance_yields}
use Rattle.fast_check_finder_ranges.specs.findings.Found.{dependency_yields, untyped_yields, package_yields}
use Rattle.fast_check_finder_ranges.specs.findings.Yields.{ModuleFault, Yield, entry_point, dependency, public}
use Rattle.fast_check_finder_ranges.specs.findings.Yields.{implementing}
use Rattle.fast_check_finder_ranges.specs.declared.findings.found.Entrance.{Entrance}
use Rattle.fast_check_finder_ranges.specs.declared.findings.found.Entrance.TheVariants.{Entered, Cached}
use Rattle.fast_check_finder_ranges.specs.declared.findings.found.FoundModule.{FoundModule}
use Rattle.fast_check_finder_ranges.specs.declared.findings.found.FoundPackage.{FoundPackage}
use Rattle.fast_check_finder_ranges.proofs.findings.Collected.{all_weaker}
use Rattle.fast_check_finder_ranges.specs.Answers.{package_of, modules_of, about, about_module}
use Rattle.fast_check_finder_ranges.specs.Parts.{is_text}
use Rattle.fast_check_finder_ranges.proofs.Lists.{all_append, all_map, all_flat, filter_const}

-- each of these is about this module
abbrev pub AreOf : Parts → List Yield → Type 0
AreOf url ys = AllByRecursion (λ y. modules_of y ≡ serialize url ∷ []) ys

pub of_module : (t : Text) (url : Parts) (ys : List Yield) → AreOf url ys → about_module t ys ≡ cond (is_text t url) ys []
of_module t url ys a = filter_const (λ y. list_any (bytes_eq t) (modules_of y)) (is_text t url) ys
    (all_weaker (λ y. modules_of y ≡ serialize url ∷ []) (λ y. list_any (bytes_eq t) (modules_of y) ≡ is_text t url)
    (λ y e. ap (list_any (bytes_eq t)) e ∙ or_none (is_text t url)) ys a)

pub of_none : (t : Text) (ys : List Yield) → AllByRecursion (λ y. modules_of y ≡ []) ys → about_module t ys ≡ []
of_none t ys a = filter_const (λ y. list_any (bytes_eq t) (modules_of y)) false ys
    (all_weaker (λ y. modules_of y ≡ []) (λ y. list_any (bytes_eq t) (modules_of y) ≡ false) (λ y e. ap (list_any (bytes_eq t)) e) ys a)

pub followed_of : (nv : Nv) (m : FoundModule) (url : Parts) → url ≡ specifier_of m.info.now → AreOf url (module_yields nv m)
followed_of nv m url e =
    let P : Yield → Type 0 = λ y. modules_of y ≡ serialize url ∷ [] in
    let at : own_text m ∷ [] ≡ serialize url ∷ [] = ap (λ u. serialize u ∷ []) (sym e) in (
      at,
      all_append P (map (public nv (own_text m)) m.ranges.items) _ (all_map P (public nv (own_text m)) (λ r. at) m.ranges.items)
          (all_append P (map (implementing nv (own_text m)) m.implementations.items) _
          (all_map P (implementing nv (own_text m)) (λ r. at) m.implementations.items)
          (all_map P (placed_yield nv (own_text m)) (λ f. at) (flat_map (placed_seen (source_in m.info.now)) m.faults.items))),
    )

pub faulty_of : (nv : Nv) (url : Parts) (f : ModuleFault) → AreOf url (faulty_module nv (serialize url) f)
faulty_of nv url f = (refl, (refl, tt))

-- what is found of a package is about it

module _ (packages : List Nv) (nv : Nv) where
  abbrev Own : Yield → Type 0
  Own y = package_of y ≡ nv

  own_entrance : (e : Option Entrance) → AllByRecursion Own (entrance_yields nv e)
  own_entrance None = tt
  own_entrance (Some (Entered entry_points faults)) = (
    refl,
    all_append Own (map (λ url. entry_point nv (serialize url)) entry_points.value.keys) _
        (all_map Own (λ url. entry_point nv (serialize url)) (λ x. refl) entry_points.value.keys)
        (all_flat Own (entry_fault_yields nv) (λ f. (refl, (refl, tt))) faults.items),
  )
  own_entrance (Some (Cached entry_points item)) = (refl, tt)

  own_module : (m : FoundModule) → AllByRecursion Own (module_yields nv m)
  own_module m = (
    refl,
    all_append Own (map (public nv (own_text m)) m.ranges.items) _ (all_map Own (public nv (own_text m)) (λ r. refl) m.ranges.items)
        (all_append Own (map (implementing nv (own_text m)) m.implementations.items) _
        (all_map Own (implementing nv (own_text m)) (λ r. refl) m.implementations.items)
        (all_map Own (placed_yield nv (own_text m)) (λ f. refl) (flat_map (placed_seen (source_in m.info.now)) m.faults.items))),
  )

  own_package : (p : FoundPackage) → AllByRecursion Own (package_yields packages nv p)
  own_package p = all_append Own (entrance_yields nv p.entrance) _ (own_entrance p.entrance)
      (all_append Own (flat_map (dependency_yields packages nv) p.dependencies.items) _
      (all_flat Own (dependency_yields packages nv)
      (λ place. all_map Own (dependency nv) (λ d. refl) (option_to_list (slice_get packages place))) p.dependencies.items)
      (all_append Own (flat_map (module_yields nv) p.modules.items) _
      (all_flat Own (module_yields nv) own_module p.modules.items)
      (all_flat Own (untyped_yields nv) (λ u. (refl, (refl, tt))) p.untyped.items)))

  pub of_package : (q : Nv) (p : FoundPackage) → about q (package_yields packages nv p) ≡ cond (same_nv q nv) (package_yields packages nv p) []
  of_package q p = filter_const (λ y. same_nv q (package_of y)) (same_nv q nv) (package_yields packages nv p)
      (all_weaker Own (λ y. same_nv q (package_of y) ≡ same_nv q nv) (λ y e. ap (same_nv q) e) (package_yields packages nv p) (own_package p))
