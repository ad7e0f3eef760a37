-- What a demand yields is of its package.
use Rattle.std.proofs.Common.{◌≡◌, refl, List, [], ◌∷◌, ◌++◌, map, Option, Some, None}
use Rattle.std.specs.Prelude.{option_to_list}
use Rattle.std.specs.List.{flat_map}
use Rattle.url.specs.Parts.{Parts, serialize}
use Rattle.fast_check_tree_syntax.specs.declared.source.SourceRange.{SourceRange}
use Rattle.fast_check_tables_packages.specs.Package.{Nv}
use Rattle.fast_check_tables_cache.specs.Cache.{ItemView}
use Rattle.fast_check_finder_lattice.specs.Imports.{NameDemand}
use Rattle.fast_check_finder_demands.specs.symbol_demands.Demands.{Demand as SymbolDemand}
use Rattle.fast_check_finder_demands.specs.Yields.{ranges, implementations, Fault, faults}
use Rattle.fast_check_finder_demands.proofs.Each.{Each, each_nil, each_one, each_append, each_cons, each_map, each_flat}
use Rattle.fast_check_finder_demands.proofs.Each.{each_cond, each_each_of}
use Rattle.fast_check_finder_demands.specs.declared.re_exports.modules.GraphModule.{GraphModule}
use Rattle.fast_check_finder_demands.specs.re_exports.Modules.{own_tables}
use Rattle.fast_check_finder_demands.specs.re_exports.ReExports.{re_export_ranges}
use Rattle.fast_check_finder_demands.specs.asked.Demands.{Text, DemandSet, to_package, to_module, to_symbol, Demand, of_package, of_module, of_symbol}
use Rattle.fast_check_finder_ranges.specs.findings.Yields.{Yield, known_package, entry_point, refused_export, dependency}
use Rattle.fast_check_finder_ranges.specs.findings.Yields.{recorded, public, implementing, faulty, untyped_module, cached}
use Rattle.fast_check_finder_ranges.specs.findings.Findings.{faulty_module, entry_fault, placed_yield}
use Rattle.fast_check_finder_ranges.specs.findings.Faults.{placed}
use Rattle.fast_check_finder_ranges.specs.findings.Yields.{package_of as answered_of}
use Rattle.fast_check_finder_ranges.specs.entries.Entries.{Entrance, passed_over, refused, entered, all_faults}
use Rattle.fast_check_finder_demands.specs.facts.GraphFacts.{Known, module_at, untyped_at}
use Rattle.fast_check_finder_loop.specs.Account.{package_of}
use Rattle.fast_check_finder_loop.specs.Rules.{own_text, module_of, names_followers, symbol_followers, entrance_at}
use Rattle.fast_check_finder_loop.specs.Yields.{dependency_of, dependencies, public_at, implementing_at, names_yields, source_in}
use Rattle.fast_check_finder_loop.specs.Yields.{faults_at, fault_yields, symbol_yields, untyped_yields, entry_fault_yields, entered_yields}
use Rattle.fast_check_finder_loop.specs.Yields.{entry_yields, demand_yields}

module _ (nv : Nv) where
  abbrev pub IsOf : Yield → Type 0
  IsOf y = answered_of y ≡ nv

  of_dependencies : (ws : List DemandSet) → Each IsOf (dependencies nv ws)
  of_dependencies ws = each_flat IsOf (dependency_of nv) ws (λ w c. one w)
    where
      one : (w : DemandSet) → Each IsOf (dependency_of nv w)
      one (to_package p) = each_one IsOf (dependency nv p) refl
      one (to_module p t w) = each_nil IsOf
      one (to_symbol p t s) = each_nil IsOf

  module _ (k : Known) (m : GraphModule) where
    of_public : (found : List SourceRange) → Each IsOf (public_at nv m found)
    of_public found = each_map IsOf (public nv (own_text m)) found (λ r c. refl)

    of_names : (d : NameDemand) → Each IsOf (names_yields k nv d m)
    of_names d = each_cons IsOf (recorded nv (own_text m)) (public_at nv m (re_export_ranges m d) ++ dependencies nv (names_followers k nv d m)) refl
        (each_append IsOf (public_at nv m (re_export_ranges m d)) (dependencies nv (names_followers k nv d m)) (of_public (re_export_ranges m d))
        (of_dependencies (names_followers k nv d m)))

    of_faults : (found : List Fault) → Each IsOf (faults_at nv m found)
    of_faults found = each_flat IsOf (fault_yields nv m) found
        (λ f c. each_map IsOf (placed_yield nv (own_text m)) (option_to_list (placed (source_in m) f)) (λ p d. refl))

    of_symbols : (s : SymbolDemand) → Each IsOf (symbol_yields k nv s m)
    of_symbols s =
        let shown = ranges (own_tables m) s in
        let inner = implementations (own_tables m) s in
        let wrong = faults (own_tables m) s in
        let asked = dependencies nv (symbol_followers k nv s m) in
        each_append IsOf (public_at nv m shown) (implementing_at nv m inner ++ (faults_at nv m wrong ++ asked)) (of_public shown)
        (each_append IsOf (implementing_at nv m inner) (faults_at nv m wrong ++ asked)
        (each_map IsOf (implementing nv (own_text m)) inner (λ r c. refl))
        (each_append IsOf (faults_at nv m wrong) asked (of_faults wrong) (of_dependencies (symbol_followers k nv s m))))

  of_untyped : (k : Known) (t : Text) → Each IsOf (untyped_yields k.graph nv t)
  of_untyped k t = each_cond IsOf (untyped_at k.graph t) (faulty_module nv t untyped_module) []
      (each_cons IsOf (recorded nv t) (faulty nv t untyped_module ∷ []) refl (each_one IsOf (faulty nv t untyped_module) refl)) (each_nil IsOf)

  of_entered : (k : Known) (urls : List Parts) (item : Option ItemView) → Each IsOf (entered_yields k.graph nv urls item)
  of_entered k urls (Some item) = each_one IsOf (cached nv urls item) refl
  of_entered k urls None =
      let entries = map (λ url. entry_point nv (serialize url)) urls in
      let wrong = flat_map (entry_fault_yields nv) (all_faults k.graph urls) in
      each_cons IsOf (known_package nv) (entries ++ wrong) refl
      (each_append IsOf entries wrong (each_map IsOf (λ url. entry_point nv (serialize url)) urls (λ u c. refl))
      (each_flat IsOf (entry_fault_yields nv) (all_faults k.graph urls) (λ f c.
      let t = serialize f.0 in
      each_cons IsOf (recorded nv t) (faulty nv t (entry_fault f.1) ∷ []) refl (each_one IsOf (faulty nv t (entry_fault f.1)) refl))))

  of_entry : (k : Known) (e : Entrance) → Each IsOf (entry_yields k.graph k.used nv e)
  of_entry k passed_over = each_nil IsOf
  of_entry k (refused text) = each_one IsOf (refused_export nv text) refl
  of_entry k (entered urls) = of_entered k urls (k.used nv urls)

pub of_demand : (k : Known) (d : Demand) → Each (IsOf (package_of d)) (demand_yields k d)
of_demand k (of_package nv) = of_entry nv k (entrance_at k nv)
of_demand k (of_module nv t d) = each_append (IsOf nv) _ (untyped_yields k.graph nv t)
    (each_each_of (IsOf nv) (names_yields k nv d) (module_at k t) (λ m e. of_names nv k m d)) (of_untyped nv k t)
of_demand k (of_symbol nv t s) = each_each_of (IsOf nv) (symbol_yields k nv s) (module_of k t) (λ m e. of_symbols nv k m s)
