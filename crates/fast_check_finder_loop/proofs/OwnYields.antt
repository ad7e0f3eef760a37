-- What a demand makes public in a module is declared in it.
use Rattle.std.proofs.Common.{◌≡◌, sym, ap, refl, subst, Bool, true, false, cond, List, [], ◌∷◌, ◌++◌, map, Option, Some, None}
use Rattle.std.specs.Prelude.{option_map, option_to_list}
use Rattle.std.specs.List.{Contains, flat_map}
use Rattle.std.specs.Map.{lookup}
use Rattle.std.specs.Option.{option_and_then, option_or}
use Rattle.url.specs.Parts.{Parts, serialize}
use Rattle.fast_check_tree_syntax.specs.declared.source.SourceRange.{SourceRange}
use Rattle.fast_check_tables_symbols.specs.Tables.{table_ranges}
use Rattle.fast_check_tables_packages.specs.Package.{Nv}
use Rattle.fast_check_tables_cache.specs.Cache.{ItemView}
use Rattle.fast_check_finder_lattice.specs.Imports.{NameDemand}
use Rattle.fast_check_tables_graph.specs.declared.module.Module.{Module}
use Rattle.fast_check_tables_graph.specs.declared.root_symbol.AnyModuleInfo.{AnyModuleInfo}
use Rattle.fast_check_tables_graph.specs.Modules.{is_typed_module}
use Rattle.fast_check_tables_graph.specs.Graph.{is_specifier}
use Rattle.fast_check_tables_graph.specs.Root.{specifier_of, module_named, AreFoundByOwnNames}
use Rattle.fast_check_finder_demands.specs.symbol_demands.Demands.{Demand as SymbolDemand}
use Rattle.fast_check_finder_demands.specs.symbol_demands.Rules.{each_of}
use Rattle.fast_check_finder_demands.specs.Yields.{ranges, implementations, Fault, faults, AreTableRanges}
use Rattle.fast_check_finder_demands.proofs.Own.{own_ranges, own_implementations}
use Rattle.fast_check_finder_ranges.specs.findings.Faults.{PlacedFault, placed}
use Rattle.fast_check_finder_demands.specs.declared.re_exports.modules.GraphModule.{GraphModule}
use Rattle.fast_check_finder_demands.specs.re_exports.Modules.{own_tables}
use Rattle.fast_check_finder_demands.specs.re_exports.ReExports.{re_export_ranges}
use Rattle.fast_check_finder_demands.proofs.re_exports.OwnRanges.{own_demand}
use Rattle.fast_check_finder_demands.specs.asked.Demands.{Text, DemandSet, to_package, to_module, to_symbol, Demand, of_package, of_module, of_symbol}
use Rattle.fast_check_finder_ranges.specs.findings.Yields.{Yield, known_package, entry_point, refused_export, dependency, public, implementing}
use Rattle.fast_check_finder_ranges.specs.findings.Yields.{ModuleFault, recorded, faulty, untyped_module, cached}
use Rattle.fast_check_finder_ranges.specs.findings.Findings.{faulty_module, entry_fault, placed_yield, placed_yields}
use Rattle.fast_check_finder_ranges.specs.entries.Entries.{Entrance, passed_over, refused, entered, all_faults}
use Rattle.fast_check_finder_demands.specs.facts.GraphFacts.{Known, is_text, node_at, named_at, traced_as, typed_info, info_at, module_at, untyped_at}
use Rattle.fast_check_finder_loop.specs.Rules.{own_text, module_of, names_followers, symbol_followers, entrance_at}
use Rattle.fast_check_finder_loop.specs.Yields.{dependency_of, dependencies, public_at, implementing_at, names_yields, source_in}
use Rattle.fast_check_finder_loop.specs.Yields.{faults_at, fault_yields, symbol_yields, untyped_yields, entry_fault_yields, entered_yields}
use Rattle.fast_check_finder_loop.specs.Yields.{entry_yields, demand_yields}
use Rattle.fast_check_finder_loop.specs.Own.{IsOwnRange, IsOwnYield}
use Rattle.fast_check_finder_demands.proofs.Each.{Each, each_nil, each_one, each_append, each_cons, each_map, each_flat}
use Rattle.fast_check_finder_demands.proofs.Each.{each_cond, each_each_of}
use Rattle.fast_check_finder_demands.proofs.asked.Maps.{found_in}
use Rattle.fast_check_finder_loop.specs.Account.{Account, IsYield}

module _ (k : Known) (found : AreFoundByOwnNames k.root_symbol) where
  abbrev Q : Yield → Type 0
  Q = IsOwnYield k.root_symbol

  -- a module that is followed is found by its own name
  abbrev IsFoundByName : AnyModuleInfo → Type 0
  IsFoundByName info = named_at k.root_symbol (serialize (specifier_of info)) ≡ Some info

  from_entries : (test : Parts → Bool) (info : AnyModuleInfo) → lookup test k.root_symbol.modules.entries ≡ Some info → IsFoundByName info
  from_entries test info e = let w = found_in test k.root_symbol.modules.entries info e in found (w.0, info) w.1

  from_either : (a b : Option AnyModuleInfo) (info : AnyModuleInfo) → (a ≡ Some info → IsFoundByName info) →
      (b ≡ Some info → IsFoundByName info) →
      option_or a b ≡ Some info → IsFoundByName info
  from_either (Some x) b info f g e = f e
  from_either None b info f g e = g e

  no_module : {X : Type 0} (x : X) → None ≡ Some x → ⊥
  no_module x e = cc

  from_alias : (o : Option Parts) (info : AnyModuleInfo) → option_and_then (module_named k.root_symbol.modules.entries) o ≡ Some info →
      IsFoundByName info
  from_alias None info e = absurd (no_module info e)
  from_alias (Some url) info e = from_entries (is_specifier url) info e

  from_name : (t : Text) (info : AnyModuleInfo) → named_at k.root_symbol t ≡ Some info → IsFoundByName info
  from_name t info e = from_either (lookup (is_text t) k.root_symbol.modules.entries)
      (option_and_then (module_named k.root_symbol.modules.entries) (lookup (is_text t) k.root_symbol.aliases.entries)) info
      (from_entries (is_text t) info) (from_alias (lookup (is_text t) k.root_symbol.aliases.entries) info) e

  from_typed : (b : Bool) (t : Text) (info : AnyModuleInfo) → cond b (named_at k.root_symbol t) None ≡ Some info → IsFoundByName info
  from_typed true t info e = from_name t info e
  from_typed false t info e = absurd (no_module info e)

  from_node : (o : Option Module) (t : Text) (info : AnyModuleInfo) → option_and_then (typed_info k.root_symbol t) o ≡ Some info →
      IsFoundByName info
  from_node None t info e = absurd (no_module info e)
  from_node (Some m) t info e = from_typed (is_typed_module m) t info e

  abbrev IsFollowed : GraphModule → Type 0
  IsFollowed m = named_at k.root_symbol (own_text m) ≡ Some m.info.now

  from_traced : (o : Option AnyModuleInfo) (m : GraphModule) → ((info : AnyModuleInfo) → o ≡ Some info → IsFoundByName info) →
      option_map (traced_as k) o ≡ Some m → IsFollowed m
  from_traced None m f e = absurd (no_module m e)
  from_traced (Some info) m f e = subst (λ (x : GraphModule). IsFollowed x) (same (traced_as k info) m e) (f info refl)
    where
      same : (a b : GraphModule) → Some a ≡ Some b → a ≡ b
      same a b h = cc

  followed : (t : Text) (m : GraphModule) → module_at k t ≡ Some m → IsFollowed m
  followed t m e = from_traced (info_at k.graph k.root_symbol t) m (λ info h. from_node (node_at k.graph t) t info h) e

  named : (t : Text) (m : GraphModule) → module_of k t ≡ Some m → IsFollowed m
  named t m e = from_traced (named_at k.root_symbol t) m (λ info h. from_name t info h) e

  pub named_own : (t : Text) (info : AnyModuleInfo) → info_at k.graph k.root_symbol t ≡ Some info → IsFoundByName info
  named_own t info e = from_node (node_at k.graph t) t info e

  pub own_module : (t : Text) (info : AnyModuleInfo) → info_at k.graph k.root_symbol t ≡ Some info →
      module_of k (own_text (traced_as k info)) ≡ Some (traced_as k info)
  own_module t info e = ap (option_map (traced_as k)) (named_own t info e)

  -- what of a module is public

  own_at : (m : GraphModule) → IsFollowed m → (r : SourceRange) →
      Contains (table_ranges (own_tables m).symbols (own_tables m).re_exports) r →
      IsOwnRange (named_at k.root_symbol (own_text m)) r
  own_at m h r c = subst (λ (o : Option AnyModuleInfo). IsOwnRange o r) (sym h) c

  publics : (nv : Nv) (m : GraphModule) → IsFollowed m → (rs : List SourceRange) → AreTableRanges (own_tables m) rs →
      Each Q (public_at nv m rs)
  publics nv m h rs own = each_map Q (public nv (own_text m)) rs (λ r c. own_at m h r (own r c))

  implementings : (nv : Nv) (m : GraphModule) → IsFollowed m → (rs : List SourceRange) → AreTableRanges (own_tables m) rs →
      Each Q (implementing_at nv m rs)
  implementings nv m h rs own = each_map Q (implementing nv (own_text m)) rs (λ r c. own_at m h r (own r c))

  -- what else is given

  one_dependency : (nv : Nv) (w : DemandSet) → Each Q (dependency_of nv w)
  one_dependency nv (to_package p) = each_one Q (dependency nv p) tt
  one_dependency nv (to_module p t w) = each_nil Q
  one_dependency nv (to_symbol p t s) = each_nil Q

  all_dependencies : (nv : Nv) (demand_sets : List DemandSet) → Each Q (dependencies nv demand_sets)
  all_dependencies nv demand_sets = each_flat Q (dependency_of nv) demand_sets (λ w _. one_dependency nv w)

  all_placed : (nv : Nv) (t : Text) (fs : List PlacedFault) → Each Q (placed_yields nv t fs)
  all_placed nv t fs = each_map Q (placed_yield nv t) fs (λ f c. tt)

  all_faults_placed : (nv : Nv) (m : GraphModule) (fs : List Fault) → Each Q (faults_at nv m fs)
  all_faults_placed nv m fs = each_flat Q (fault_yields nv m) fs
      (λ f _. all_placed nv (own_text m) (option_to_list (placed (source_in m) f)))

  one_faulty : (nv : Nv) (t : Text) (f : ModuleFault) → Each Q (faulty_module nv t f)
  one_faulty nv t f = each_cons Q (recorded nv t) (faulty nv t f ∷ []) tt (each_one Q (faulty nv t f) tt)

  -- by demands

  of_names : (nv : Nv) (d : NameDemand) (m : GraphModule) → IsFollowed m → Each Q (names_yields k nv d m)
  of_names nv d m h =
      each_cons Q (recorded nv (own_text m)) (public_at nv m (re_export_ranges m d) ++ dependencies nv (names_followers k nv d m)) tt
      (each_append Q (public_at nv m (re_export_ranges m d)) (dependencies nv (names_followers k nv d m))
      (publics nv m h (re_export_ranges m d) (own_demand m d)) (all_dependencies nv (names_followers k nv d m)))

  of_symbols : (nv : Nv) (s : SymbolDemand) (m : GraphModule) → IsFollowed m → Each Q (symbol_yields k nv s m)
  of_symbols nv s m h =
      let publics_of = public_at nv m (ranges (own_tables m) s) in
      let implementing_of = implementing_at nv m (implementations (own_tables m) s) in
      let faults_of = faults_at nv m (faults (own_tables m) s) in
      let depends = dependencies nv (symbol_followers k nv s m) in
      each_append Q publics_of (implementing_of ++ (faults_of ++ depends))
      (publics nv m h (ranges (own_tables m) s) (own_ranges (own_tables m) s))
      (each_append Q implementing_of (faults_of ++ depends)
      (implementings nv m h (implementations (own_tables m) s) (own_implementations (own_tables m) s))
      (each_append Q faults_of depends (all_faults_placed nv m (faults (own_tables m) s)) (all_dependencies nv (symbol_followers k nv s m))))

  of_entered : (nv : Nv) (urls : List Parts) (item : Option ItemView) → Each Q (entered_yields k.graph nv urls item)
  of_entered nv urls (Some item) = each_one Q (cached nv urls item) tt
  of_entered nv urls None = each_cons Q (known_package nv) _ tt
      (each_append Q (map (λ url. entry_point nv (serialize url)) urls) (flat_map (entry_fault_yields nv) (all_faults k.graph urls))
      (each_map Q (λ url. entry_point nv (serialize url)) urls (λ url _. tt))
      (each_flat Q (entry_fault_yields nv) (all_faults k.graph urls) (λ f _. one_faulty nv (serialize f.0) (entry_fault f.1))))

  of_entrance : (nv : Nv) (e : Entrance) → Each Q (entry_yields k.graph k.used nv e)
  of_entrance nv passed_over = each_nil Q
  of_entrance nv (refused text) = each_one Q (refused_export nv text) tt
  of_entrance nv (entered urls) = of_entered nv urls (k.used nv urls)

  pub own_yields : (d : Demand) → Each Q (demand_yields k d)
  own_yields (of_package nv) = of_entrance nv (entrance_at k nv)
  own_yields (of_module nv t d) = each_append Q (each_of (names_yields k nv d) (module_at k t)) (untyped_yields k.graph nv t)
      (each_each_of Q (names_yields k nv d) (module_at k t) (λ m e. of_names nv d m (followed t m e)))
      (each_cond Q (untyped_at k.graph t) (faulty_module nv t untyped_module) [] (one_faulty nv t untyped_module) (each_nil Q))
  own_yields (of_symbol nv t s) = each_each_of Q (symbol_yields k nv s) (module_of k t) (λ m e. of_symbols nv s m (named t m e))

  -- and so is what was found
  pub own : (account : Account) (yields : List Yield) → IsYield (demand_yields k) account yields → Each Q yields
  own account yields of_account y c = let s = of_account.sound y c in own_yields s.0 y s.2
