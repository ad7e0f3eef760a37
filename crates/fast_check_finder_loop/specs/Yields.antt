-- What a demand yields.
use Rattle.std.specs.Prelude.{ℕ, cond, List, [], ◌∷◌, ◌++◌, map, Option, Some, None, option_to_list}
use Rattle.std.specs.List.{flat_map}
use Rattle.std.specs.Rc.{rc_str_bytes}
use Rattle.url.specs.Parts.{Parts, serialize}
use Rattle.fast_check_tree_syntax.specs.declared.source.SourceRange.{SourceRange}
use Rattle.fast_check_tables_packages.specs.Package.{Nv}
use Rattle.fast_check_tables_cache.specs.Cache.{ItemView}
use Rattle.fast_check_finder_lattice.specs.Imports.{NameDemand}
use Rattle.fast_check_tables_graph.specs.declared.graph.ModuleGraph.{ModuleGraph}
use Rattle.fast_check_tables_graph.specs.declared.root_symbol.AnyModuleInfo.{AnyModuleInfo}
use Rattle.fast_check_tables_graph.specs.declared.root_symbol.AnyModuleInfo.TheVariants.{Esm, Json}
use Rattle.fast_check_tables_graph.specs.Root.{specifier_of}
use Rattle.fast_check_finder_demands.specs.symbol_demands.Demands.{Demand as SymbolDemand}
use Rattle.fast_check_finder_demands.specs.symbol_demands.Rules.{each_of}
use Rattle.fast_check_finder_demands.specs.Yields.{ranges, implementations, Fault, faults}
use Rattle.fast_check_finder_ranges.specs.findings.Faults.{FaultSource, placed}
use Rattle.fast_check_finder_demands.specs.declared.re_exports.modules.GraphModule.{GraphModule}
use Rattle.fast_check_finder_demands.specs.re_exports.Modules.{own_tables}
use Rattle.fast_check_finder_demands.specs.re_exports.ReExports.{re_export_ranges}
use Rattle.fast_check_finder_demands.specs.asked.Demands.{Text, DemandSet, to_package, to_module, to_symbol, Demand, of_package}
use Rattle.fast_check_finder_demands.specs.asked.Demands.{of_module, of_symbol}
use Rattle.fast_check_finder_ranges.specs.declared.findings.found.EntryFault.{EntryFault}
use Rattle.fast_check_finder_ranges.specs.findings.Yields.{Yield, known_package, entry_point, refused_export, dependency}
use Rattle.fast_check_finder_ranges.specs.findings.Yields.{recorded, public, implementing, untyped_module, cached}
use Rattle.fast_check_finder_ranges.specs.findings.Findings.{faulty_module, entry_fault, placed_yields}
use Rattle.fast_check_finder_ranges.specs.entries.Entries.{Entrance, passed_over, refused, entered, all_faults}
use Rattle.fast_check_finder_demands.specs.facts.GraphFacts.{Used, Known, module_at, untyped_at}
use Rattle.fast_check_finder_loop.specs.Rules.{own_text, module_of, names_followers, symbol_followers, entrance_at}

-- a package that is asked for is a dependency
abbrev pub dependency_of : Nv → DemandSet → List Yield
dependency_of nv (to_package p) = dependency nv p ∷ []
dependency_of nv (to_module p t w) = []
dependency_of nv (to_symbol p t s) = []

abbrev pub dependencies : Nv → List DemandSet → List Yield
dependencies nv demand_sets = flat_map (dependency_of nv) demand_sets

abbrev pub public_at : Nv → GraphModule → List SourceRange → List Yield
public_at nv m found = map (public nv (own_text m)) found

abbrev pub implementing_at : Nv → GraphModule → List SourceRange → List Yield
implementing_at nv m found = map (implementing nv (own_text m)) found

abbrev pub names_yields : Known → Nv → NameDemand → GraphModule → List Yield
names_yields k nv d m = recorded nv (own_text m) ∷ (public_at nv m (re_export_ranges m d) ++ dependencies nv
    (names_followers k nv d m))

-- the source text of a module; one of JSON has none
abbrev pub text_of : AnyModuleInfo → List ℕ
text_of (Esm info) = rc_str_bytes info.source.text
text_of (Json info) = []

abbrev pub source_with : GraphModule → List ℕ → FaultSource
source_with m text = record { specifier = specifier_of m.info.now; text = text; symbols = (own_tables m).symbols }

abbrev pub source_in : GraphModule → FaultSource
source_in m = source_with m (text_of m.info.now)

-- a fault of a demand at its place, if its symbol has one
abbrev pub fault_yields : Nv → GraphModule → Fault → List Yield
fault_yields nv m f = placed_yields nv (own_text m) (option_to_list (placed (source_in m) f))

abbrev pub faults_at : Nv → GraphModule → List Fault → List Yield
faults_at nv m found = flat_map (fault_yields nv m) found

abbrev pub symbol_yields : Known → Nv → SymbolDemand → GraphModule → List Yield
symbol_yields k nv s m =
    public_at nv m (ranges (own_tables m) s)
    ++ (implementing_at nv m (implementations (own_tables m) s)
    ++ (faults_at nv m (faults (own_tables m) s)
    ++ dependencies nv (symbol_followers k nv s m)))

-- an untyped module is recorded under the name by which it was asked for
abbrev pub untyped_yields : ModuleGraph → Nv → Text → List Yield
untyped_yields g nv t = cond (untyped_at g t) (faulty_module nv t untyped_module) []

abbrev pub entry_fault_yields : Nv → Parts × EntryFault → List Yield
entry_fault_yields nv f = faulty_module nv (serialize f.0) (entry_fault f.1)

-- a package whose item is used gives the item, and nothing of its entry points
abbrev pub entered_yields : ModuleGraph → Nv → List Parts → Option ItemView → List Yield
entered_yields g nv urls (Some item) = cached nv urls item ∷ []
entered_yields g nv urls None =
    known_package nv ∷
    (map (λ url. entry_point nv (serialize url)) urls ++ flat_map (entry_fault_yields nv) (all_faults g urls))

abbrev pub entry_yields : ModuleGraph → Used → Nv → Entrance → List Yield
entry_yields g used nv passed_over = []
entry_yields g used nv (refused text) = refused_export nv text ∷ []
entry_yields g used nv (entered urls) = entered_yields g nv urls (used nv urls)

abbrev pub demand_yields : Known → Demand → List Yield
demand_yields k (of_package nv) = entry_yields k.graph k.used nv (entrance_at k nv)
demand_yields k (of_module nv t d) = each_of (names_yields k nv d) (module_at k t) ++ untyped_yields k.graph nv t
demand_yields k (of_symbol nv t s) = each_of (symbol_yields k nv s) (module_of k t)
