-- What a demand names: demands of symbols, and of packages and modules.
use Rattle.std.specs.Prelude.{List, [], ◌∷◌, ◌++◌, map, Option, Some, None, option_map}
use Rattle.std.specs.List.{flat_map}
use Rattle.url.specs.Parts.{Parts, serialize}
use Rattle.fast_check_tables_graph.specs.Root.{specifier_of}
use Rattle.fast_check_tables_packages.specs.Package.{Nv}
use Rattle.fast_check_tables_cache.specs.Cache.{ItemView}
use Rattle.fast_check_finder_lattice.specs.Imports.{NameDemand, each_name}
use Rattle.fast_check_tables_graph.specs.declared.graph.ModuleGraph.{ModuleGraph}
use Rattle.fast_check_finder_demands.specs.symbol_demands.Demands.{Demand as SymbolDemand}
use Rattle.fast_check_finder_demands.specs.symbol_demands.Rules.{each_of, names}
use Rattle.fast_check_finder_demands.specs.name_demands.Files.{files}
use Rattle.fast_check_finder_demands.specs.declared.re_exports.modules.GraphModule.{GraphModule}
use Rattle.fast_check_finder_demands.specs.re_exports.Modules.{own_tables}
use Rattle.fast_check_finder_demands.specs.re_exports.Roots.{roots}
use Rattle.fast_check_finder_demands.specs.re_exports.ReExports.{module_followers}
use Rattle.fast_check_finder_ranges.specs.declared.findings.found.EntryFault.{EntryFault}
use Rattle.fast_check_finder_ranges.specs.entries.Entries.{Entrance, passed_over, refused, entered, all_faults, entrance_of}
use Rattle.fast_check_finder_demands.specs.asked.Demands.{Text, asked_by, DemandSet, to_package, to_module, to_symbol, of_package}
use Rattle.fast_check_finder_demands.specs.asked.Demands.{of_module, of_symbol, Followers}
use Rattle.fast_check_finder_demands.specs.facts.GraphFacts.{Used, Known, named_at, traced_as, module_at}
use Rattle.fast_check_finder_demands.specs.facts.Followers.{file_followers, re_export_followers}

-- the module's own name
abbrev pub own_text : GraphModule → Text
own_text m = serialize (specifier_of m.info.now)

-- the module that goes by this name
abbrev pub module_of : Known → Text → Option GraphModule
module_of k t = option_map (traced_as k) (named_at k.root_symbol t)

-- names of a module, for a package. Demands of its symbols go by its own name, whatever it was asked for under
abbrev pub names_followers : Known → Nv → NameDemand → GraphModule → List DemandSet
names_followers k nv d m = map (to_symbol nv (own_text m)) (roots (own_tables m) d) ++ flat_map (re_export_followers k nv m)
    (module_followers m d)

-- a demand of a symbol of the module
abbrev pub symbol_followers : Known → Nv → SymbolDemand → GraphModule → List DemandSet
symbol_followers k nv s m = map (to_symbol nv (own_text m)) (names (own_tables m) s) ++ flat_map (file_followers k nv m)
    (files (own_tables m) s)

-- all names of an entry point
abbrev pub entry_demands : Nv → Parts → DemandSet
entry_demands nv url = to_module nv (serialize url) (asked_by each_name)

abbrev pub unless_faulty : List (Parts × EntryFault) → List DemandSet → List DemandSet
unless_faulty [] demand_sets = demand_sets
unless_faulty (f ∷ faults) demand_sets = []

-- the entry points of a package
abbrev pub entrance_at : Known → Nv → Entrance
entrance_at k nv = entrance_of k.graph k.workspace_members k.url_of nv

-- a package whose item is used asks for its dependencies; another for its entry points, unless something is wrong with
-- one of them
abbrev pub entered_followers : ModuleGraph → Nv → List Parts → Option ItemView → List DemandSet
entered_followers g nv urls (Some item) = map to_package item.0
entered_followers g nv urls None = unless_faulty (all_faults g urls) (map (entry_demands nv) urls)

abbrev pub entry_followers : ModuleGraph → Used → Nv → Entrance → List DemandSet
entry_followers g used nv passed_over = []
entry_followers g used nv (refused text) = []
entry_followers g used nv (entered urls) = entered_followers g nv urls (used nv urls)

abbrev pub followers : Known → Followers
followers k (of_package nv) = entry_followers k.graph k.used nv (entrance_at k nv)
followers k (of_module nv t d) = each_of (names_followers k nv d) (module_at k t)
followers k (of_symbol nv t s) = each_of (symbol_followers k nv s) (module_of k t)
