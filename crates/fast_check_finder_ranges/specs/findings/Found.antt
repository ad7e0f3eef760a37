-- Inner: no contract of a public call cites what stands here.
-- What is found of packages, as it is answered.
use Rattle.std.specs.Prelude.{ℕ, List, [], ◌∷◌, ◌++◌, map, Option, Some, None, option_to_list, slice_get}
use Rattle.std.specs.List.{flat_map}
use Rattle.std.specs.Rc.{rc_str_bytes}
use Rattle.url.specs.Parts.{Parts, serialize}
use Rattle.fast_check_tables_packages.specs.Package.{Nv, nv_of}
use Rattle.fast_check_tables_packages.specs.declared.package.PackageNv.{PackageNv}
use Rattle.fast_check_tables_cache.specs.Cache.{item_of}
use Rattle.fast_check_tables_symbols.specs.declared.symbol.Symbol.{Symbol}
use Rattle.fast_check_tables_graph.specs.declared.root_symbol.AnyModuleInfo.{AnyModuleInfo}
use Rattle.fast_check_tables_graph.specs.declared.root_symbol.AnyModuleInfo.TheVariants.{Esm, Json}
use Rattle.fast_check_tables_graph.specs.ModuleNames.{specifier_of}
use Rattle.fast_check_finder_demands.specs.asked.Demands.{Text}
use Rattle.fast_check_finder_ranges.specs.declared.findings.found.EntryFault.{EntryFault}
use Rattle.fast_check_finder_ranges.specs.declared.findings.found.Entrance.{Entrance}
use Rattle.fast_check_finder_ranges.specs.declared.findings.found.Entrance.TheVariants.{Entered, Cached}
use Rattle.fast_check_finder_ranges.specs.declared.findings.found.FoundModule.{FoundModule}
use Rattle.fast_check_finder_ranges.specs.declared.findings.found.FoundPackage.{FoundPackage}
use Rattle.fast_check_finder_ranges.specs.findings.Faults.{FaultSource, placed_seen}
use Rattle.fast_check_finder_ranges.specs.findings.Findings.{entry_fault, faulty_module, placed_yields}
use Rattle.fast_check_finder_ranges.specs.findings.Yields.{Yield, known_package, entry_point, dependency, recorded, public}
use Rattle.fast_check_finder_ranges.specs.findings.Yields.{implementing, untyped_module, cached}

-- the source text of a module; one of JSON has none
abbrev pub text_of : AnyModuleInfo → List ℕ
text_of (Esm info) = rc_str_bytes info.source.text
text_of (Json info) = []

abbrev pub symbols_of : AnyModuleInfo → List Symbol
symbols_of (Esm info) = info.tables.symbols
symbols_of (Json info) = info.tables.symbols

-- a module, by what its faults have of it
abbrev pub source_in : AnyModuleInfo → FaultSource
source_in info = record { specifier = specifier_of info; text = text_of info; symbols = symbols_of info }

abbrev pub own_text : FoundModule → Text
own_text m = serialize (specifier_of m.info.now)

-- a module that was followed: that it is recorded, its ranges, and its faults at their places
abbrev pub module_yields : Nv → FoundModule → List Yield
module_yields nv m =
    recorded nv (own_text m)
    ∷ (map (public nv (own_text m)) m.ranges.items
    ++ (map (implementing nv (own_text m)) m.implementations.items
    ++ placed_yields nv (own_text m) (flat_map (placed_seen (source_in m.info.now)) m.faults.items)))

abbrev pub entry_fault_yields : Nv → Parts × EntryFault → List Yield
entry_fault_yields nv f = faulty_module nv (serialize f.0) (entry_fault f.1)

-- a package whose item is used gives the item, and nothing of its entry points
abbrev pub entrance_yields : Nv → Option Entrance → List Yield
entrance_yields nv None = []
entrance_yields nv (Some (Entered entry_points faults)) =
    known_package nv
    ∷ (map (λ url. entry_point nv (serialize url)) entry_points.value.keys
    ++ flat_map (entry_fault_yields nv) faults.items)
entrance_yields nv (Some (Cached entry_points item)) = cached nv entry_points.value.keys (item_of item) ∷ []

-- the package that stands at a place
abbrev pub dependency_yields : List Nv → Nv → ℕ → List Yield
dependency_yields packages nv place = map (dependency nv) (option_to_list (slice_get packages place))

abbrev pub untyped_yields : Nv → Parts → List Yield
untyped_yields nv url = faulty_module nv (serialize url) untyped_module

-- what is found of a package among these
abbrev pub package_yields : List Nv → Nv → FoundPackage → List Yield
package_yields packages nv p =
    entrance_yields nv p.entrance
    ++ (flat_map (dependency_yields packages nv) p.dependencies.items
    ++ (flat_map (module_yields nv) p.modules.items
    ++ flat_map (untyped_yields nv) p.untyped.items))

-- what is found of packages, each at its place
abbrev pub found_yields : List (PackageNv × FoundPackage) → List Yield
found_yields found =
    flat_map (λ e. package_yields (map (λ x. nv_of x.0) found) (nv_of e.0) e.1) found
