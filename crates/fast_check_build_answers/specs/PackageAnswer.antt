-- How a package is answered, once it is known what is public in its modules.
use Rattle.std.specs.Prelude.{◌≡◌, ◌≢◌, ◌↔◌, Bool, true, false, List, [], ◌∷◌, ◌++◌, Option, Some, None, Result, Ok}
use Rattle.std.specs.Prelude.{Err, Vec}
use Rattle.std.specs.List.{AllZip, AllByRecursion, flat_map}
use Rattle.std.specs.declared.alloc.Global.{Global}
use Rattle.url.specs.Parts.{Parts}
use Rattle.fast_check_tables_diagnostics.specs.parsed_source.MediaType.{is_declaration}
use Rattle.fast_check_tables_modules.specs.diagnostics.PublicRanges.{PublicRanges}
use Rattle.fast_check_tables_modules.specs.diagnostics.DiagnosticCopy.{IsDiagnosticCopy}
use Rattle.fast_check_tables_modules.specs.diagnostics.declared.diagnostics.FastCheckDiagnostic.{FastCheckDiagnostic}
use Rattle.fast_check_tables_modules.specs.diagnostics.declared.diagnostics.FastCheckDiagnostic.TheVariants.{Cached}
use Rattle.fast_check_tables_diagnostics.specs.declared.parsed_source.tables.fast_check_module.FastCheckModule.{FastCheckModule}
use Rattle.fast_check_tables_modules.specs.EsModule.{EsModule, AreOwnRanges}
use Rattle.fast_check_transform_module.specs.skeleton.Grammar.{IsSkeleton}
use Rattle.fast_check_transform_nodes.specs.Bindings.{bindings_of}
use Rattle.fast_check_tables_graph.specs.Root.{found_module}
use Rattle.fast_check_tables_graph.specs.declared.graph.ModuleGraph.{ModuleGraph}
use Rattle.fast_check_tables_graph.specs.declared.root_symbol.AnyModuleInfo.{AnyModuleInfo}
use Rattle.fast_check_tables_graph.specs.declared.root_symbol.AnyModuleInfo.TheVariants.{Esm, Json}
use Rattle.fast_check_tables_graph.specs.declared.root_symbol.RootSymbol.{RootSymbol}
use Rattle.fast_check_tables_cache.specs.declared.package_ranges.PackagePublicRanges.{PackagePublicRanges}
use Rattle.fast_check_tables_cache.specs.declared.item.FastCheckCacheModuleItem.{FastCheckCacheModuleItem}
use Rattle.fast_check_tables_cache.specs.declared.item.FastCheckCacheModuleItem.TheVariants.{Info, Diagnostic}
use Rattle.fast_check_transform_module.specs.Transform.{skeleton, sources, comments}
use Rattle.fast_check_build_answers.specs.PackageFaults.{PublicModule, PackageFault, Diagnoses, package_faults}

-- a specifier, and the skeleton or the diagnostics that it is answered by
abbrev pub Answer : Type 0
Answer = Parts × Result FastCheckModule (Vec FastCheckDiagnostic Global)

-- ---- a package with nothing wrong

-- a module with a syntax tree: its specifier, what is known of it, and what is public in it
pub record TreeModule : Type 0 where
  pub specifier : Parts
  pub info : EsModule
  pub public : PublicRanges

abbrev pub with_tree : PublicModule → Option AnyModuleInfo → List TreeModule
with_tree m (Some (Esm info)) = record { specifier = m.0; info = info; public = m.1 } ∷ []
with_tree m (Some (Json _)) = []
with_tree m None = []

-- the modules that have one, in their order
abbrev pub tree_modules : RootSymbol → List PublicModule → List TreeModule
tree_modules root modules = flat_map (λ m. with_tree m (found_module root m.0)) modules

-- all that a transform answers of a module in which nothing is wrong
pub record IsSkeletonOf (graph : ModuleGraph) (m : TreeModule) (made : FastCheckModule) : Type 0 where
  pub program : made.program ≡ skeleton graph m.info m.public
  pub grammar : IsSkeleton (bindings_of m.info) (is_declaration m.info.source.media_type) made.program
  pub kept : made.comments ≡ comments graph m.info m.public
  pub depends : made.module_info.sources.items ≡ sources graph m.info m.public

-- a module is answered by its skeleton
abbrev pub IsShown : ModuleGraph → TreeModule → Answer → Type 0
IsShown graph m (specifier, Ok made) = (specifier ≡ m.specifier) × IsSkeletonOf graph m made
IsShown graph m (specifier, Err diagnostics) = ⊥

-- the answers show some modules more
abbrev pub ShowsMore : ModuleGraph → List TreeModule → List Answer → List Answer → Type 0
ShowsMore graph more old new = (modules : List TreeModule) → AllZip (IsShown graph) modules old →
    AllZip (IsShown graph) (modules ++ more) new

-- ---- a package that is refused

-- the diagnostics one by one, as `clone` copies them
abbrev pub AreCopies : List FastCheckDiagnostic → List FastCheckDiagnostic → Type 0
AreCopies = AllZip IsDiagnosticCopy

-- an entry point is answered by a copy of a list
abbrev pub IsRefused : List FastCheckDiagnostic → Parts → Answer → Type 0
IsRefused list entry_point (specifier, Ok made) = ⊥
IsRefused list entry_point (specifier, Err diagnostics) = (specifier ≡ entry_point) × AreCopies list diagnostics.items

-- one list reports the reasons, and answers each entry point
pub record AreRefused (faults : List PackageFault) (entry_points : List Parts) (answers : List Answer) : Type 0 where
  pub list : List FastCheckDiagnostic
  pub diagnoses : AllZip Diagnoses faults list
  pub each : AllZip (IsRefused list) entry_points answers

-- ---- a package that a cache answers

-- a module is answered by the skeleton that is cached of it, and else by `Cached` alone
abbrev pub IsUsedAnswer : Parts × FastCheckCacheModuleItem → Answer → Type 0
IsUsedAnswer (kept, Info info) (specifier, Ok made) = (specifier ≡ kept) × ((made.program ≡ info.program) ×
    ((made.comments ≡ info.comments) × (made.module_info.sources.items ≡ info.module_info.sources.items)))
IsUsedAnswer (kept, Diagnostic _) (specifier, Err diagnostics) = (specifier ≡ kept) ×
    (diagnostics.items ≡ Cached kept ∷ [])
IsUsedAnswer _ _ = ⊥

-- ---- a package

-- where nothing is wrong, each module with a tree is answered by its skeleton, and else each entry point by what is
-- wrong
pub record IsFoundAnswer (graph : ModuleGraph) (root : RootSymbol) (ranges : PackagePublicRanges) (first : Bool)
    (answers : List Answer) : Type 0 where
  pub shown : package_faults first graph root ranges.module_ranges.entries ≡ []
      → AllZip (IsShown graph) (tree_modules root ranges.module_ranges.entries) answers
  pub refused : package_faults first graph root ranges.module_ranges.entries ≢ []
      → AreRefused (package_faults first graph root ranges.module_ranges.entries) ranges.entrypoints.keys answers

-- by what a cache has of its modules, if anything, and else by what is found
pub record IsPackageAnswer (graph : ModuleGraph) (root : RootSymbol) (ranges : PackagePublicRanges) (first : Bool)
    (answers : List Answer) : Type 0 where
  pub used : ranges.cache_items.items ≢ [] → AllZip IsUsedAnswer ranges.cache_items.items answers
  pub found : ranges.cache_items.items ≡ [] → IsFoundAnswer graph root ranges first answers

-- what is public in each module with a tree is declared in it
abbrev pub OwnsPublic : TreeModule → Type 0
OwnsPublic m = AreOwnRanges m.info.tables m.public

abbrev pub OwnsModule : RootSymbol → PublicModule → Type 0
OwnsModule root m = AllByRecursion OwnsPublic (with_tree m (found_module root m.0))

abbrev pub OwnsAll : RootSymbol → List PublicModule → Type 0
OwnsAll root modules = AllByRecursion OwnsPublic (tree_modules root modules)

-- ---- the option

-- under the option the list is a front of the full one, and the same packages are refused
pub record IsFrontAlone (graph : ModuleGraph) (root : RootSymbol) (modules : List PublicModule) : Type 0 where
  pub rest : List PackageFault
  pub front : package_faults false graph root modules ≡ package_faults true graph root modules ++ rest
  pub same_refused : (package_faults true graph root modules ≡ []) ↔ (package_faults false graph root modules ≡ [])
