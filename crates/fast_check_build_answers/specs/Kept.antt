-- What a build writes of a package to a cache.
use Rattle.std.specs.Prelude.{ℕ, ◌==◌, Bool, List, [], ◌∷◌, ◌++◌, length, map, Option, if◌then◌else◌}
use Rattle.url.specs.Parts.{Parts, serialize}
use Rattle.fast_check_tree_syntax.specs.declared.tree.Tree.{Tree}
use Rattle.fast_check_tree_comments.specs.declared.comments.Comments.{Comments}
use Rattle.fast_check_tables_packages.specs.Package.{Nv, nv_of}
use Rattle.fast_check_tables_diagnostics.specs.declared.parsed_source.tables.fast_check_module.StaticSource.{StaticSource}
use Rattle.fast_check_tables_graph.specs.declared.graph.ModuleGraph.{ModuleGraph}
use Rattle.fast_check_tables_graph.specs.declared.root_symbol.RootSymbol.{RootSymbol}
use Rattle.fast_check_tables_cache.specs.Cache.{ModuleView, skeleton as kept_tree, diagnostic, ItemView, module_of, with_item}
use Rattle.fast_check_tables_cache.specs.declared.item.FastCheckCacheModuleItem.{FastCheckCacheModuleItem}
use Rattle.fast_check_tables_cache.specs.declared.package_ranges.PackagePublicRanges.{PackagePublicRanges}
use Rattle.fast_check_tables_cache.specs.CachedPackages.{source_hash}
use Rattle.fast_check_transform_module.specs.Transform.{skeleton, sources, comments}
use Rattle.fast_check_build_answers.specs.PackageFaults.{PublicModule, PackageFault, package_faults, sound_front}
use Rattle.fast_check_build_answers.specs.PackageFaults.{subject}
use Rattle.fast_check_build_answers.specs.PackageAnswer.{TreeModule, tree_modules}

-- what contracts see of a cached module
abbrev pub entry_of : Parts × FastCheckCacheModuleItem → Parts × ModuleView
entry_of e = (e.0, module_of e.1)

-- a module with its skeleton, and with the hash that the graph has of its source
abbrev pub kept_info : ModuleGraph → Parts → List StaticSource → Tree → Comments → Parts × ModuleView
kept_info graph specifier depends program kept =
    (specifier, kept_tree (source_hash graph specifier) depends program kept)

abbrev pub kept_skeleton : ModuleGraph → TreeModule → Parts × ModuleView
kept_skeleton graph m =
    kept_info graph m.specifier (sources graph m.info m.public) (skeleton graph m.info m.public)
    (comments graph m.info m.public)

-- a module without skeleton
abbrev pub kept_diagnostic : ModuleGraph → Parts → Parts × ModuleView
kept_diagnostic graph specifier = (specifier, diagnostic (source_hash graph specifier))

-- the modules by their skeletons; or, for some reasons against it, without, and then the module of each reason
abbrev pub kept_by : ModuleGraph → List TreeModule → List PackageFault → List (Parts × ModuleView)
kept_by graph modules [] = map (kept_skeleton graph) modules
kept_by graph modules (r ∷ rs) = map (kept_diagnostic graph) (map (λ m. m.specifier) modules ++ map subject (r ∷ rs))

-- what is cached of the modules of a package
abbrev pub kept_modules : Bool → ModuleGraph → RootSymbol → List PublicModule → List (Parts × ModuleView)
kept_modules first graph root modules =
    kept_by graph (tree_modules root (sound_front first graph root modules)) (package_faults first graph root modules)

-- the item of a package: its dependencies and its modules
abbrev pub item_for : Bool → ModuleGraph → RootSymbol → PackagePublicRanges → ItemView
item_for first graph root p = (map nv_of p.dependencies.keys, kept_modules first graph root p.module_ranges.entries)

-- the map after a build of one package: with its item, where no module of it is used from the cache
abbrev pub with_package : (Nv → List (List ℕ) → ℕ) → Bool → ModuleGraph → RootSymbol → Nv → PackagePublicRanges →
    (ℕ → Option ItemView) →
    ℕ → Option ItemView
with_package key first graph root nv p stored =
    if length p.cache_items.items == 0 then with_item (key nv (map serialize p.entrypoints.keys))
    (item_for first graph root p) stored else stored
