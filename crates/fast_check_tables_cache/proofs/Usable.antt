-- What a test of an item says of its view.
use Rattle.std.proofs.Common.{◌≡◌, ◌==◌, ◌&&◌, List, [], ◌∷◌, map, refl}
use Rattle.std.specs.List.{list_all}
use Rattle.url.specs.Parts.{Parts}
use Rattle.fast_check_tables_graph.specs.declared.graph.ModuleGraph.{ModuleGraph}
use Rattle.fast_check_tables_cache.specs.declared.item.FastCheckCacheModuleItem.{FastCheckCacheModuleItem}
use Rattle.fast_check_tables_cache.specs.declared.item.FastCheckCacheModuleItem.TheVariants.{Info, Diagnostic}
use Rattle.fast_check_tables_cache.specs.Cache.{ModuleView, module_of, source_hash_of}
use Rattle.fast_check_tables_cache.specs.CachedPackages.{kept_hash, source_hash}

same_hash : (m : FastCheckCacheModuleItem) → kept_hash (module_of m) ≡ source_hash_of m
same_hash (Info info) = refl
same_hash (Diagnostic d) = refl

-- a test of each module is that of what is seen of it
pub all_seen : (graph : ModuleGraph) (ms : List (Parts × FastCheckCacheModuleItem)) →
    list_all (λ (m : Parts × ModuleView). kept_hash m.1 == source_hash graph m.0)
    (map (λ (e : Parts × FastCheckCacheModuleItem). (e.0, module_of e.1)) ms)
    ≡ list_all (λ (m : Parts × FastCheckCacheModuleItem). source_hash_of m.1 == source_hash graph m.0) ms
all_seen graph [] = refl
all_seen graph (m ∷ ms) = λ i. (same_hash m.1 i == source_hash graph m.0) && all_seen graph ms i
