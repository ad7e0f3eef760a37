use Rattle.std.proofs.Common.{◌∙◌, ◌==◌, List, sym, ap}
use Rattle.std.specs.List.{list_all}
use Rattle.url.specs.Parts.{Parts}
use Rattle.fast_check_tables_cache.specs.declared.item.FastCheckCacheModuleItem.{FastCheckCacheModuleItem}
use Rattle.fast_check_tables_cache.specs.Cache.{source_hash_of}
use Rattle.fast_check_tables_cache.specs.CachedPackages.{source_hash}
use Rattle.fast_check_tables_cache.proofs.Usable.{all_seen}
use Rattle.fast_check_tables_cache.proofs.cached.is_usable.Goals as goal

pub returns : goal.returns
returns c =
    let graph = c.args.graph.now in
    c.have_sources.ensures
    ∙ (ap (λ (ms : List (Parts × FastCheckCacheModuleItem)). list_all
    (λ (m : Parts × FastCheckCacheModuleItem). source_hash_of m.1 == source_hash graph m.0) ms)
    c.deref.ensures.value ∙ sym (all_seen graph c.args.item.now.modules.items))
