use Rattle.std.proofs.Common.{rules}
use Rattle.fast_check_tables_packages.specs.Package.{nv_of}
use Rattle.fast_check_tables_cache.specs.Cache.{module_of}
use Rattle.fast_check_tables_cache.proofs.Copied.{copied}
use Rattle.fast_check_tables_cache.proofs.item.FastCheckCacheItemClone.clone.Goals as goal

-- src/item.rt:25:5
pub returns : goal.returns
returns c =
    let dependencies = copied nv_of _ _ _ c.in_ok-clone.ensures.cases (λ p q h. search rules) in
    let modules = copied (λ e. (e.0, module_of e.1)) _ _ _ c.in_ok-clone-2.ensures.cases.0 (λ p q h. search rules) in
    record { cases = λ i. (dependencies i, modules i) }
