-- What contracts see of a cache: a map from keys to items, a seed and a function that hashes.
use Rattle.std.specs.Prelude.{ℕ, List, map, ◌==◌, Option, Some, if◌then◌else◌, codes}
use Rattle.url.specs.Parts.{Parts}
use Rattle.fast_check_tree_syntax.specs.declared.tree.Tree.{Tree}
use Rattle.fast_check_tree_comments.specs.declared.comments.Comments.{Comments}
use Rattle.fast_check_tables_packages.specs.Package.{Nv, nv_of}
use Rattle.fast_check_tables_diagnostics.specs.declared.parsed_source.tables.fast_check_module.StaticSource.{StaticSource}
use Rattle.fast_check_tables_cache.specs.declared.item.FastCheckCacheItem.{FastCheckCacheItem}
use Rattle.fast_check_tables_cache.specs.declared.item.FastCheckCacheModuleItem.{FastCheckCacheModuleItem}
use Rattle.fast_check_tables_cache.specs.declared.item.FastCheckCacheModuleItem.TheVariants.{Info, Diagnostic}

-- what is kept of a module: the hash of its source and its skeleton, or the hash alone
pub data ModuleView : Type 0 where
  skeleton : ℕ → List StaticSource → Tree → Comments → ModuleView
  diagnostic : ℕ → ModuleView

-- what is kept of a package: its dependencies and its modules
abbrev pub ItemView : Type 0
ItemView = List Nv × List (Parts × ModuleView)

abbrev pub module_of : FastCheckCacheModuleItem → ModuleView
module_of (Info i) = skeleton i.source_hash i.module_info.sources.items i.program i.comments
module_of (Diagnostic d) = diagnostic d.source_hash

abbrev pub source_hash_of : FastCheckCacheModuleItem → ℕ
source_hash_of (Info i) = i.source_hash
source_hash_of (Diagnostic d) = d.source_hash

abbrev pub item_of : FastCheckCacheItem → ItemView
item_of i = (map nv_of i.dependencies.keys, map (λ e. (e.0, module_of e.1)) i.modules.items)

-- the seed of a cache that has none of its own: the text that names the rules
abbrev pub default_seed : List ℕ
default_seed = codes "0.111.1-single-return"

-- the map with an item at a key
unfoldable pub with_item : ℕ → ItemView → (ℕ → Option ItemView) → ℕ → Option ItemView
with_item key item old k = if k == key then Some item else old k
