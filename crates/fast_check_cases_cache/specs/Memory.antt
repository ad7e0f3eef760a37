-- Inner: no contract of a public call cites what stands here.
-- What contracts see of caches in memory, and under which key the item of a package stands.
use Rattle.std.specs.Prelude.{◌≡◌, ℕ, Option, None, option_map}
use Rattle.std.specs.Ordering.{nat_cmp}
use Rattle.std.specs.BTreeMap.{get}
use Rattle.fast_check_tables_cache.specs.Cache.{ItemView, item_of}
use Rattle.fast_check_cases_cache.specs.declared.items.Items.{Items}

-- what stands under a key
abbrev pub items_at : Items → ℕ → Option ItemView
items_at items key = option_map item_of (get nat_cmp items.by_hash key)

-- nothing stands under any key
abbrev pub HasNothing : Items → Type 0
HasNothing items = (key : ℕ) → items_at items key ≡ None
