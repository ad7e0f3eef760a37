-- All that is known where a caller lends a provider and, perhaps, a cache.
use Rattle.std.specs.Prelude.{ℕ, List, Option, Some, None}
use Rattle.url.specs.Parts.{Parts}
use Rattle.fast_check_tables_packages.specs.Package.{Nv}
use Rattle.fast_check_tables_cache.specs.Cache.{ItemView}
use Rattle.fast_check_tables_cache.specs.CachedPackages.{used_item}
use Rattle.fast_check_finder_demands.specs.asked.Demands.{Text}
use Rattle.fast_check_finder_demands.specs.facts.GraphFacts.{Used, none_used, Known, known, with_used}
use Rattle.fast_check_finder_demands.specs.declared.facts.graph_facts.GraphFacts.{GraphFacts}

-- by the cache, if one is lent
abbrev pub used_of : {C : Type 0} → Option C → (C → Used) → Used
used_of None by = none_used
used_of (Some c) by = by c

-- the same, and which items are used where a cache is lent: by its hashes and its items
abbrev pub with_cache : {C : Type 0} → Option C → (C → Nv → List Text → ℕ) → (C → ℕ → Option ItemView) → Known → Known
with_cache cache hash stored k = with_used (used_of cache (λ c. used_item (hash c) (stored c) k.graph)) k

-- for a finder
abbrev pub known_with : {C : Type 0} → GraphFacts → List ℕ → (Nv → Parts) → (Text → Option Nv) → Option C →
    (C → List ℕ → Nv → List Text → ℕ) → (C → ℕ → Option ItemView) → Known
known_with facts seed url_of nv_at cache hash stored = with_cache cache (λ c. hash c seed) stored (known facts url_of nv_at)
