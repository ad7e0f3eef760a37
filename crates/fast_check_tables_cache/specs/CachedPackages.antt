-- When the item that a cache keeps of a package is used.
use Rattle.std.specs.Prelude.{ℕ, ◌^◌, Bool, ◌==◌, nat_lt, List, map, Option, Some, None, unwrap_or, if◌then◌else◌}
use Rattle.std.specs.List.{list_all}
use Rattle.std.specs.Option.{option_and_then}
use Rattle.url.specs.Parts.{Parts, serialize}
use Rattle.fast_check_tables_packages.specs.Package.{Nv}
use Rattle.fast_check_tables_graph.specs.Graph.{module_at}
use Rattle.fast_check_tables_graph.specs.Modules.{hash_of}
use Rattle.fast_check_tables_graph.specs.declared.graph.ModuleGraph.{ModuleGraph}
use Rattle.fast_check_tables_cache.specs.Cache.{ModuleView, skeleton, diagnostic, ItemView}

-- the hash of the source that a module was kept with
abbrev pub kept_hash : ModuleView → ℕ
kept_hash (skeleton hash _ _ _) = hash
kept_hash (diagnostic hash) = hash

-- the hash of a module's source, 0 where the graph has none or lacks the module
abbrev pub source_hash : ModuleGraph → Parts → ℕ
source_hash graph specifier = unwrap_or (option_and_then hash_of (module_at graph specifier)) 0

-- each module has the source that it was kept with
abbrev pub usable : ModuleGraph → ItemView → Bool
usable graph item = list_all (λ m. kept_hash m.1 == source_hash graph m.0) item.1

abbrev pub if_usable : ModuleGraph → Option ItemView → Option ItemView
if_usable graph None = None
if_usable graph (Some item) = if usable graph item then Some item else None

-- a key is a number of 64 bits
abbrev pub at_key : (ℕ → Option ItemView) → ℕ → Option ItemView
at_key stored key = if nat_lt key (2 ^ 64) then stored key else None

-- the item under the key of a package and its entry points, if it is usable
abbrev pub used_item : (Nv → List (List ℕ) → ℕ) → (ℕ → Option ItemView) → ModuleGraph → Nv → List Parts →
    Option ItemView
used_item key stored graph nv entry_points = if_usable graph (at_key stored (key nv (map serialize entry_points)))
