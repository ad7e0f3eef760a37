-- Look-ups in the graph of modules.
use Rattle.std.specs.Prelude.{◌≡◌, ℕ, Bool, List, Option, String, string_bytes, option_map}
use Rattle.std.specs.Map.{lookup}
use Rattle.std.specs.Option.{option_and_then}
use Rattle.std.specs.Ordering.{is_eq}
use Rattle.std.specs.Str.{bytes_eq}
use Rattle.std.specs.BTreeMap.{BTreeMap}
use Rattle.std.specs.declared.alloc.Global.{Global}
use Rattle.indexmap.specs.IndexMap.{IndexMap}
use Rattle.url.specs.Parts.{Parts, serialize}
use Rattle.fast_check_tables_packages.specs.declared.package.PackageNv.{PackageNv}
use Rattle.fast_check_tables_packages.specs.Package.{Nv, nv_of, nv_cmp}
use Rattle.fast_check_tables_graph.specs.declared.graph.ModuleGraph.{ModuleGraph}
use Rattle.fast_check_tables_graph.specs.declared.module.Module.{Module}
use Rattle.fast_check_tables_graph.specs.Resolutions.{text_resolved}

-- a specifier is known by its text
abbrev pub is_specifier : Parts → Parts → Bool
is_specifier url k = bytes_eq (serialize url) (serialize k)

-- a package is known by name and version
abbrev pub is_package : Nv → PackageNv → Bool
is_package nv k = is_eq (nv_cmp nv (nv_of k))

-- the module of a specifier
abbrev pub module_at : ModuleGraph → Parts → Option Module
module_at g specifier = lookup (is_specifier specifier) g.modules.entries

-- what the texts in a module resolve to
abbrev pub resolutions_of : ModuleGraph → Parts → Option (BTreeMap (String Global) Parts)
resolutions_of g referrer = lookup (is_specifier referrer) g.resolutions.entries

-- what a text in a module resolves to
abbrev pub resolved_to : ModuleGraph → List ℕ → Parts → Option Parts
resolved_to g text referrer = option_and_then (text_resolved text) (resolutions_of g referrer)

-- the export texts of a package by their export names
abbrev pub exports_of : ModuleGraph → Nv → Option (List (String Global × String Global))
exports_of g nv = option_map (λ m. m.entries) (lookup (is_package nv) g.packages.entries)

-- what is found in a graph is what was handed in
pub record IsGraphOf {S : Type 0} (modules : BTreeMap Parts Module)
    (resolutions : BTreeMap Parts (BTreeMap (String Global) Parts))
    (packages : BTreeMap PackageNv (IndexMap (String Global) (String Global) S)) (g : ModuleGraph) : Type 0 where
  pub has_modules : (specifier : Parts) → module_at g specifier ≡ lookup (is_specifier specifier) modules.entries
  pub has_resolutions : (referrer : Parts) → resolutions_of g referrer ≡
      lookup (is_specifier referrer) resolutions.entries
  pub has_packages : (nv : Nv) → exports_of g nv ≡ option_map (λ m. m.entries) (lookup (is_package nv) packages.entries)
