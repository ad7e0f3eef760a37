-- The graph of modules that a JSON value stands for.
use Rattle.std.specs.Prelude.{ℕ, ◌==◌, ◌&&◌, if◌then◌else◌, List, [], ◌∷◌, codes, Option, None, Some, option_map}
use Rattle.std.specs.Prelude.{option_and_then, map, String, string_bytes}
use Rattle.std.specs.BTreeMap.{BTreeMap}
use Rattle.std.specs.Map.{lookup}
use Rattle.std.specs.Option.{option_or}
use Rattle.std.specs.Ordering.{is_eq}
use Rattle.std.specs.Result.{result_ok}
use Rattle.std.specs.Str.{bytes_eq}
use Rattle.std.specs.declared.alloc.Global.{Global}
use Rattle.indexmap.specs.IndexMap.{insert_entry}
use Rattle.semver.specs.Parse.{version_parts}
use Rattle.serde_json.specs.Data.{Data}
use Rattle.serde_json.specs.Find.{as_object, as_str}
use Rattle.url.specs.Parts.{Parts}
use Rattle.fast_check_tables_packages.specs.declared.package.PackageNv.{PackageNv}
use Rattle.fast_check_tables_packages.specs.Package.{Nv, VersionParts, nv_of, nv_cmp}
use Rattle.fast_check_tables_symbols.specs.Entries.{last_value}
use Rattle.fast_check_tables_graph.specs.declared.graph.ModuleGraph.{ModuleGraph}
use Rattle.fast_check_tables_graph.specs.declared.module.Module.{Module}
use Rattle.fast_check_tables_graph.specs.Graph.{is_specifier, module_at, resolved_to, exports_of}
use Rattle.fast_check_tables_graph.specs.Resolutions.{text_resolved}
use Rattle.fast_check_json_tables.specs.graph.Reads.{given, list_of, both_of, three_of, member_or, needed, listed, url_of}
use Rattle.fast_check_json_tables.specs.graph.Gathered.{all_gathered}
use Rattle.fast_check_json_tables.specs.graph.Modules.{module_of}

-- ---- what contracts see of a graph: what its look-ups find

-- export texts by their export names, in order
abbrev pub Exports : Type 0
Exports = List (List ℕ × List ℕ)

abbrev pub seen_exports : List (String Global × String Global) → Exports
seen_exports es = map (λ e. (string_bytes e.0, string_bytes e.1)) es

-- what a text in a module resolves to
abbrev pub Resolutions : Type 0
Resolutions = List ℕ → Parts → Option Parts

abbrev pub seen_resolutions : BTreeMap Parts (BTreeMap (String Global) Parts) → Resolutions
seen_resolutions m = λ text referrer. option_and_then (text_resolved text) (lookup (is_specifier referrer) m.entries)

-- the module of a specifier, what a text in a module resolves to, and the exports of a package
pub record SeenGraph : Type 0 where
  pub modules : Parts → Option Module
  pub resolutions : Resolutions
  pub packages : PackageNv → Option Exports

abbrev pub graph : ModuleGraph → SeenGraph
graph g = record {
  modules = λ specifier. module_at g specifier;
  resolutions = λ text referrer. resolved_to g text referrer;
  packages = λ nv. option_map seen_exports (exports_of g (nv_of nv));
}

-- ---- packages

-- what stands before the last `@` of a text, and what stands behind it
abbrev pub parted : List ℕ → Option (List ℕ × List ℕ)
parted [] = None
parted (c ∷ text) = option_or (option_map (λ p. (c ∷ p.0, p.1)) (parted text))
    (if c == 64 then Some ([], text) else None)

abbrev pub version_of : List ℕ → Option VersionParts
version_of text = result_ok (version_parts text)

abbrev pub version_text_of : Data → Option VersionParts
version_text_of value = given (as_str value) version_of

-- `name@version`
abbrev pub package_named : List ℕ → Option Nv
package_named text = given (parted text) (λ p. option_map (λ version. (p.0, version)) (version_of p.1))

abbrev pub package_of : Data → Option Nv
package_of value = given (as_str value) package_named

-- names with texts, put one after another: a new name goes last, and one that is there keeps its place and takes the
-- text
abbrev pub package_exports_of : Data → Option Exports
package_exports_of value = option_map (all_gathered (λ exports e. insert_entry bytes_eq exports e.0 e.1) [])
    (list_of (both_of as_str as_str) value)

-- ---- resolutions: a referrer, a text, and what it resolves to

-- over others
abbrev pub resolved_also : Resolutions → Parts × List ℕ × Parts → Resolutions
resolved_also others e = λ text referrer. if is_specifier referrer e.0 &&
    bytes_eq text e.1 then Some e.2 else others text referrer

abbrev pub no_resolutions : Resolutions
no_resolutions = λ text referrer. None

-- one after another: of entries with one referrer and one text the last counts
abbrev pub resolutions_of : Data → Option Resolutions
resolutions_of value =
    option_map (all_gathered resolved_also no_resolutions) (list_of (three_of url_of as_str url_of) value)

-- ---- graphs

-- of modules with one specifier, and of packages with one name and version, the last counts
abbrev pub graph_by : List (Parts × Module) → Resolutions → List (Nv × Exports) → SeenGraph
graph_by modules resolutions packages = record {
  modules = λ specifier. last_value (is_specifier specifier) modules;
  resolutions = resolutions;
  packages = λ nv. last_value (λ k. is_eq (nv_cmp k (nv_of nv))) packages;
}

-- an object of the members modules, resolutions and packages
abbrev pub graph_of : Data → Option SeenGraph
graph_of value =
    given (as_object value) (λ members.
    given (listed (both_of url_of module_of) (codes "modules") value) (λ modules.
    given (member_or no_resolutions resolutions_of (codes "resolutions") value) (λ resolutions.
    option_map (λ packages. graph_by modules resolutions packages)
    (listed (both_of package_of package_exports_of) (codes "packages") value))))

-- the member graph, which has to stand
abbrev pub graph_member_of : Data → Option SeenGraph
graph_member_of = needed graph_of (codes "graph")
