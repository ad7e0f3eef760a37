-- The packages with their URLs that a JSON value stands for.
use Rattle.std.specs.Prelude.{List, codes, Option, option_map, map}
use Rattle.serde_json.specs.Data.{Data}
use Rattle.url.specs.Parts.{Parts}
use Rattle.std.specs.Ordering.{is_eq}
use Rattle.fast_check_tables_symbols.specs.Entries.{unreplaced}
use Rattle.fast_check_tables_packages.specs.Package.{Nv, nv_of, nv_cmp}
use Rattle.fast_check_tables_packages.specs.declared.listed.ListedPackages.{ListedPackages}
use Rattle.fast_check_json_tables.specs.graph.Reads.{given, both_of, needed, listed, url_of}
use Rattle.fast_check_json_tables.specs.graph.Graph.{package_of}

-- what contracts see of a provider: packages with their URLs, and the URL of all others
pub record SeenProvider : Type 0 where
  pub packages : List (Nv × Parts)
  pub fallback : Parts

-- the rows that no later one of their package replaces
abbrev pub last_rows : List (Nv × Parts) → List (Nv × Parts)
last_rows = unreplaced (λ a b. is_eq (nv_cmp a.0 b.0))

abbrev pub provider : ListedPackages → SeenProvider
provider p = record { packages = map (λ e. (nv_of e.0, e.1)) p.packages.items; fallback = p.fallback }

-- an object of the members packages and fallback: the first may be left out, and of rows of one package the last counts
abbrev pub provider_of : Data → Option SeenProvider
provider_of value =
    given (listed (both_of package_of url_of) (codes "packages") value) (λ packages.
    option_map (λ fallback. record { packages = last_rows packages; fallback = fallback })
    (needed url_of (codes "fallback") value))
