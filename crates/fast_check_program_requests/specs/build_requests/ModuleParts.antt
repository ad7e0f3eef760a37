-- The module that a JSON value stands for.
use Rattle.std.specs.Prelude.{ℕ, List, codes, if◌then◌else◌, Option, None, option_map}
use Rattle.std.specs.Str.{bytes_eq}
use Rattle.serde_json.specs.Data.{Data}
use Rattle.url.specs.Parts.{Parts}
use Rattle.fast_check_json_tables.specs.graph.Reads.{given, needed, variant_of, url_of}
use Rattle.fast_check_json_tables.specs.Seen as seen
use Rattle.fast_check_json_tables.specs.Seen.{SeenTables}
use Rattle.fast_check_json_tables.specs.Tables.{tables_of}
use Rattle.fast_check_program_requests.specs.Request.{Module, es_module, module_of}
use Rattle.fast_check_program_requests.specs.declared.build_requests.module_parts.JsonModuleParts.{JsonModuleParts}
use Rattle.fast_check_program_requests.specs.declared.build_requests.module_parts.ModuleParts.{ModuleParts}
use Rattle.fast_check_program_requests.specs.declared.build_requests.module_parts.ModuleParts.TheVariants as parts

-- ---- what contracts see of a module

-- a JSON module: its name and its tables
pub record SeenJsonModule : Type 0 where
  pub specifier : Parts
  pub tables : SeenTables

abbrev pub json_module : JsonModuleParts → SeenJsonModule
json_module m = record { specifier = m.specifier; tables = seen.tables m.tables }

pub data SeenModule : Type 0 where
  Esm : Module → SeenModule
  Json : SeenJsonModule → SeenModule

abbrev pub module_parts : ModuleParts → SeenModule
module_parts (parts.Esm m) = Esm (es_module m)
module_parts (parts.Json m) = Json (json_module m)

-- ---- the JSON of a module

-- an object of the member specifier, and of those of tables
abbrev pub json_module_of : Data → Option SeenJsonModule
json_module_of value =
    given (needed url_of (codes "specifier") value) (λ specifier.
    option_map (λ tables. record { specifier = specifier; tables = tables }) (tables_of value))

-- by the name of its variant
abbrev pub module_parts_named : List ℕ → Data → Option SeenModule
module_parts_named name content =
    if bytes_eq name (codes "Esm") then option_map Esm (module_of content)
    else if bytes_eq name (codes "Json") then option_map Json (json_module_of content)
    else None

abbrev pub module_parts_of : Data → Option SeenModule
module_parts_of value = given (variant_of value) (λ v. module_parts_named v.0 v.1)
