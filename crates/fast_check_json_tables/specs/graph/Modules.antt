-- The module of the graph that a JSON value stands for.
use Rattle.std.specs.Prelude.{ℕ, List, [], ◌∷◌, codes, if◌then◌else◌, Option, Some, None, option_map}
use Rattle.std.specs.Option.{option_map_or}
use Rattle.std.specs.Str.{bytes_eq}
use Rattle.serde_json.specs.Data.{Data}
use Rattle.serde_json.specs.Find.{as_object, as_str}
use Rattle.fast_check_tables_diagnostics.specs.declared.parsed_source.tables.media_type.MediaType.{MediaType}
use Rattle.fast_check_tables_diagnostics.specs.declared.parsed_source.tables.media_type.MediaType.TheVariants.{TypeScript, Mts, Cts, Tsx}
use Rattle.fast_check_tables_diagnostics.specs.declared.parsed_source.tables.media_type.MediaType.TheVariants.{Dts, Dmts, Dcts, JavaScript}
use Rattle.fast_check_tables_diagnostics.specs.declared.parsed_source.tables.media_type.MediaType.TheVariants.{Mjs, Cjs, Jsx, Unknown}
use Rattle.fast_check_tables_graph.specs.declared.module.Module.{Module}
use Rattle.fast_check_tables_graph.specs.declared.module.Module.TheVariants.{Js, Json, Wasm, Npm, Node, External}
use Rattle.fast_check_read.specs.Pieces.{u64_of}
use Rattle.fast_check_json_tables.specs.graph.Reads.{given, needed, optional, flagged, variant_of}

-- the media types by their names
abbrev pub media_types : List (List ℕ × MediaType)
media_types =
    (codes "TypeScript", TypeScript) ∷ (codes "Mts", Mts) ∷ (codes "Cts", Cts) ∷ (codes "Tsx", Tsx)
    ∷ (codes "Dts", Dts) ∷ (codes "Dmts", Dmts) ∷ (codes "Dcts", Dcts)
    ∷ (codes "JavaScript", JavaScript) ∷ (codes "Mjs", Mjs) ∷ (codes "Cjs", Cjs) ∷ (codes "Jsx", Jsx) ∷
    (codes "Unknown", Unknown) ∷ []

abbrev pub named : {A : Type 0} → List (List ℕ × A) → List ℕ → Option A
named [] name = None
named (row ∷ rows) name = if bytes_eq name row.0 then Some row.1 else named rows name

abbrev pub media_type_of : Data → Option MediaType
media_type_of value = given (as_str value) (named media_types)

-- the hash of an object's source, if it is known
abbrev pub hash_of : Data → Option (Option ℕ)
hash_of value = given (as_object value) (λ members. optional u64_of (codes "source_hash") value)

-- a module with a syntax tree
abbrev pub js_of : Data → Option Module
js_of value =
    given (needed media_type_of (codes "media_type") value) (λ media_type.
    given (flagged (codes "has_types_dependency") value) (λ has_types_dependency.
    option_map (λ hash. Js media_type has_types_dependency hash) (optional u64_of (codes "source_hash") value)))

-- by the name of its variant
abbrev pub plain_named : List ℕ → Option Module
plain_named name =
    if bytes_eq name (codes "Npm") then Some Npm
    else if bytes_eq name (codes "Node") then Some Node
    else if bytes_eq name (codes "External") then Some External
    else None

abbrev pub source_module_named : List ℕ → Data → Option Module
source_module_named name content =
    if bytes_eq name (codes "Js") then js_of content
    else if bytes_eq name (codes "Json") then option_map Json (hash_of content)
    else if bytes_eq name (codes "Wasm") then option_map Wasm (hash_of content)
    else None

abbrev pub source_module_of : Data → Option Module
source_module_of value = given (variant_of value) (λ v. source_module_named v.0 v.1)

abbrev pub module_of : Data → Option Module
module_of value = option_map_or plain_named (as_str value) (source_module_of value)
