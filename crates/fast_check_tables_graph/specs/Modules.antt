-- What is known of a module of the graph.
use Rattle.std.specs.Prelude.{ℕ, Bool, true, false, ◌||◌, Option, None}
use Rattle.fast_check_tables_modules.specs.MediaType.{is_typed}
use Rattle.fast_check_tables_graph.specs.declared.module.Module.{Module}
use Rattle.fast_check_tables_graph.specs.declared.module.Module.TheVariants.{Js, Json, Wasm, Npm, Node, External}

-- its types are known
abbrev pub is_typed_module : Module → Bool
is_typed_module (Js media_type has_types_dependency _) = is_typed media_type || has_types_dependency
is_typed_module (Json _) = true
is_typed_module (Wasm _) = true
is_typed_module Npm = false
is_typed_module Node = false
is_typed_module External = false

abbrev pub is_external : Module → Bool
is_external Npm = true
is_external Node = true
is_external External = true
is_external _ = false

abbrev pub hash_of : Module → Option ℕ
hash_of (Js _ _ hash) = hash
hash_of (Json hash) = hash
hash_of (Wasm hash) = hash
hash_of _ = None
