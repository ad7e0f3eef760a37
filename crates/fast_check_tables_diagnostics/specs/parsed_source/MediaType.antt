-- What a module is written in.
use Rattle.std.specs.Prelude.{Bool, true, false}
use Rattle.fast_check_tables_diagnostics.specs.declared.parsed_source.tables.media_type.MediaType.{MediaType}
use Rattle.fast_check_tables_diagnostics.specs.declared.parsed_source.tables.media_type.MediaType.TheVariants.{TypeScript, Mts, Cts, Tsx}
use Rattle.fast_check_tables_diagnostics.specs.declared.parsed_source.tables.media_type.MediaType.TheVariants.{Dts, Dmts, Dcts, JavaScript}
use Rattle.fast_check_tables_diagnostics.specs.declared.parsed_source.tables.media_type.MediaType.TheVariants.{Mjs, Cjs, Jsx, Unknown}

-- such a module has declarations alone
abbrev pub is_declaration : MediaType → Bool
is_declaration Dts = true
is_declaration Dmts = true
is_declaration Dcts = true
is_declaration _ = false

-- such a module is written in TypeScript, so that it can have types
abbrev pub is_typed : MediaType → Bool
is_typed TypeScript = true
is_typed Mts = true
is_typed Cts = true
is_typed Tsx = true
is_typed Dts = true
is_typed Dmts = true
is_typed Dcts = true
is_typed JavaScript = false
is_typed Mjs = false
is_typed Cjs = false
is_typed Jsx = false
is_typed Unknown = false
