-- The answers of `build`, as JSON.
use Rattle.std.specs.Prelude.{List, map, Result, Vec}
use Rattle.std.specs.declared.alloc.Global.{Global}
use Rattle.serde_json.specs.Data.{Data, string, array}
use Rattle.serde_json.specs.View.{items_of}
use Rattle.url.specs.Parts.{Parts, serialize}
use Rattle.fast_check_print.specs.Pieces.{pair_data}
use Rattle.fast_check_tables_diagnostics.specs.declared.diagnostics.FastCheckDiagnostic.{FastCheckDiagnostic}
use Rattle.fast_check_tables_diagnostics.specs.declared.parsed_source.tables.fast_check_module.FastCheckModule.{FastCheckModule}
use Rattle.fast_check_print.specs.Answer.{answer_data}

-- a specifier with its answer
abbrev pub Entry : Type 0
Entry = Parts × Result FastCheckModule (Vec FastCheckDiagnostic Global)

-- an array of the specifier's text and the answer
abbrev pub entry_data : Entry → Data
entry_data entry = pair_data (string (serialize entry.0)) (answer_data entry.1)

-- answers in their order, as an array
abbrev pub answers_data : List Entry → Data
answers_data entries = array (items_of (map entry_data entries))
