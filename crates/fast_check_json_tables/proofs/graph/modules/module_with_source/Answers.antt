use Rattle.std.proofs.Common.{◌∙◌, sym, ap, option_map}
use Rattle.fast_check_tables_graph.specs.declared.module.Module.TheVariants.{Json, Wasm}
use Rattle.fast_check_json_tables.specs.graph.Modules.{source_module_named}
use Rattle.fast_check_json_tables.proofs.graph.Gathering.{reads_as, reads_passed}
use Rattle.fast_check_json_tables.proofs.graph.Given.{chosen, given_none, map_some, reads_none}
use Rattle.fast_check_json_tables.proofs.graph.modules.module_with_source.Goals as goal

pub returns-in_err-name : goal.returns-in_err-name
returns-in_err-name c = reads_none _ _ _ (given_none _ (sym c.in_err-name.ensures.variant)) c.from_residual.ensures.0

pub returns-in-Js : goal.returns-in-Js
returns-in-Js c = reads_as _ _ _ _ (chosen source_module_named _ _ _ _ c.in_ok-name.ensures.variant c.in-Js.is) c.read_js.ensures

pub returns-in_err-read_hash-in-Json : goal.returns-in_err-read_hash-in-Json
returns-in_err-read_hash-in-Json c =
    reads_passed _ _ _ c.in_err-read_hash-in-Json.field-0.0 c.from_residual-in_err-read_hash-in-Json.ensures.1 (λ bad.
    chosen source_module_named _ _ _ _ c.in_ok-name.ensures.variant c.in-Json.is ∙
    ap (option_map Json) (c.in_err-read_hash-in-Json.ensures bad))

pub returns-in_ok-read_hash-in-Json : goal.returns-in_ok-read_hash-in-Json
returns-in_ok-read_hash-in-Json c =
    chosen source_module_named _ _ _ _ c.in_ok-name.ensures.variant c.in-Json.is ∙ map_some Json c.in_ok-read_hash-in-Json.ensures

pub returns-in_err-read_hash-in-Wasm : goal.returns-in_err-read_hash-in-Wasm
returns-in_err-read_hash-in-Wasm c =
    reads_passed _ _ _ c.in_err-read_hash-in-Wasm.field-0.0 c.from_residual-in_err-read_hash-in-Wasm.ensures.1 (λ bad.
    chosen source_module_named _ _ _ _ c.in_ok-name.ensures.variant c.in-Wasm.is ∙
    ap (option_map Wasm) (c.in_err-read_hash-in-Wasm.ensures bad))

pub returns-in_ok-read_hash-in-Wasm : goal.returns-in_ok-read_hash-in-Wasm
returns-in_ok-read_hash-in-Wasm c =
    chosen source_module_named _ _ _ _ c.in_ok-name.ensures.variant c.in-Wasm.is ∙ map_some Wasm c.in_ok-read_hash-in-Wasm.ensures
