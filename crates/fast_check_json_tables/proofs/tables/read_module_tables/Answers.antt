use Rattle.std.proofs.Common.{◌∙◌, ap, refl, ℕ, List, codes, option_map, Vec, Global}
use Rattle.serde_json.specs.Find.{as_str}
use Rattle.serde_json.specs.View.{view}
use Rattle.url.specs.Parts.{Parts}
use Rattle.fast_check_tree_syntax.specs.declared.source.SourceRange.{SourceRange}
use Rattle.fast_check_tree_syntax.specs.declared.atom.Id.{Id}
use Rattle.fast_check_tables_symbols.specs.declared.symbol_id.SymbolId.{SymbolId}
use Rattle.fast_check_json_tables.specs.graph.Reads.{both_of, listed, id_of, symbol_id_of, url_of}
use Rattle.fast_check_json_tables.specs.Seen.{SeenSymbol, SeenTables}
use Rattle.fast_check_json_tables.specs.Symbols.{symbol_of}
use Rattle.fast_check_json_tables.specs.Tables.{re_export_of}
use Rattle.fast_check_json_tables.proofs.graph.Gathering.{both_reads, given_four, reads_passed, reads_seen}
use Rattle.fast_check_json_tables.proofs.graph.Given.{given_some, map_some, map_same}
use Rattle.fast_check_json_tables.proofs.tables.read_module_tables.Goals as goal

abbrev made : SymbolId → List SeenSymbol → List (Id × SymbolId) → List (SourceRange × List ℕ) → List (List ℕ × Parts) → SeenTables
made module_symbol symbols swc_ids re_export_all_nodes resolved_exports = record {
  symbols = symbols;
  module_symbol = module_symbol;
  swc_ids = swc_ids;
  re_export_all_nodes = re_export_all_nodes;
  resolved_exports = resolved_exports;
}

pub returns-in_err-symbols : goal.returns-in_err-symbols
returns-in_err-symbols c =
    let value = view c.args.value.now in
    let swc_ids = reads_seen _ (λ (v : Vec (Id × SymbolId) Global). v.items) _ _
    (λ v. map_same _ v.items (λ _. refl)) c.read_list-2.ensures in
    let names = both_reads _ _ _ _ _ _ _ c.both-names.ensures c.read_list.ensures swc_ids in
    let exports = both_reads _ _ _ _ _ _ _ c.both-exports.ensures c.read_list-3.ensures c.read_list-4.ensures in
    let none = both_reads _ _ _ _ _ _ _ c.in_err-symbols.ensures names exports in
    reads_passed _ _ _ c.in_err-symbols.field-0.0 c.from_residual-in_err-symbols.ensures.1 (λ bad.
    given_some _ c.in_ok-module_symbol.ensures
    ∙ (given_four (listed symbol_of (codes "symbols") value) (listed (both_of id_of symbol_id_of) (codes "swc_ids") value)
    (listed re_export_of (codes "re_export_all_nodes") value) (listed (both_of as_str url_of) (codes "resolved_exports") value)
    (made c.in_ok-module_symbol.module_symbol)
    ∙ ap (option_map _) (none bad)))

pub returns : goal.returns
returns c =
    let value = view c.args.value.now in
    let swc_ids = reads_seen _ (λ (v : Vec (Id × SymbolId) Global). v.items) _ _
    (λ v. map_same _ v.items (λ _. refl)) c.read_list-2.ensures in
    let names = both_reads _ _ _ _ _ _ _ c.both-names.ensures c.read_list.ensures swc_ids in
    let exports = both_reads _ _ _ _ _ _ _ c.both-exports.ensures c.read_list-3.ensures c.read_list-4.ensures in
    given_some _ c.in_ok-module_symbol.ensures
    ∙ (given_four (listed symbol_of (codes "symbols") value) (listed (both_of id_of symbol_id_of) (codes "swc_ids") value)
    (listed re_export_of (codes "re_export_all_nodes") value) (listed (both_of as_str url_of) (codes "resolved_exports") value)
    (made c.in_ok-module_symbol.module_symbol)
    ∙ map_some _ (both_reads _ _ _ _ _ _ _ c.in_ok-symbols.ensures names exports))
