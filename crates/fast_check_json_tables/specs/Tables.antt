-- The tables of a module that a JSON value stands for.
use Rattle.std.specs.Prelude.{ℕ, List, codes, Option, option_map}
use Rattle.serde_json.specs.Data.{Data}
use Rattle.serde_json.specs.Find.{as_str}
use Rattle.fast_check_tree_syntax.specs.declared.source.SourceRange.{SourceRange}
use Rattle.fast_check_read.specs.Pieces.{range_of_data}
use Rattle.fast_check_json_tables.specs.graph.Reads.{given, both_of, needed, listed, id_of, symbol_id_of, url_of}
use Rattle.fast_check_json_tables.specs.Seen.{SeenTables}
use Rattle.fast_check_json_tables.specs.Symbols.{symbol_of}

-- a range and a source text
abbrev pub re_export_of : Data → Option (SourceRange × List ℕ)
re_export_of = both_of range_of_data as_str

-- an object of these members: module_symbol has to stand
abbrev pub tables_of : Data → Option SeenTables
tables_of value =
    given (needed symbol_id_of (codes "module_symbol") value) (λ module_symbol.
    given (listed symbol_of (codes "symbols") value) (λ symbols.
    given (listed (both_of id_of symbol_id_of) (codes "swc_ids") value) (λ swc_ids.
    given (listed re_export_of (codes "re_export_all_nodes") value) (λ re_export_all_nodes.
    option_map (λ resolved_exports. record {
      symbols = symbols;
      module_symbol = module_symbol;
      swc_ids = swc_ids;
      re_export_all_nodes = re_export_all_nodes;
      resolved_exports = resolved_exports;
    }) (listed (both_of as_str url_of) (codes "resolved_exports") value)))))
