use Rattle.std.proofs.Common.{sym, ap, option_map}
use Rattle.serde_json.specs.View.{view}
use Rattle.fast_check_tables_symbols.specs.Exports.{put_export}
use Rattle.fast_check_json_tables.specs.graph.Gathered.{all_gathered}
use Rattle.fast_check_json_tables.specs.graph.Reads.{list_of}
use Rattle.fast_check_json_tables.specs.Symbols.{export_of}
use Rattle.fast_check_json_tables.proofs.graph.Gathering.{reads_as}
use Rattle.fast_check_json_tables.proofs.symbols.SymbolExportsFromJson.from_json.Goals as goal

pub returns : goal.returns
returns c =
    let items = list_of export_of (view c.args.value.now) in
    reads_as _ _ _ _ (ap (λ empty. option_map (all_gathered (λ exports e. put_export e.0 e.1 exports) empty) items) (sym c.new.ensures))
    c.gather_all.ensures
