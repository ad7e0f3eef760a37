use Rattle.std.proofs.Common.{sym, ap, option_map}
use Rattle.std.specs.Str.{bytes_eq}
use Rattle.indexmap.specs.IndexMap.{insert_entry}
use Rattle.serde_json.specs.Find.{as_str}
use Rattle.serde_json.specs.View.{view}
use Rattle.fast_check_json_tables.specs.graph.Gathered.{all_gathered}
use Rattle.fast_check_json_tables.specs.graph.Graph.{seen_exports}
use Rattle.fast_check_json_tables.specs.graph.Reads.{list_of, both_of}
use Rattle.fast_check_json_tables.proofs.graph.Gathering.{reads_as}
use Rattle.fast_check_json_tables.proofs.graph.graph.IndexMapStringStringFromJson.from_json.Goals as goal

pub returns : goal.returns
returns c =
    let items = list_of (both_of as_str as_str) (view c.args.value.now) in
    reads_as _ _ _ _ (ap (λ es. option_map (all_gathered (λ exports e. insert_entry bytes_eq exports e.0 e.1) (seen_exports es)) items)
    (sym c.new.ensures.empty)) c.gather_all.ensures
