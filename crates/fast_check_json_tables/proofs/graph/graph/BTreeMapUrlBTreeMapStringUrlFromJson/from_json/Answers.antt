use Rattle.std.proofs.Common.{sym, ap, option_map}
use Rattle.serde_json.specs.Find.{as_str}
use Rattle.serde_json.specs.View.{view}
use Rattle.fast_check_json_tables.specs.graph.Gathered.{all_gathered}
use Rattle.fast_check_json_tables.specs.graph.Graph.{resolved_also}
use Rattle.fast_check_json_tables.specs.graph.Reads.{list_of, three_of, url_of}
use Rattle.fast_check_json_tables.proofs.graph.Gathering.{reads_as}
use Rattle.fast_check_json_tables.proofs.graph.Graphs.{no_texts}
use Rattle.fast_check_json_tables.proofs.graph.graph.BTreeMapUrlBTreeMapStringUrlFromJson.from_json.Goals as goal

pub returns : goal.returns
returns c =
    let items = list_of (three_of url_of as_str url_of) (view c.args.value.now) in
    reads_as _ _ _ _ (ap (λ none. option_map (all_gathered resolved_also none) items) (sym (no_texts c.new.result c.new.ensures.empty)))
    c.gather_all.ensures
