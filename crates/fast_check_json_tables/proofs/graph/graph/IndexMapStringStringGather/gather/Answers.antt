use Rattle.std.proofs.Common.{◌∙◌, sym, ap, Some}
use Rattle.fast_check_json_tables.specs.graph.Graph.{seen_exports}
use Rattle.fast_check_json_tables.proofs.graph.Given.{map_some}
use Rattle.fast_check_json_tables.proofs.graph.Graphs.{inserted_seen}
use Rattle.fast_check_json_tables.proofs.graph.graph.IndexMapStringStringGather.gather.Goals as goal

pub returns : goal.returns
returns c =
    map_some _ c.in_ok-name.ensures
    ∙ ap Some
    (sym (ap seen_exports c.in_ok-insert.ensures.entries ∙ inserted_seen c.in_ok-name.name c.in_ok-name.text c.args.self.now.entries))
