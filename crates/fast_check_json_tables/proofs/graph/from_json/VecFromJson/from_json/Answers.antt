use Rattle.std.proofs.Common.{◌∙◌, sym, ap, [], ◌∷◌, ◌++◌, map, option_map}
use Rattle.serde_json.specs.View.{view}
use Rattle.fast_check_json_tables.specs.graph.Gathered.{all_gathered}
use Rattle.fast_check_json_tables.specs.graph.Reads.{list_of}
use Rattle.fast_check_json_tables.proofs.graph.Gathering.{all_items, reads_as}
use Rattle.fast_check_json_tables.proofs.graph.Given.{given_none, reads_none}
use Rattle.fast_check_json_tables.proofs.graph.from_json.VecFromJson.from_json.Goals as goal

pub returns-in_err-read_array : goal.returns-in_err-read_array
returns-in_err-read_array g c = reads_none _ _ _ (given_none _ c.in_err-read_array.ensures.err.1) c.from_residual.ensures.0

pub returns : goal.returns
returns g c =
    let items = list_of g.T.FromJson.read_of (view c.args.value.now) in
    reads_as _ _ _ _ (sym
    (ap (λ empty. option_map (all_gathered (λ xs x. xs ++ x ∷ []) (map g.T.FromJson.seen empty)) items)
    c.in_ok-with_capacity.ensures.items ∙ all_items items))
    c.gather_all.ensures
