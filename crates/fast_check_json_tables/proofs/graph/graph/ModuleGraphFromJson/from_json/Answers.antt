use Rattle.std.proofs.Common.{◌∙◌, ap, sym, refl, codes, Some}
use Rattle.serde_json.specs.View.{view}
use Rattle.fast_check_json_tables.specs.graph.Reads.{member_or}
use Rattle.fast_check_json_tables.specs.graph.Graph.{resolutions_of}
use Rattle.fast_check_json_tables.proofs.graph.Given.{members_there, given_some, map_some, map_same}
use Rattle.fast_check_json_tables.proofs.graph.Graphs.{graph_of_entries, no_texts}
use Rattle.fast_check_json_tables.proofs.graph.graph.ModuleGraphFromJson.from_json.Goals as goal

pub returns : goal.returns
returns c =
    let value = view c.args.value.now in
    let modules = c.in_ok-read_list.field-0.items in
    given_some _ (members_there _ _ c.in_ok-read_members.ensures.ok)
    ∙ (given_some _ (c.in_ok-read_list.ensures ∙ ap Some (map_same _ modules (λ _. refl)))
    ∙ (given_some _ (ap (λ none. member_or none resolutions_of (codes "resolutions") value) (sym (no_texts c.new.result c.new.ensures.empty)) ∙ c.in_ok-resolutions.ensures)
    ∙ (map_some _ c.in_ok-read_list-2.ensures
    ∙ ap Some (sym (graph_of_entries modules c.in_ok-read_list-2.field-0.items c.in_ok-modules.modules c.in_ok-resolutions.resolutions
    c.in_ok-packages.packages c.in_ok-from_parts.field-0 c.in_ok-modules.ensures.got c.in_ok-packages.ensures.got c.in_ok-from_parts.ensures)))))
