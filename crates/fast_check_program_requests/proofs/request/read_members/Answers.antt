use Rattle.std.proofs.Common.{Some, refl, sym, ap, ◌∙◌}
use Rattle.std.proofs.lemmas.List.{map-id}
use Rattle.fast_check_json_tables.specs.graph.Graph as graphs
use Rattle.fast_check_read.proofs.Each.{some_of_ok}
use Rattle.fast_check_json_tables.proofs.graph.Given.{given_some}
use Rattle.fast_check_program_requests.specs.Request.{es_module}
use Rattle.fast_check_program_requests.proofs.request.read_members.Goals as goal

pub returns : goal.returns
returns c = (
  record {
    graph = graphs.graph c.in_ok-graph.graph;
    es_module = es_module c.in_ok-es_module.es_module;
    ranges = c.in_ok-ranges.ranges.items;
    implementations = c.in_ok-implementations.implementations.items;
    first = c.in_ok-should_error_on_first_diagnostic.should_error_on_first_diagnostic;
  },
  given_some _ (c.in_ok-ranges.ensures ∙ ap Some (map-id _))
      ∙ (given_some _ (c.in_ok-implementations.ensures ∙ ap Some (map-id _))
      ∙ (given_some _ (some_of_ok _ _ _ c.in_ok-should_error_on_first_diagnostic.ensures)
      ∙ (given_some _ c.in_ok-graph.ensures
      ∙ given_some _ (given_some _ (sym c.in_ok-member.ensures.member) ∙ c.in_ok-es_module.ensures)))),
  record {
    graph = refl;
    es_module = refl;
    public_ranges =
        record { ranges = c.in_ok-public_ranges.ensures.public; implementations = c.in_ok-public_ranges.ensures.implementations };
    first = refl;
  },
)
