use Rattle.std.proofs.Common.{Some, ◌∙◌, ap, refl, sym}
use Rattle.std.proofs.lemmas.List.{map-id}
use Rattle.fast_check_json_tables.proofs.graph.Given.{given_some}
use Rattle.fast_check_program_requests.specs.Request.{es_module}
use Rattle.fast_check_program_commands.proofs.pair_command.request.read_side.Goals as goal

pub returns : goal.returns
returns c = (
  record {
    es_module = es_module c.in_ok-es_module.es_module;
    ranges = c.in_ok-ranges.ranges.items;
    implementations = c.in_ok-implementations.implementations.items;
  },
  given_some _ (c.in_ok-ranges.ensures ∙ ap Some (map-id _))
      ∙ (given_some _ (c.in_ok-implementations.ensures ∙ ap Some (map-id _))
      ∙ given_some _ (given_some _ (sym c.in_ok-member.ensures.member) ∙ c.in_ok-es_module.ensures)),
  record {
    es_module = refl;
    public_ranges =
        record { ranges = c.in_ok-public_ranges.ensures.public; implementations = c.in_ok-public_ranges.ensures.implementations };
  },
)
