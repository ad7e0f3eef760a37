use Rattle.std.proofs.Common.{◌∙◌, sym}
use Rattle.fast_check_json_tables.proofs.graph.Given.{given_some}
use Rattle.fast_check_program_requests.proofs.request.read_es_module.Goals as goal

pub returns : goal.returns
returns c =
    given_some _ c.in_ok-read_member.ensures
    ∙ (given_some _ (given_some _ (sym c.in_ok-member.ensures.member) ∙ c.in_ok-read_source.ensures)
    ∙ given_some _ c.in_ok-read_module_tables.ensures)
