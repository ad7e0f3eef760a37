use Rattle.std.proofs.Common.{◌∙◌, ap, sym, refl, Some}
use Rattle.fast_check_read.proofs.Each.{some_of_ok}
use Rattle.fast_check_json_tables.proofs.graph.Given.{given_some, map_some, map_same}
use Rattle.fast_check_program_requests.proofs.build_requests.request.read_build_members.Goals as goal

pub returns : goal.returns
returns c =
    given_some _ c.in_ok-read_graph.ensures
    ∙ (given_some _ c.in_ok-read_list.ensures
    ∙ (given_some _ (c.in_ok-read_list-2.ensures ∙ ap Some (map_same _ c.in_ok-read_list-2.field-0.items (λ _. refl)))
    ∙ (given_some _ c.in_ok-read_list-3.ensures
    ∙ (given_some _ (given_some _ (sym c.in_ok-member.ensures.member) ∙ c.in_ok-read_listed_packages.ensures)
    ∙ (given_some _ c.in_ok-read_list-4.ensures
    ∙ map_some _ (some_of_ok _ _ _ c.in_ok-read_flag.ensures))))))
