use Rattle.std.proofs.Common.{refl, sym, ap, ◌∙◌}
use Rattle.std.proofs.lemmas.Result.{err_from_is_err_and}
use Rattle.fast_check_json_tables.specs.graph.Graph as graphs
use Rattle.fast_check_read.proofs.Each.{some_of_ok}
use Rattle.fast_check_json_tables.proofs.graph.Given.{given_some, given_none}
use Rattle.fast_check_program_commands.proofs.pair_command.request.read_pair_members.Goals as goal

pub returns : goal.returns
returns c = (
  record {
    graph = graphs.graph c.in_ok-graph.graph;
    a = c.in_ok-a.ensures.0;
    b = c.in_ok-b.ensures.0;
    first = c.in_ok-should_error_on_first_diagnostic.should_error_on_first_diagnostic;
  },
  given_some _ (some_of_ok _ _ _ c.in_ok-should_error_on_first_diagnostic.ensures)
      ∙ (given_some _ c.in_ok-graph.ensures ∙ (given_some _ c.in_ok-a.ensures.1 ∙ given_some _ c.in_ok-b.ensures.1)),
  record { graph = refl; a = c.in_ok-a.ensures.2; b = c.in_ok-b.ensures.2; first = refl },
)

pub returns-in_err-b : goal.returns-in_err-b
returns-in_err-b c =
    let p = err_from_is_err_and c.from_residual-in_err-b.result c.from_residual-in_err-b.ensures.1 in
    rw (p.1, p.2)
    (λ bad. given_some _ (some_of_ok _ _ _ c.in_ok-should_error_on_first_diagnostic.ensures)
    ∙ (given_some _ c.in_ok-graph.ensures ∙ (given_some _ c.in_ok-a.ensures.1 ∙ given_none _ (c.in_err-b.ensures bad))))
