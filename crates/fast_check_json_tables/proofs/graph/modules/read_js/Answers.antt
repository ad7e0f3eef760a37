use Rattle.std.proofs.Common.{◌∙◌, ap, Some, option_map}
use Rattle.fast_check_tables_graph.specs.declared.module.Module.TheVariants.{Js}
use Rattle.fast_check_json_tables.proofs.graph.Gathering.{reads_passed}
use Rattle.fast_check_read.proofs.Each.{none_of_err, some_of_ok}
use Rattle.fast_check_json_tables.proofs.graph.Given.{given_none, given_some, map_some, option_same, reads_none}
use Rattle.fast_check_json_tables.proofs.graph.modules.read_js.Goals as goal

pub returns-in_err-read_member : goal.returns-in_err-read_member
returns-in_err-read_member c =
    reads_passed _ _ _ c.in_err-read_member.field-0.0 c.from_residual.ensures.1 (λ bad. given_none _ (c.in_err-read_member.ensures bad))

pub returns-in_err-read_flag : goal.returns-in_err-read_flag
returns-in_err-read_flag c =
    reads_none _ _ _ (given_some _ c.in_ok-read_member.ensures ∙ given_none _ (none_of_err _ _ _ c.in_err-read_flag.ensures))
    c.from_residual-in_err-read_flag.ensures.0

pub returns-in_err-read_option : goal.returns-in_err-read_option
returns-in_err-read_option c =
    reads_passed _ _ _ c.in_err-read_option.field-0.0 c.from_residual-in_err-read_option.ensures.1 (λ bad.
    given_some _ c.in_ok-read_member.ensures
    ∙ (given_some _ (some_of_ok _ _ _ c.in_ok-read_flag.ensures) ∙ ap (option_map _) (c.in_err-read_option.ensures bad)))

pub returns : goal.returns
returns c =
    given_some _ c.in_ok-read_member.ensures ∙ (given_some _ (some_of_ok _ _ _ c.in_ok-read_flag.ensures)
    ∙ (map_some _ c.in_ok-read_option.ensures
    ∙ ap (λ hash. Some (Js c.in_ok-read_member.field-0 c.in_ok-read_flag.field-0 hash)) (option_same c.in_ok-read_option.field-0)))
