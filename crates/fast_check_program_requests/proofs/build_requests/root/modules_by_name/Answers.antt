use Rattle.std.proofs.Common.{◌∙◌, sym}
use Rattle.std.specs.Ordering.{eq_by_cmp}
use Rattle.fast_check_tables_symbols.proofs.Last.{last_of_none}
use Rattle.fast_check_program_requests.specs.build_requests.Root.{url_cmp}
use Rattle.fast_check_program_requests.proofs.build_requests.root.modules_by_name.Goals as goal

pub returns : goal.returns
returns c = (
  λ q. c.in_ok-by_name.ensures.got q ∙ sym (last_of_none (eq_by_cmp url_cmp) c.args.modules.items q),
  c.in_ok-by_name.ensures.ordered,
)
