use Rattle.fast_check_print.proofs.Adding.{adds-token, adds-last, adds-token_ok}
use Rattle.fast_check_print.proofs.diagnostic.print_text.Goals as goal

pub returns : goal.returns
returns c = adds-last _ _ _ _ _ _ (adds-token_ok _ _ _ _ _ c.in_ok-key.was c.key.ensures) (adds-token _ _ _ _ c.string.ensures)
