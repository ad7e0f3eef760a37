use Rattle.fast_check_print.proofs.Adding.{remains-first, adds-token_ok}
use Rattle.fast_check_print.specs.Diagnostics.{diagnostic_data}
use Rattle.fast_check_print.proofs.Arrays.{item_written, items_written}
use Rattle.fast_check_print.proofs.diagnostic.print_diagnostics.Goals as goal

pub loop-diagnostic-init : goal.loop-diagnostic-init
loop-diagnostic-init c = remains-first _ _ _ _ (adds-token_ok _ _ _ _ _ c.in_ok-begin_array.was c.begin_array.ensures)

pub loop-diagnostic-preserved : goal.loop-diagnostic-preserved
loop-diagnostic-preserved c =
    item_written diagnostic_data _ _ _ c.loop-diagnostic-test.true c.diagnostic-item.is c.loop-diagnostic.invariant
    c.in_ok-print_diagnostic.ensures

pub returns : goal.returns
returns c = items_written diagnostic_data _ _ c.loop-diagnostic-test.false c.loop-diagnostic.invariant c.end_array.ensures
