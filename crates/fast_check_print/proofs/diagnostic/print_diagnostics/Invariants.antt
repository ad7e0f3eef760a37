use Rattle.std.proofs.Common.{drop, map}
use Rattle.fast_check_print.specs.Writing.{tokens_of}
use Rattle.fast_check_print.proofs.Adding.{Remains}
use Rattle.fast_check_print.proofs.Items.{rest_of_items}
use Rattle.fast_check_print.specs.Diagnostics.{diagnostic_data, diagnostics_array}
use Rattle.fast_check_print.proofs.diagnostic.print_diagnostics.Given as goal

-- the other diagnostics still have to come
abbrev pub invariant-loop-diagnostic : goal.invariant-loop-diagnostic
invariant-loop-diagnostic l =
    Remains (tokens_of (diagnostics_array l.fn.diagnostics)) l.fn.out l.out
    (rest_of_items (map diagnostic_data (drop l.diagnostic-index l.diagnostics)))
