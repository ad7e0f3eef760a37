use Rattle.std.proofs.Common.{◌≡◌, ◌&&◌, false, take}
use Rattle.std.specs.List.{list_any}
use Rattle.fast_check_tables_diagnostics.specs.PublicRanges.{same_range}
use Rattle.fast_check_tables_modules.specs.EsModule.{is_unbound}
use Rattle.fast_check_tables_modules.proofs.unbound.any_unbound_within.Given as goal

abbrev pub invariant-loop-expando : goal.invariant-loop-expando
invariant-loop-expando l =
    list_any (λ e. list_any (same_range e.range) l.ranges.keys && is_unbound l.tables e) (take l.expando-index l.expandos) ≡ false
