use Rattle.std.proofs.Common.{◌≡◌, false, take}
use Rattle.std.specs.List.{list_any}
use Rattle.fast_check_tables_modules.specs.EsModule.{is_public_unbound}
use Rattle.fast_check_tables_modules.proofs.unbound.any_public_unbound.Given as goal

abbrev pub invariant-loop-expando : goal.invariant-loop-expando
invariant-loop-expando l = list_any (is_public_unbound l.tables l.public_ranges) (take l.expando-index l.expandos) ≡ false
