use Rattle.std.proofs.Common.{◌≡◌, false, take}
use Rattle.std.specs.List.{list_any, flat_map}
use Rattle.fast_check_tables_symbols.specs.Symbols.{mentioned_by}
use Rattle.fast_check_tables_symbols.specs.Faults.{is_missing}
use Rattle.fast_check_tables_symbols.proofs.faults.symbols_miss.Given as goal

abbrev pub invariant-loop-symbol : goal.invariant-loop-symbol
invariant-loop-symbol l = list_any (is_missing l.symbols) (flat_map mentioned_by (take l.symbol-index l.some)) ≡ false
