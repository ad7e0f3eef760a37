use Rattle.std.proofs.Common.{◌≡◌, false, take}
use Rattle.std.specs.List.{list_any}
use Rattle.std.specs.Map.{values_of}
use Rattle.fast_check_tables_symbols.specs.Faults.{is_missing}
use Rattle.fast_check_tables_symbols.proofs.faults.exports_miss.Given as goal

abbrev pub invariant-loop-place : goal.invariant-loop-place
invariant-loop-place l = list_any (is_missing l.symbols) (values_of (take l.place l.exports)) ≡ false
