use Rattle.std.proofs.Common.{take}
use Rattle.fast_check_tables_symbols.specs.Places.{IsIndexed}
use Rattle.fast_check_tables_symbols.proofs.table.SymbolTable.new.Given as goal

abbrev pub invariant-loop-place : goal.invariant-loop-place
invariant-loop-place l = IsIndexed (take l.place l.symbol-items) l.places
