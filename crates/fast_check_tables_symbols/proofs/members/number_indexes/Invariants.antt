use Rattle.std.proofs.Common.{take}
use Rattle.fast_check_tables_symbols.specs.Members.{AreNumberIndexes}
use Rattle.fast_check_tables_symbols.proofs.members.number_indexes.Given as goal

abbrev pub invariant-loop-symbol : goal.invariant-loop-symbol
invariant-loop-symbol l = AreNumberIndexes l.symbols l.namesakes (take l.symbol-index l.symbol-items) l.indexes.items
