use Rattle.std.proofs.Common.{◌≡◌, take, map}
use Rattle.fast_check_tables_symbols.specs.Members.{namesake}
use Rattle.fast_check_tables_symbols.proofs.members.namesakes.Given as goal

abbrev pub invariant-loop-symbol : goal.invariant-loop-symbol
invariant-loop-symbol l = l.namesakes.items ≡ map (namesake l.names) (take l.symbol-index l.symbols)
