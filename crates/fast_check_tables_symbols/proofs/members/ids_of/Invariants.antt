use Rattle.std.proofs.Common.{◌≡◌, take, map}
use Rattle.fast_check_tables_symbols.specs.declared.symbol.Symbol.{Symbol}
use Rattle.fast_check_tables_symbols.proofs.members.ids_of.Given as goal

abbrev pub invariant-loop-symbol : goal.invariant-loop-symbol
invariant-loop-symbol l = l.ids.items ≡ map (λ (s : Symbol). s.id) (take l.symbol-index l.symbols)
