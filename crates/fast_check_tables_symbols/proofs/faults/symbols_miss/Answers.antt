use Rattle.std.proofs.Common.{◌∙◌, sym}
use Rattle.fast_check_tables_symbols.specs.Symbols.{mentioned_by}
use Rattle.fast_check_tables_symbols.specs.Faults.{is_missing}
use Rattle.fast_check_tables_symbols.proofs.Witness.{found_inside_at}
use Rattle.fast_check_tables_symbols.proofs.faults.symbols_miss.Goals as goal

pub returns-then-symbol_misses : goal.returns-then-symbol_misses
returns-then-symbol_misses c =
    found_inside_at (is_missing c.args.symbols.now) mentioned_by c.args.some.now c.loop-symbol.symbol-index c.symbol-item.result
    c.loop-symbol-test.true c.symbol-item.is (sym c.symbol_misses.ensures ∙ c.if-symbol_misses.true)
