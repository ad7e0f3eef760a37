use Rattle.fast_check_tables_symbols.proofs.Indexed.{indexed_more}
use Rattle.fast_check_tables_symbols.proofs.table.SymbolTable.new.Goals as goal

pub loop-place-preserved : goal.loop-place-preserved
loop-place-preserved c =
    indexed_more c.deref-symbol-items.result.now c.loop-place.place c.symbol-item.result c.loop-place.places
    c.insert.new.self c.loop-place-test.true c.symbol-item.is c.in_ok-insert.ensures.updates c.loop-place.invariant
