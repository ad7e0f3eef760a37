use Rattle.std.proofs.Common.{subst, List}
use Rattle.fast_check_tables_symbols.specs.declared.symbol_id.SymbolId.{SymbolId}
use Rattle.fast_check_tables_symbols.specs.Members.{IsNumberIndex}
use Rattle.fast_check_tables_symbols.proofs.Namesakes.{numbers_more}
use Rattle.fast_check_tables_symbols.proofs.members.number_indexes.Goals as goal

pub loop-symbol-preserved : goal.loop-symbol-preserved
loop-symbol-preserved c =
    let s = c.symbol-item.result in
    let one = subst (λ (ids : List SymbolId). IsNumberIndex c.args.symbols.now c.args.namesakes.now ids c.in_ok-number_index.field-0)
    c.as_slice.ensures.value c.in_ok-number_index.ensures in
    rw c.in_ok-push.ensures.items
    (numbers_more c.args.symbols.now c.args.namesakes.now c.as_slice-symbol-items.result.now c.loop-symbol.symbol-index s
    c.in_ok-number_index.field-0 c.loop-symbol.indexes.items c.loop-symbol-test.true c.symbol-item.is one c.loop-symbol.invariant)
