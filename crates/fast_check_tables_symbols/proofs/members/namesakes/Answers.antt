use Rattle.std.proofs.Common.{[], ◌∷◌, ◌++◌, ◌∙◌, ap, Option}
use Rattle.fast_check_tables_symbols.specs.declared.symbol_id.SymbolId.{SymbolId}
use Rattle.fast_check_tables_symbols.specs.Members.{namesake}
use Rattle.fast_check_tables_symbols.proofs.Pushed.{one_more, all}
use Rattle.fast_check_tables_symbols.proofs.members.namesakes.Goals as goal

pub loop-symbol-preserved : goal.loop-symbol-preserved
loop-symbol-preserved c =
    one_more (namesake c.args.names.now) c.args.symbols.now c.loop-symbol.symbol-index c.symbol-item.result [] c.loop-symbol-test.true
    c.symbol-item.is c.loop-symbol.invariant
    (c.in_ok-push.ensures.items ∙ ap (λ (n : Option SymbolId). c.loop-symbol.namesakes.items ++ n ∷ []) c.namesake.ensures)

pub returns : goal.returns
returns c =
    all (namesake c.args.names.now) c.args.symbols.now c.loop-symbol.symbol-index [] c.loop-symbol-test.false c.loop-symbol.invariant
