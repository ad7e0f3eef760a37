use Rattle.std.proofs.Common.{[]}
use Rattle.fast_check_tables_symbols.specs.declared.symbol.Symbol.{Symbol}
use Rattle.fast_check_tables_symbols.proofs.Pushed.{one_more, all}
use Rattle.fast_check_tables_symbols.proofs.members.ids_of.Goals as goal

pub loop-symbol-preserved : goal.loop-symbol-preserved
loop-symbol-preserved c =
    one_more (λ (s : Symbol). s.id) c.args.symbols.now c.loop-symbol.symbol-index c.symbol-item.result [] c.loop-symbol-test.true
    c.symbol-item.is c.loop-symbol.invariant c.in_ok-push.ensures.items

pub returns : goal.returns
returns c =
    all (λ (s : Symbol). s.id) c.args.symbols.now c.loop-symbol.symbol-index [] c.loop-symbol-test.false c.loop-symbol.invariant
