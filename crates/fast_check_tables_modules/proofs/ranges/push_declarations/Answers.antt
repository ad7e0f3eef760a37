use Rattle.std.proofs.Common.{◌∙◌, ap, ◌++◌, map}
use Rattle.fast_check_tables_symbols.specs.declared.symbol.Symbol.{Symbol}
use Rattle.fast_check_tables_symbols.proofs.Pushed.{each_more, each_all}
use Rattle.fast_check_tables_modules.proofs.ranges.push_declarations.Goals as goal

pub loop-symbol-preserved : goal.loop-symbol-preserved
loop-symbol-preserved c =
    each_more
    (λ (s : Symbol). map
    (λ d. d.range) s.decls.items) c.args.symbols.now c.loop-symbol.symbol-index c.symbol-item.result c.args.out.now.items
    c.loop-symbol-test.true c.symbol-item.is c.loop-symbol.invariant
    (c.in_ok-push_decls.ensures ∙ ap (λ ds. c.loop-symbol.out.items ++ map (λ d. d.range) ds) c.as_slice.ensures)

pub returns : goal.returns
returns c =
    each_all (λ (s : Symbol). map (λ d. d.range) s.decls.items) c.args.symbols.now c.loop-symbol.symbol-index c.args.out.now.items
    c.loop-symbol-test.false c.loop-symbol.invariant
