use Rattle.fast_check_tables_symbols.specs.declared.decl.SymbolDecl.{SymbolDecl}
use Rattle.fast_check_tables_symbols.proofs.Pushed.{one_more, all}
use Rattle.fast_check_tables_modules.proofs.ranges.push_decls.Goals as goal

pub loop-decl-preserved : goal.loop-decl-preserved
loop-decl-preserved c =
    one_more (λ (d : SymbolDecl).
    d.range) c.args.decls.now c.loop-decl.decl-index c.decl-item.result c.args.out.now.items c.loop-decl-test.true c.decl-item.is
    c.loop-decl.invariant c.in_ok-push.ensures.items

pub returns : goal.returns
returns c =
    all (λ (d : SymbolDecl).
    d.range) c.args.decls.now c.loop-decl.decl-index c.args.out.now.items c.loop-decl-test.false c.loop-decl.invariant
