use Rattle.std.proofs.Common.{◌≡◌, ◌∙◌, ◌+◌, sym, ap, subst, [], ◌∷◌, ◌++◌, map, take, List}
use Rattle.std.proofs.lemmas.List.{take_more, map-append}
use Rattle.fast_check_finder_demands.specs.symbol_demands.Demands.{Demand as SymbolDemand, demand_of}
use Rattle.fast_check_finder_loop.specs.Finder.{AsksEach}
use Rattle.fast_check_finder_loop.proofs.SymbolsAsked.{each_more}
use Rattle.fast_check_finder_loop.proofs.finder.ask_each.Goals as goal

pub loop-demand-preserved : goal.loop-demand-preserved
loop-demand-preserved c =
    let items = c.as_slice-demand-items.result.now in
    let i = c.loop-demand.demand-index in
    let x = c.demand-item.result in
    let more : map demand_of (take (i + 1) items) ≡ map demand_of (take i items) ++ demand_of x ∷ [] =
    ap (map demand_of) (take_more items i x c.loop-demand-test.true ∙ ap (λ y. take i items ++ y ∷ []) (sym c.demand-item.is)) ∙
    map-append demand_of (take i items) (x ∷ []) in
    subst (λ (ds : List SymbolDemand). AsksEach c.args.place ds c.args.asked.now c.ask_one.new.asked c.args.symbols.now.items c.ask_one.new.symbols.items)
    (sym more)
    (each_more c.args.place (map demand_of (take i items)) (demand_of x) c.args.asked.now c.loop-demand.asked c.ask_one.new.asked
    c.args.symbols.now.items c.loop-demand.symbols.items c.ask_one.new.symbols.items c.loop-demand.invariant c.in_ok-ask_one.ensures)
