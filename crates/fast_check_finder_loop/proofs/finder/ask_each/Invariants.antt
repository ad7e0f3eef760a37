use Rattle.std.proofs.Common.{take, map}
use Rattle.fast_check_finder_demands.specs.symbol_demands.Demands.{demand_of}
use Rattle.fast_check_finder_loop.specs.Finder.{AsksEach}
use Rattle.fast_check_finder_loop.proofs.finder.ask_each.Given as goal

abbrev pub invariant-loop-demand : goal.invariant-loop-demand
invariant-loop-demand l = AsksEach l.place (map demand_of (take l.demand-index l.demand-items)) l.fn.asked l.asked l.fn.symbols.items l.symbols.items
