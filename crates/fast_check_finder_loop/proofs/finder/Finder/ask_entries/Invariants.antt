use Rattle.std.proofs.Common.{◌≡◌, ◌++◌, List, [], map}
use Rattle.fast_check_tables_packages.specs.Package.{Nv, nv_of}
use Rattle.fast_check_tables_graph.specs.declared.graph.ModuleGraph.{ModuleGraph}
use Rattle.fast_check_tables_graph.specs.declared.root_symbol.RootSymbol.{RootSymbol}
use Rattle.fast_check_finder_demands.specs.asked.Demands.{DemandSet}
use Rattle.fast_check_finder_loop.specs.Finder.{IsSound, CanEnter, Goes}
use Rattle.fast_check_finder_loop.specs.Rules.{entry_demands}
use Rattle.fast_check_finder_loop.proofs.finder.Finder.ask_entries.Given as goal

abbrev pub invariant-loop-url : goal.invariant-loop-url
invariant-loop-url l = record {
  asked : List DemandSet;
  are : asked ++ map (entry_demands (nv_of l.nv)) l.url-iterator ≡ map (entry_demands (nv_of l.nv)) l.entry_points.keys;
  goes : (g : ModuleGraph) (r : RootSymbol) → IsSound g r l.fn.self → Goes g r asked [] l.fn.self l.self;
  enters : (nv : Nv) → CanEnter nv l.fn.self → CanEnter nv l.self;
}
