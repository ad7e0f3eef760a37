use Rattle.std.proofs.Common.{◌≡◌, ◌++◌, List, [], map}
use Rattle.fast_check_tables_packages.specs.Package.{Nv, nv_of}
use Rattle.fast_check_tables_graph.specs.declared.graph.ModuleGraph.{ModuleGraph}
use Rattle.fast_check_tables_graph.specs.declared.root_symbol.RootSymbol.{RootSymbol}
use Rattle.fast_check_finder_demands.specs.asked.Demands.{DemandSet, to_package}
use Rattle.fast_check_finder_loop.specs.Finder.{IsSound, CanEnter, Goes}
use Rattle.fast_check_finder_loop.proofs.finder.Finder.ask_packages.Given as goal

abbrev pub invariant-loop-on : goal.invariant-loop-on
invariant-loop-on l = record {
  asked : List DemandSet;
  are : asked ++ map to_package (map nv_of l.on-iterator) ≡ map to_package (map nv_of l.packages.keys);
  goes : (g : ModuleGraph) (r : RootSymbol) → IsSound g r l.fn.self → Goes g r asked [] l.fn.self l.self;
  enters : (nv : Nv) → CanEnter nv l.fn.self → CanEnter nv l.self;
}
