use Rattle.std.proofs.Common.{[], map, take}
use Rattle.fast_check_tables_packages.specs.Package.{nv_of}
use Rattle.fast_check_tables_graph.specs.declared.graph.ModuleGraph.{ModuleGraph}
use Rattle.fast_check_tables_graph.specs.declared.root_symbol.RootSymbol.{RootSymbol}
use Rattle.fast_check_finder_demands.specs.asked.Demands.{to_package}
use Rattle.fast_check_finder_loop.specs.Finder.{Goes}
use Rattle.fast_check_finder_loop.proofs.find.begin.Given as goal

abbrev pub invariant-loop-nv : goal.invariant-loop-nv
invariant-loop-nv l = (g : ModuleGraph) (r : RootSymbol) → Goes g r (map to_package (map nv_of (take l.nv-index l.roots))) [] l.initial.finder l.finder
