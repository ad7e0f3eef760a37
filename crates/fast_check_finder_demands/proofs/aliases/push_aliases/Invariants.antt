use Rattle.std.proofs.Common.{◌≡◌, ◌++◌, take}
use Rattle.std.specs.List.{flat_map}
use Rattle.fast_check_finder_lattice.specs.Names.{path_of}
use Rattle.fast_check_finder_demands.specs.symbol_demands.Demands.{demand_of}
use Rattle.fast_check_finder_demands.specs.symbol_demands.Passed.{alias_passed}
use Rattle.fast_check_finder_demands.proofs.Aliased.{at}
use Rattle.fast_check_finder_demands.proofs.aliases.push_aliases.Given as goal

abbrev pub invariant-loop-place : goal.invariant-loop-place
invariant-loop-place l = l.out ≡ l.initial.out ++ flat_map
    (at (alias_passed l.tables (demand_of l.demand) (path_of l.names) l.extent) l.decls.items) (take l.place-index l.place-items)
