use Rattle.std.proofs.Common.{◌≡◌, ◌++◌, take}
use Rattle.std.specs.List.{flat_map}
use Rattle.fast_check_finder_demands.specs.symbol_demands.Demands.{demand_of}
use Rattle.fast_check_finder_demands.specs.symbol_demands.Rules.{decl_names}
use Rattle.fast_check_finder_demands.proofs.symbol_demands.children.push_decls.Given as goal

abbrev pub invariant-loop-decl : goal.invariant-loop-decl
invariant-loop-decl l = l.out ≡ l.initial.out ++ flat_map (decl_names l.tables (demand_of l.demand) l.namespaces l.parent)
    (take l.decl-index l.decls)
