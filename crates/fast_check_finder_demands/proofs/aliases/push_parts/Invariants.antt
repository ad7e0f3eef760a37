use Rattle.std.proofs.Common.{◌≡◌, ◌++◌, take}
use Rattle.fast_check_finder_demands.specs.symbol_demands.Demands.{demand_of}
use Rattle.fast_check_finder_demands.specs.symbol_demands.Rules.{parts_names}
use Rattle.fast_check_finder_demands.proofs.aliases.push_parts.Given as goal

abbrev pub invariant-loop-part : goal.invariant-loop-part
invariant-loop-part l = l.out ≡ l.initial.out ++ parts_names (demand_of l.demand) l.symbol (take l.part-index l.parts)
