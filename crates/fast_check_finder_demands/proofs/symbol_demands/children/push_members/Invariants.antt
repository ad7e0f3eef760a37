use Rattle.std.proofs.Common.{◌≡◌, ◌++◌, take}
use Rattle.fast_check_finder_demands.specs.symbol_demands.Demands.{demand_of}
use Rattle.fast_check_finder_demands.specs.symbol_demands.Rules.{members_names}
use Rattle.fast_check_finder_demands.proofs.symbol_demands.children.push_members.Given as goal

abbrev pub invariant-loop-member : goal.invariant-loop-member
invariant-loop-member l = l.out ≡ l.initial.out ++ members_names (demand_of l.demand) (take l.member-index l.members)
