use Rattle.std.proofs.Common.{◌≡◌, ◌++◌, take}
use Rattle.std.specs.List.{flat_map}
use Rattle.fast_check_finder_demands.specs.symbol_demands.Passed.{own_parts}
use Rattle.fast_check_finder_demands.proofs.Aliased.{at}
use Rattle.fast_check_finder_demands.proofs.aliases.push_own.Given as goal

abbrev pub invariant-loop-place : goal.invariant-loop-place
invariant-loop-place l = l.out ≡ l.initial.out ++ flat_map (at (own_parts l.tables l.demand.referrer) l.decls.items)
    (take l.place-index l.place-items)
