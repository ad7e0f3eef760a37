use Rattle.std.proofs.Common.{◌≡◌, ◌++◌, take}
use Rattle.fast_check_finder_demands.specs.symbol_demands.Rules.{deps_names}
use Rattle.fast_check_finder_demands.proofs.symbol_demands.dependencies.push_deps.Given as goal

abbrev pub invariant-loop-dep : goal.invariant-loop-dep
invariant-loop-dep l = l.out ≡ l.initial.out ++ deps_names l.tables l.referrer (take l.dep-index l.deps)
