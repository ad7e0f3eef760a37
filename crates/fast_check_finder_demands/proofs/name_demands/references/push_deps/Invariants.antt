use Rattle.std.proofs.Common.{◌≡◌, ◌++◌, take}
use Rattle.fast_check_finder_demands.specs.name_demands.Files.{deps_files}
use Rattle.fast_check_finder_demands.proofs.name_demands.references.push_deps.Given as goal

abbrev pub invariant-loop-dep : goal.invariant-loop-dep
invariant-loop-dep l = l.out ≡ l.initial.out ++ deps_files (take l.dep-index l.deps)
