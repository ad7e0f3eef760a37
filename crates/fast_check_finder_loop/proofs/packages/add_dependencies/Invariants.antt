use Rattle.std.proofs.Common.{map}
use Rattle.fast_check_finder_loop.specs.Finder.{depends}
use Rattle.fast_check_finder_loop.specs.Packages.{Adds}
use Rattle.fast_check_finder_loop.proofs.packages.add_dependencies.Given as goal

abbrev pub invariant-loop-dependency : goal.invariant-loop-dependency
invariant-loop-dependency l = Adds (map depends l.yielded) l.initial.found.entries l.found.entries
