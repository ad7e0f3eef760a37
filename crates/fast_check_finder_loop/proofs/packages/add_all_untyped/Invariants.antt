use Rattle.std.specs.List.{flat_map}
use Rattle.fast_check_finder_loop.specs.Finder.{untyped_yields_of}
use Rattle.fast_check_finder_loop.specs.Packages.{Adds}
use Rattle.fast_check_finder_loop.proofs.packages.add_all_untyped.Given as goal

abbrev pub invariant-loop-nv : goal.invariant-loop-nv
invariant-loop-nv l = Adds (flat_map untyped_yields_of l.yielded) l.initial.found.entries l.found.entries
