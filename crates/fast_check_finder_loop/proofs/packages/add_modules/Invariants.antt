use Rattle.std.proofs.Common.{◌≡◌, ◌++◌}
use Rattle.std.specs.List.{flat_map}
use Rattle.fast_check_finder_loop.specs.Finder.{Modules, followed_yields}
use Rattle.fast_check_finder_loop.specs.Packages.{Adds}
use Rattle.fast_check_finder_loop.proofs.packages.add_modules.Given as goal

abbrev pub invariant-loop-place : goal.invariant-loop-place
invariant-loop-place l = (front : Modules) × (front ++ l.place-iterator ≡ l.fn.modules.entries)
    × Adds (flat_map followed_yields front) l.initial.found.entries l.found.entries
