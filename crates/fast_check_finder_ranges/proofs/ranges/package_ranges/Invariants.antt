use Rattle.std.proofs.Common.{◌≡◌, ◌++◌, List, map}
use Rattle.std.specs.List.{flat_map}
use Rattle.fast_check_tables_packages.specs.Package.{Nv, nv_of}
use Rattle.fast_check_finder_ranges.specs.Answers.{about, StandsFor, lookup_package, IsPackageAnswer}
use Rattle.fast_check_finder_ranges.specs.Parts.{yields_at}
use Rattle.fast_check_finder_ranges.proofs.Answered.{Found}
use Rattle.fast_check_finder_ranges.proofs.ranges.package_ranges.Given as goal

-- those in front of what is left are answered
abbrev pub invariant-loop-package : goal.invariant-loop-package
invariant-loop-package l = (front : List Found) × (front ++ l.package-iterator ≡ l.fn.found.entries)
    × ((nv : Nv) → StandsFor IsPackageAnswer (about nv (flat_map (yields_at (map nv_of l.packages.items)) front))
    (lookup_package nv l.answers.entries))
