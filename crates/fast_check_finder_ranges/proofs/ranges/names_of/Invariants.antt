use Rattle.std.proofs.Common.{◌≡◌, ◌++◌, map}
use Rattle.fast_check_tables_packages.specs.Package.{nv_of}
use Rattle.fast_check_finder_ranges.proofs.ranges.names_of.Given as goal

abbrev pub invariant-loop-package : goal.invariant-loop-package
invariant-loop-package l = map nv_of l.names.items ++ map nv_of l.package-iterator ≡ map (λ e. nv_of e.0) l.found.entries
