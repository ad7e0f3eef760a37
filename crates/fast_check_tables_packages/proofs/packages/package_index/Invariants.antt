use Rattle.std.proofs.Common.{take}
use Rattle.fast_check_tables_packages.specs.Packages.{IsPackageIndex}
use Rattle.fast_check_tables_packages.proofs.packages.package_index.Given as goal

abbrev pub invariant-loop-place : goal.invariant-loop-place
invariant-loop-place l = IsPackageIndex (take l.place l.rows) l.places
