use Rattle.std.proofs.Common.{◌≡◌, ◌||◌, map, take}
use Rattle.std.specs.List.{list_any}
use Rattle.fast_check_tables_packages.specs.Package.{Nv, nv_of}
use Rattle.fast_check_finder_demands.specs.asked.Demands.{same_nv}
use Rattle.fast_check_finder_ranges.specs.Parts.{is_package, named_at}
use Rattle.fast_check_finder_ranges.proofs.packages.add_dependencies.Given as goal

abbrev pub invariant-loop-place : goal.invariant-loop-place
invariant-loop-place l = (nv : Nv) → list_any (is_package nv) l.dependencies.keys ≡
    (list_any (is_package nv) l.initial.dependencies.keys || list_any (same_nv nv) (named_at (map nv_of l.packages) (take l.place-index l.places)))
