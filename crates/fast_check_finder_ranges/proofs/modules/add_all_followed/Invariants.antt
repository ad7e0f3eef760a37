use Rattle.std.specs.List.{flat_map}
use Rattle.fast_check_tables_packages.specs.Package.{Nv}
use Rattle.fast_check_finder_ranges.specs.findings.Found.{module_yields}
use Rattle.fast_check_finder_ranges.specs.Parts.{Joins}
use Rattle.fast_check_finder_ranges.proofs.modules.add_all_followed.Given as goal

abbrev pub invariant-loop-found : goal.invariant-loop-found
invariant-loop-found l = (nv : Nv) → Joins (flat_map (module_yields nv) l.yielded) l.initial.modules.entries l.modules.entries
