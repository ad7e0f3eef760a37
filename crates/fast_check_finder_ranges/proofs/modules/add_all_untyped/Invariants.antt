use Rattle.std.specs.List.{flat_map}
use Rattle.fast_check_tables_packages.specs.Package.{Nv}
use Rattle.fast_check_finder_ranges.specs.findings.Found.{untyped_yields}
use Rattle.fast_check_finder_ranges.specs.Parts.{Joins}
use Rattle.fast_check_finder_ranges.proofs.modules.add_all_untyped.Given as goal

abbrev pub invariant-loop-specifier : goal.invariant-loop-specifier
invariant-loop-specifier l = (nv : Nv) → Joins (flat_map (untyped_yields nv) l.yielded) l.initial.modules.entries l.modules.entries
