-- Why a build stops.
use Rattle.std.specs.Prelude.{◌≡◌, List, string_bytes}
use Rattle.std.specs.List.{Contains}
use Rattle.fast_check_tables_packages.specs.Package.{Nv, nv_of}
use Rattle.fast_check_tables_packages.specs.declared.fault.BuildFault.{BuildFault}
use Rattle.fast_check_tables_packages.specs.declared.fault.BuildFault.TheVariants.{InvalidExport, OutOfMemory}
use Rattle.fast_check_finder_demands.specs.asked.Demands.{of_package}
use Rattle.fast_check_finder_loop.specs.Account.{Account, Chained}
use Rattle.fast_check_finder_ranges.specs.findings.Yields.{Yield, refused_export}
use Rattle.fast_check_finder_ranges.specs.entries.Entries.{Entrance, passed_over, refused, entered}
use Rattle.fast_check_finder_demands.specs.facts.GraphFacts.{Known}
use Rattle.fast_check_finder_loop.specs.Rules.{entrance_at, followers}

-- a package that is demanded, and its first export text that does not join. Where memory runs out nothing is said
abbrev pub IsRefusal : Known → List Nv → BuildFault → Type 0
IsRefusal k roots (InvalidExport nv text) = Chained (followers k) roots (of_package (nv_of nv)) ×
    (entrance_at k (nv_of nv) ≡ refused (string_bytes text))
IsRefusal k roots OutOfMemory = Unit {0}

abbrev pub IsNotRefused : Entrance → Type 0
IsNotRefused passed_over = Unit {0}
IsNotRefused (refused text) = ⊥
IsNotRefused (entered urls) = Unit {0}

-- the export texts of each package of the account join
abbrev pub JoinAll : Known → Account → Type 0
JoinAll k account = (nv : Nv) → Contains account (of_package nv) → IsNotRefused (entrance_at k nv)

-- it tells of no export text that does not join
abbrev pub NotRefusedYield : Yield → Type 0
NotRefusedYield (refused_export nv text) = ⊥
NotRefusedYield _ = Unit {0}

-- one of these packages, and its first export text that does not join
abbrev pub IsRefusedOf : Known → List Nv → BuildFault → Type 0
IsRefusedOf k packages (InvalidExport nv text) = Contains packages (nv_of nv) ×
    (entrance_at k (nv_of nv) ≡ refused (string_bytes text))
IsRefusedOf k packages OutOfMemory = Unit {0}
