-- Inner: no contract of a public call cites what stands here.
-- The packages that were asked for, as they are found by their order.
use Rattle.std.specs.Prelude.{◌≡◌, List, map}
use Rattle.std.specs.List.{list_any}
use Rattle.std.specs.BTreeSet.{BTreeSet, contains}
use Rattle.fast_check_tables_packages.specs.declared.package.PackageNv.{PackageNv}
use Rattle.fast_check_tables_packages.specs.Package.{nv_of}
use Rattle.fast_check_tables_packages.specs.Packages.{package_cmp}
use Rattle.fast_check_finder_demands.specs.asked.Demands.{same_nv}

-- the set has these packages, and no other
pub record HasPackages (packages : List PackageNv) (known : BTreeSet PackageNv) : Type 0 where
  pub says : (nv : PackageNv) → contains package_cmp known nv ≡ list_any (same_nv (nv_of nv)) (map nv_of packages)
