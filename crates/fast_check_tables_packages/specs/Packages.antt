-- Inner: no contract of a public call cites what stands here.
-- Indexes of packages that are listed with their URLs.
use Rattle.std.specs.Prelude.{◌≡◌, ◌<◌, ℕ, List, length, map, slice_get, Option}
use Rattle.std.specs.BTreeMap.{BTreeMap, get}
use Rattle.std.specs.Option.{IfSome, option_and_then}
use Rattle.std.specs.declared.cmp.Ordering.{Ordering}
use Rattle.url.specs.Parts.{serialize}
use Rattle.fast_check_tables_packages.specs.declared.package.PackageNv.{PackageNv}
use Rattle.fast_check_tables_packages.specs.Package.{nv_of, nv_cmp}
use Rattle.fast_check_tables_packages.specs.Listed.{Row, row_of}
use Rattle.fast_check_tables_packages.specs.Texts.{IsTextIndex}
use Rattle.fast_check_tables_packages.specs.declared.texts.TextIndex.{TextIndex}

abbrev pub package_cmp : PackageNv → PackageNv → Ordering
package_cmp a b = nv_cmp (nv_of a) (nv_of b)

-- these are the last places of each package
pub record ArePlaces (rows : List Row) (place_of : PackageNv → Option ℕ) : Type 0 where
  pub within : (nv : PackageNv) → IfSome (place_of nv) (λ place. place < length rows)
  pub says : (nv : PackageNv) → option_and_then (slice_get rows) (place_of nv) ≡ row_of rows (nv_of nv)

-- it has the last place of each package
abbrev pub IsPackageIndex : List Row → BTreeMap PackageNv ℕ → Type 0
IsPackageIndex rows places = ArePlaces rows (get package_cmp places)

-- the texts of their URLs
abbrev pub texts_of : List Row → List (List ℕ)
texts_of rows = map (λ e. serialize e.1) rows

-- two indexes of the same rows
pub record AreIndexed (rows : List Row) (places : BTreeMap PackageNv ℕ) (texts : TextIndex) : Type 0 where
  pub packages : IsPackageIndex rows places
  pub urls : IsTextIndex (texts_of rows) texts
