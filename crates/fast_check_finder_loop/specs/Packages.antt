-- Inner: no contract of a public call cites what stands here.
-- What was found, as it is collected by package.
use Rattle.std.specs.Prelude.{◌≡◌, ◌⊎◌, ℕ, ◌<◌, List, [], ◌∷◌, ◌++◌, Some, None, map, length, slice_get}
use Rattle.std.specs.List.{flat_map, Contains}
use Rattle.fast_check_tables_packages.specs.Package.{Nv, nv_of}
use Rattle.fast_check_tables_packages.specs.declared.package.PackageNv.{PackageNv}
use Rattle.fast_check_finder_demands.specs.Yields.{Joins}
use Rattle.fast_check_finder_ranges.specs.findings.Found.{found_yields}
use Rattle.fast_check_finder_ranges.specs.findings.Yields.{Yield}
use Rattle.fast_check_finder_ranges.specs.declared.findings.found.Entrance.{Entrance}
use Rattle.fast_check_finder_ranges.specs.declared.findings.found.FoundPackage.{FoundPackage}
use Rattle.fast_check_finder_loop.specs.Finder.{entered_yields, entered_nv}

abbrev pub Found : Type 0
Found = List (PackageNv × FoundPackage)

abbrev pub Entered : Type 0
Entered = PackageNv × Entrance

-- nothing was found of a package
pub record IsNew (p : FoundPackage) : Type 0 where
  pub entrance : p.entrance ≡ None
  pub dependencies : p.dependencies.items ≡ []
  pub modules : p.modules.items ≡ []
  pub untyped : p.untyped.items ≡ []

-- a package has a place: its own, or a new last one
pub record IsNumbered (nv : Nv) (number : ℕ) (old new : Found) : Type 0 where
  pub entry : PackageNv × FoundPackage
  pub here : slice_get new number ≡ Some entry
  pub named : nv_of entry.0 ≡ nv
  pub by : (new ≡ old) ⊎ ((new ≡ old ++ entry ∷ []) × IsNew entry.1)

-- packages depend on those that have a place
abbrev pub HasPlaces : Found → Type 0
HasPlaces found = (e : PackageNv × FoundPackage) → Contains found e → (place : ℕ) → Contains e.1.dependencies.items place →
    place < length found

-- these are found more
pub record Adds (more : List Yield) (old new : Found) : Type 0 where
  pub places : HasPlaces old → HasPlaces new
  pub yields : HasPlaces old → Joins more (found_yields old) (found_yields new)

-- only how these packages were entered is found
pub record IsEntered (entrances : List Entered) (found : Found) : Type 0 where
  pub named : (e : PackageNv × FoundPackage) → Contains found e → Contains (map entered_nv entrances) (nv_of e.0)
  pub places : HasPlaces found
  pub yields : Joins (flat_map entered_yields entrances) [] (found_yields found)
