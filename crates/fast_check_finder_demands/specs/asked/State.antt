-- Inner: no contract of a public call cites what stands here.
-- What was asked for before: packages, and paths of a module.
use Rattle.std.specs.Prelude.{◌≡◌, ◌++◌, Bool, false, cond, List, [], ◌∷◌, Option, Some, None}
use Rattle.std.specs.List.{list_any}
use Rattle.fast_check_tables_packages.specs.Package.{Nv}
use Rattle.fast_check_finder_lattice.specs.declared.lattice.imported_exports.ImportedExports.{ImportedExports}
use Rattle.fast_check_finder_lattice.specs.Names.{Touched, Covered}
use Rattle.fast_check_finder_lattice.specs.Imports.{imported, NameDemand, subset_at, whole_at}
use Rattle.fast_check_finder_demands.specs.asked.Demands.{same_nv}

-- a package stands once
abbrev pub AddsPackage : Nv → List Nv → List Nv → Type 0
AddsPackage p old new = new ≡ cond (list_any (same_nv p) old) old (old ++ p ∷ [])

-- whether a demand is a path that is among what was demanded; other demands are not looked up
abbrev pub has_path : ImportedExports → NameDemand → Bool
has_path x (subset_at (n ∷ p)) = imported x Touched (n ∷ p)
has_path x (whole_at (n ∷ p)) = imported x Covered (n ∷ p)
has_path x _ = false

-- the same of what was demanded of a module, if it is known
abbrev pub was_told : Option ImportedExports → NameDemand → Bool
was_told None d = false
was_told (Some x) d = has_path x d
