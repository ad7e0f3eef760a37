-- Inner: no contract of a public call cites what stands here.
-- How much can still be asked.
use Rattle.std.specs.Prelude.{ℕ, ◌+◌, Bool, cond, List, [], ◌∷◌, Option, Some, None, length}
use Rattle.std.specs.List.{Contains}
use Rattle.fast_check_finder_lattice.specs.declared.lattice.imported_exports.ImportedExports.{ImportedExports}
use Rattle.fast_check_finder_lattice.specs.declared.lattice.imported_exports.ImportedExports.TheVariants.{Star, StarWithDefault}
use Rattle.fast_check_finder_lattice.specs.declared.lattice.imported_exports.ImportedExports.TheVariants.{Subset}
use Rattle.fast_check_finder_lattice.specs.Names.{Path, Touched, Covered, NameSet, paths}
use Rattle.fast_check_finder_lattice.specs.Imports.{NameDemand, names_but_default, each_name, subset_at, whole_at}

abbrev pub IsWithin : List Path → NameDemand → Type 0
IsWithin ps names_but_default = Unit {0}
IsWithin ps each_name = Unit {0}
IsWithin ps (subset_at p) = Contains ps p
IsWithin ps (whole_at p) = Contains ps p

abbrev pub total : {X : Type 0} → (X → ℕ) → List X → ℕ
total f [] = 0
total f (x ∷ xs) = f x + total f xs

abbrev pub cost : Bool → ℕ
cost b = cond b 0 1

-- how many of the paths are not touched, and not covered
abbrev pub missing : NameSet → List Path → ℕ
missing f ps = total (λ p. cost (f Touched p) + cost (f Covered p)) ps

-- how often what is demanded of a module can grow
abbrev pub rank : List Path → Option ImportedExports → ℕ
rank ps None = 3 + (length ps + length ps)
rank ps (Some StarWithDefault) = 0
rank ps (Some Star) = 1
rank ps (Some (Subset s)) = 2 + missing (paths s) ps
