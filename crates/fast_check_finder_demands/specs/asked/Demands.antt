-- Demands of packages, of names of modules and of symbols, and what follows from one.
use Rattle.std.specs.Prelude.{◌≡◌, ℕ, Bool, true, false, ◌&&◌, List, [], ◌∷◌, IsTrue}
use Rattle.std.specs.List.{Contains}
use Rattle.std.specs.Str.{bytes_eq}
use Rattle.std.specs.Ordering.{is_eq}
use Rattle.fast_check_tables_packages.specs.Package.{Nv, nv_cmp}
use Rattle.fast_check_finder_lattice.specs.declared.lattice.imported_exports.ImportedExports.{ImportedExports}
use Rattle.fast_check_finder_lattice.specs.declared.lattice.imported_exports.ImportedExports.TheVariants.{Star, StarWithDefault}
use Rattle.fast_check_finder_lattice.specs.declared.lattice.imported_exports.ImportedExports.TheVariants.{Subset}
use Rattle.fast_check_finder_lattice.specs.Names.{Path, NameSet, paths, is_touched, whole_path, has_subset, has_whole}
use Rattle.fast_check_finder_lattice.specs.Imports.{NameDemand, names_but_default, each_name, subset_at, whole_at}
use Rattle.fast_check_finder_lattice.specs.Imports.{all_but_default, all_names}
use Rattle.fast_check_finder_demands.specs.symbol_demands.Demands.{Demand as SymbolDemand}

-- a specifier, by its text
abbrev pub Text : Type 0
Text = List ℕ

-- packages are told by name and version
abbrev pub same_nv : Nv → Nv → Bool
same_nv a b = is_eq (nv_cmp a b)

-- for each single demand of names, whether it is among those that are asked for
abbrev pub NameDemands : Type 0
NameDemands = NameDemand → Bool

-- the single demands of a name set: the empty path touched, each path that holds a subset touched, and each path that
-- is whole
abbrev pub set_demands : NameSet → NameDemands
set_demands f names_but_default = false
set_demands f each_name = false
set_demands f (subset_at []) = true
set_demands f (subset_at (n ∷ p)) = has_subset f (n ∷ p)
set_demands f (whole_at p) = has_whole f p

-- the single demands of what is asked of a module
abbrev pub asked : ImportedExports → NameDemands
asked Star names_but_default = true
asked StarWithDefault each_name = true
asked (Subset s) d = set_demands (paths s) d
asked _ _ = false

-- the beginnings of a path
abbrev pub begins : Path → Path → Bool
begins [] p = true
begins (m ∷ q) [] = false
begins (m ∷ q) (n ∷ p) = bytes_eq n m && begins q p

-- a path touched touches its beginnings, but for the empty one
abbrev pub touched_path : Path → NameSet
touched_path p part [] = false
touched_path p part (m ∷ q) = is_touched part && begins (m ∷ q) p

-- the names of a single demand
abbrev pub one : NameDemand → NameSet
one names_but_default = all_but_default
one each_name = all_names
one (subset_at p) = touched_path p
one (whole_at p) = whole_path p

-- what is asked for where a single demand is: a path as a name set, with its beginnings touched
abbrev pub asked_by : NameDemand → NameDemands
asked_by names_but_default = asked Star
asked_by each_name = asked StarWithDefault
asked_by (subset_at p) = set_demands (touched_path p)
asked_by (whole_at p) = set_demands (whole_path p)

-- a single demand: a package; one thing of a module, for a package, under the specifier by which it is asked for; or a
-- demand of a symbol of a module, for a package, where the module goes by its own name
pub data Demand : Type 0 where
  of_package : Nv → Demand
  of_module : Nv → Text → NameDemand → Demand
  of_symbol : Nv → Text → SymbolDemand → Demand

-- demands that are asked for at once: of a package, of names of a module for a package, or one of a symbol
pub data DemandSet : Type 0 where
  to_package : Nv → DemandSet
  to_module : Nv → Text → NameDemands → DemandSet
  to_symbol : Nv → Text → SymbolDemand → DemandSet

-- the demands that follow from each demand
abbrev pub Followers : Type 0
Followers = Demand → List DemandSet

-- a demand is one of the set
abbrev pub Includes : DemandSet → Demand → Type 0
Includes (to_package p) (of_package q) = p ≡ q
Includes (to_module p t w) (of_module q u d) = (p ≡ q) × (t ≡ u) × IsTrue (w d)
Includes (to_symbol p t s) (of_symbol q u e) = (p ≡ q) × (t ≡ u) × (s ≡ e)
Includes _ _ = ⊥

-- e follows from d
pub record Follows (followers : Followers) (d e : Demand) : Type 0 where
  pub demand_set : DemandSet
  pub among : Contains (followers d) demand_set
  pub includes : Includes demand_set e
