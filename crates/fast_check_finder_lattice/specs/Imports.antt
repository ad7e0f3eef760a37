-- What is demanded of a module: all names but `default`, all names, or a set of names.
use Rattle.std.specs.Prelude.{◌≡◌, ◌↔◌, ◌⊎◌, Bool, true, false, ◌||◌, not, [], ◌∷◌, Option, Some, None, IsTrue, codes}
use Rattle.std.specs.Prelude.{string_bytes}
use Rattle.std.specs.Str.{bytes_eq}
use Rattle.fast_check_finder_lattice.specs.declared.lattice.named_subset.NamedSubset.{NamedSubset}
use Rattle.fast_check_finder_lattice.specs.declared.lattice.imported_exports.ImportedExports.{ImportedExports}
use Rattle.fast_check_finder_lattice.specs.declared.lattice.imported_exports.ImportedExports.TheVariants.{Star, StarWithDefault}
use Rattle.fast_check_finder_lattice.specs.declared.lattice.imported_exports.ImportedExports.TheVariants.{Subset}
use Rattle.fast_check_tables_symbols.specs.declared.file_dep_name.FileDepName.{FileDepName}
use Rattle.fast_check_tables_symbols.specs.declared.file_dep_name.FileDepName.TheVariants.{Star as StarDep, Name as NameDep}
use Rattle.fast_check_finder_lattice.specs.Names.{Name, Path, Touched, NameSet, paths, nothing, whole, has_subset, has_whole}
use Rattle.fast_check_finder_lattice.specs.Names.{IsSame, IsBelow, IsJoin, HasMore, IsDifference}

abbrev pub default_name : Name
default_name = codes "default"

-- each path that does not begin with `default`
abbrev pub all_but_default : NameSet
all_but_default part [] = false
all_but_default part (n ∷ q) = not (bytes_eq default_name n)

-- each path
abbrev pub all_names : NameSet
all_names part [] = false
all_names part (n ∷ q) = true

-- the paths that are touched and covered
abbrev pub imported : ImportedExports → NameSet
imported Star = all_but_default
imported StarWithDefault = all_names
imported (Subset s) = paths s

-- the same of an answer: None has no path
abbrev pub answered : Option ImportedExports → NameSet
answered None = nothing
answered (Some x) = imported x

-- the same form with the same names
abbrev pub IsCopy : ImportedExports → ImportedExports → Type 0
IsCopy Star Star = Unit {0}
IsCopy StarWithDefault StarWithDefault = Unit {0}
IsCopy (Subset s) (Subset t) = IsSame (paths t) (paths s)
IsCopy _ _ = ⊥

-- the state is the least of the three forms that has all of old and new
pub record IsLeastForm (old new state : ImportedExports) : Type 0 where
  pub above_old : IsBelow (imported old) (imported state)
  pub above_new : IsBelow (imported new) (imported state)
  pub least : (x : ImportedExports) → IsBelow (imported old) (imported x) → IsBelow (imported new) (imported x) →
      IsBelow (imported state) (imported x)

-- the answer is `default`, whole, alone
abbrev pub IsDefaultAlone : Option ImportedExports → Type 0
IsDefaultAlone (Some (Subset d)) = IsSame (paths d) (whole default_name [])
IsDefaultAlone _ = ⊥

-- the answer is what the set s lacked of the set t, None where that is nothing
abbrev pub IsRest : NamedSubset → NamedSubset → Option ImportedExports → Type 0
IsRest s t None = IsBelow (paths t) (paths s)
IsRest s t (Some (Subset d)) = IsDifference (paths s) (paths t) (paths d) × (n : Name) ×
    IsTrue (paths d Touched (n ∷ []))
IsRest s t (Some _) = ⊥

-- The answer, by what was there and what comes.
-- To all names nothing is new. To all names but `default`, `default` is, if what comes demands it or something below
-- it. To a set of names all names are new as they come. So are all but `default`; where `default` was there and not
-- whole, all names are answered. To a set of names another gives what was lacking.
abbrev pub IsAnswer : ImportedExports → ImportedExports → Option ImportedExports → Type 0
IsAnswer StarWithDefault new answer = answer ≡ None
IsAnswer Star new answer =
    (IsTrue (imported new Touched (default_name ∷ [])) → IsDefaultAlone answer) ×
    (imported new Touched (default_name ∷ []) ≡ false → answer ≡ None)
IsAnswer (Subset s) StarWithDefault answer = answer ≡ Some StarWithDefault
IsAnswer (Subset s) Star answer =
    (IsTrue (has_subset (paths s) (default_name ∷ [])) → answer ≡ Some StarWithDefault) ×
    (has_subset (paths s) (default_name ∷ []) ≡ false → answer ≡ Some Star)
IsAnswer (Subset s) (Subset t) answer = IsRest s t answer

-- the single things that a value demands: all names but `default`, all names, a path as a subset, or a path whole
pub data NameDemand : Type 0 where
  names_but_default : NameDemand
  each_name : NameDemand
  subset_at : Path → NameDemand
  whole_at : Path → NameDemand

abbrev pub demands : ImportedExports → NameDemand → Bool
demands Star names_but_default = true
demands StarWithDefault each_name = true
demands (Subset s) (subset_at p) = has_subset (paths s) p
demands (Subset s) (whole_at p) = has_whole (paths s) p
demands _ _ = false

abbrev pub is_star : ImportedExports → Bool
is_star Star = true
is_star StarWithDefault = true
is_star (Subset s) = false

-- a demand that stands for several: where one of the two is a star, and one of them demands `default` or something
-- below it, `default` whole and all names follow
pub record IsWidened (old new : ImportedExports) (demand : NameDemand) : Type 0 where
  pub widens_to : (demand ≡ whole_at (default_name ∷ [])) ⊎ (demand ≡ each_name)
  pub star : IsTrue (is_star old || is_star new)
  pub default : IsTrue (imported old Touched (default_name ∷ []) || imported new Touched (default_name ∷ []))

-- what `add` does to a value, and what it answers
pub record IsAdded (old new : ImportedExports) (answer : Option ImportedExports)
    (state : ImportedExports) : Type 0 where
  -- the state is the least form above both
  pub form : IsLeastForm old new state
  -- what is there after is what was there before and the answer
  pub covered : IsJoin (imported old) (answered answer) (imported state)
  pub answer_is : IsAnswer old new answer
  -- None is answered exactly where the state stays
  pub stays : (answer ≡ None) ↔ IsSame (imported state) (imported old)
  -- an answer has something that was not there
  pub progress : (x : ImportedExports) → answer ≡ Some x → HasMore (imported x) (imported old)
  -- what is answered was handed in, or is widened
  pub of_new : (x : ImportedExports) → answer ≡ Some x → (d : NameDemand) → IsTrue (demands x d) →
      IsTrue (demands new d) ⊎ IsWidened old new d
  -- what is there after stood there, was handed in, or is widened
  pub of_either : (d : NameDemand) → IsTrue (demands state d) → IsTrue (demands old d || demands new d) ⊎
      IsWidened old new d

-- what a reference to a file demands: all names but `default`, or the one name whole
abbrev pub IsDepName : FileDepName → ImportedExports → Type 0
IsDepName StarDep demanded = demanded ≡ Star
IsDepName (NameDep name) (Subset s) = IsSame (paths s) (whole (string_bytes name) [])
IsDepName (NameDep name) _ = ⊥
