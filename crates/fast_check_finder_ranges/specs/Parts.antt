-- Inner: no contract of a public call cites what stands here.
-- What is known of packages and modules while they are answered.
use Rattle.std.specs.Prelude.{◌≡◌, ⊤, ℕ, Bool, true, false, List, [], ◌++◌, Option, Some, None, option_to_list, slice_get}
use Rattle.std.specs.List.{flat_map}
use Rattle.std.specs.Str.{bytes_eq}
use Rattle.url.specs.Parts.{Parts, serialize}
use Rattle.fast_check_tables_packages.specs.Package.{Nv, nv_of}
use Rattle.fast_check_tables_packages.specs.declared.package.PackageNv.{PackageNv}
use Rattle.fast_check_tables_cache.specs.Cache.{ItemView, item_of}
use Rattle.fast_check_tables_cache.specs.declared.package_ranges.PackagePublicRanges.{PackagePublicRanges}
use Rattle.fast_check_tables_diagnostics.specs.PublicRanges.{PublicRanges}
use Rattle.fast_check_finder_demands.specs.asked.Demands.{Text, same_nv}
use Rattle.fast_check_finder_ranges.specs.findings.Found.{package_yields}
use Rattle.fast_check_finder_ranges.specs.findings.ModuleFaults.{AreFaultsOf}
use Rattle.fast_check_finder_ranges.specs.findings.Yields.{Yield}
use Rattle.fast_check_finder_ranges.specs.declared.findings.found.Entrance.{Entrance}
use Rattle.fast_check_finder_ranges.specs.declared.findings.found.Entrance.TheVariants.{Entered, Cached}
use Rattle.fast_check_finder_ranges.specs.declared.findings.found.FoundPackage.{FoundPackage}
use Rattle.fast_check_finder_ranges.specs.declared.modules.ModuleParts.{ModuleParts}
use Rattle.fast_check_finder_ranges.specs.Answers.{ranges_of, implementations_of, faults_of, about_module, StandsFor}
use Rattle.fast_check_finder_ranges.specs.Answers.{lookup_text, lookup_package, IsModuleAnswer, IsPackageAnswer}

abbrev pub is_text : Text → Parts → Bool
is_text t url = bytes_eq t (serialize url)

abbrev pub is_package : Nv → PackageNv → Bool
is_package nv p = same_nv nv (nv_of p)

-- what the yields about a module came to
pub record AreParts (ys : List Yield) (m : ModuleParts) : Type 0 where
  pub ranges : m.ranges.items ≡ flat_map ranges_of ys
  pub implementations : m.implementations.items ≡ flat_map implementations_of ys
  pub faults : AreFaultsOf (flat_map faults_of ys) m.faults

-- what the yields about a package came to, by its modules
abbrev pub AreModules : List Yield → List (Parts × ModuleParts) → Type 0
AreModules ys modules = (t : Text) → StandsFor AreParts (about_module t ys) (lookup_text t modules)

-- with these yields more
abbrev pub Joins : List Yield → List (Parts × ModuleParts) → List (Parts × ModuleParts) → Type 0
Joins more old new = (ys : List Yield) → AreModules ys old → AreModules (ys ++ more) new

abbrev pub AreAnswered : List Yield → List (Parts × PublicRanges) → Type 0
AreAnswered ys modules = (t : Text) → StandsFor (IsModuleAnswer t) (about_module t ys) (lookup_text t modules)

-- the answer of a module that is collected
abbrev pub IsAnswerOf : Text → Option ModuleParts → Option PublicRanges → Type 0
IsAnswerOf t None None = ⊤
IsAnswerOf t (Some parts) (Some m) = (ys : List Yield) → AreParts ys parts → IsModuleAnswer t ys m
IsAnswerOf t _ _ = ⊥

-- the entry points of a package that was entered, and its item, where that is used
abbrev pub urls_at : Option Entrance → List Parts
urls_at None = []
urls_at (Some (Entered entry_points faults)) = entry_points.value.keys
urls_at (Some (Cached entry_points item)) = entry_points.value.keys

abbrev pub item_at : Option Entrance → ItemView
item_at None = ([], [])
item_at (Some (Entered entry_points faults)) = ([], [])
item_at (Some (Cached entry_points item)) = item_of item

-- the packages at these places
abbrev pub named_at : List Nv → List ℕ → List Nv
named_at packages places = flat_map (λ place. option_to_list (slice_get packages place)) places

abbrev pub yields_at : List Nv → PackageNv × FoundPackage → List Yield
yields_at packages e = package_yields packages (nv_of e.0) e.1

-- the answer of one more package stands, and those of others stay
pub record IsAdded (packages : List Nv) (e : PackageNv × FoundPackage)
    (old new : List (PackageNv × PackagePublicRanges)) : Type 0 where
  pub stays : (nv : Nv) → is_package nv e.0 ≡ false → lookup_package nv new ≡ lookup_package nv old
  pub stands : (nv q : Nv) → is_package nv e.0 ≡ true → lookup_package nv old ≡ None →
      StandsFor IsPackageAnswer (package_yields packages q e.1) (lookup_package nv new)
