-- What answers by package say.
use Rattle.std.specs.Prelude.{◌≡◌, Bool, true, false, cond, List, [], ◌∷◌, map, Option, Some, None}
use Rattle.std.specs.List.{list_any, filter, flat_map, Contains}
use Rattle.std.specs.Map.{lookup}
use Rattle.std.specs.Option.{option_and_then}
use Rattle.std.specs.Str.{bytes_eq}
use Rattle.std.specs.BTreeMap.{BTreeMap}
use Rattle.url.specs.Parts.{Parts, serialize}
use Rattle.fast_check_tree_syntax.specs.declared.source.SourceRange.{SourceRange}
use Rattle.fast_check_tables_packages.specs.Package.{Nv, nv_of}
use Rattle.fast_check_tables_packages.specs.declared.package.PackageNv.{PackageNv}
use Rattle.fast_check_tables_cache.specs.Cache.{ItemView, module_of as item_module}
use Rattle.fast_check_tables_cache.specs.declared.package_ranges.PackagePublicRanges.{PackagePublicRanges}
use Rattle.fast_check_tables_diagnostics.specs.PublicRanges.{PublicRanges, same_range}
use Rattle.fast_check_finder_demands.specs.asked.Demands.{Text, same_nv}
use Rattle.fast_check_finder_ranges.specs.findings.Diagnostics.{AreDiagnosed}
use Rattle.fast_check_finder_ranges.specs.findings.Yields.{ModuleFault, Yield, known_package, entry_point, refused_export, dependency}
use Rattle.fast_check_finder_ranges.specs.findings.Yields.{recorded, public, implementing, faulty, cached}
pub use Rattle.fast_check_finder_ranges.specs.findings.Yields.{package_of}

-- which module a yield is about

abbrev pub modules_of : Yield → List Text
modules_of (recorded nv t) = t ∷ []
modules_of (public nv t r) = t ∷ []
modules_of (implementing nv t r) = t ∷ []
modules_of (faulty nv t f) = t ∷ []
modules_of y = []

abbrev pub about : Nv → List Yield → List Yield
about nv yields = filter (λ y. same_nv nv (package_of y)) yields

abbrev pub about_module : Text → List Yield → List Yield
about_module t yields = filter (λ y. list_any (bytes_eq t) (modules_of y)) yields

-- what a yield says of its package, and of its module

abbrev pub entry_points_of : Yield → List Text
entry_points_of (entry_point nv t) = t ∷ []
entry_points_of (cached nv entry_points item) = map serialize entry_points
entry_points_of y = []

abbrev pub dependencies_of : Yield → List Nv
dependencies_of (dependency nv d) = d ∷ []
dependencies_of (cached nv entry_points item) = item.0
dependencies_of y = []

abbrev pub ranges_of : Yield → List SourceRange
ranges_of (public nv t r) = r ∷ []
ranges_of y = []

abbrev pub implementations_of : Yield → List SourceRange
implementations_of (implementing nv t r) = r ∷ []
implementations_of y = []

abbrev pub faults_of : Yield → List ModuleFault
faults_of (faulty nv t f) = f ∷ []
faults_of y = []

abbrev pub refused_of : Yield → List Text
refused_of (refused_export nv t) = t ∷ []
refused_of y = []

abbrev pub is_filled : {X : Type 0} → List X → Bool
is_filled [] = false
is_filled (x ∷ xs) = true

-- an item that is used and has modules, with the entry points
abbrev pub items_of : Yield → List (List Parts × ItemView)
items_of (cached nv entry_points item) = cond (is_filled item.1) ((entry_points, item) ∷ []) []
items_of y = []

-- two lists have the same, by a test of what is the same
abbrev pub AreSame : {X : Type 0} → (X → X → Bool) → List X → List X → Type 0
AreSame {X} same xs ys = (x : X) → list_any (same x) xs ≡ list_any (same x) ys

-- an answer stands exactly if there are yields about it, and answers them
abbrev pub StandsFor : {X : Type 0} → (List Yield → X → Type 0) → List Yield → Option X → Type 0
StandsFor P ys None = ys ≡ []
StandsFor P ys (Some x) = (is_filled ys ≡ true) × P ys x

abbrev pub lookup_text : {X : Type 0} → Text → List (Parts × X) → Option X
lookup_text t modules = lookup (λ url. bytes_eq t (serialize url)) modules

abbrev pub lookup_package : {X : Type 0} → Nv → List (PackageNv × X) → Option X
lookup_package nv packages = lookup (λ p. same_nv nv (nv_of p)) packages

-- a module, by the yields about it
pub record IsModuleAnswer (t : Text) (ys : List Yield) (m : PublicRanges) : Type 0 where
  pub ranges : AreSame same_range m.ranges (flat_map ranges_of ys)
  pub implementations : AreSame same_range m.implementations (flat_map implementations_of ys)
  pub diagnosed : AreDiagnosed t (flat_map faults_of ys) m.diagnostics

-- a package, by the yields about it
pub record IsFollowedAnswer (ys : List Yield) (p : PackagePublicRanges) : Type 0 where
  pub entry_points : AreSame bytes_eq (map serialize p.entrypoints.keys) (flat_map entry_points_of ys)
  pub dependencies : AreSame same_nv (map nv_of p.dependencies.keys) (flat_map dependencies_of ys)
  pub modules : (t : Text) → StandsFor (IsModuleAnswer t) (about_module t ys) (lookup_text t p.module_ranges.entries)
  pub uncached : p.cache_items.items ≡ []
  pub not_refused : flat_map refused_of ys ≡ []

-- a package whose item is used: its entry points, and the dependencies and modules of the item, in their order
pub record IsItemAnswer (entry_points : List Parts) (item : ItemView) (p : PackagePublicRanges) : Type 0 where
  pub entry_points_are : p.entrypoints.keys ≡ entry_points
  pub dependencies_are : map nv_of p.dependencies.keys ≡ item.0
  pub modules_are : map (λ e. (e.0, item_module e.1)) p.cache_items.items ≡ item.1
  pub nothing_else : p.module_ranges.entries ≡ []

-- an item that is used and has modules is answered in place of all that the yields say of its package
abbrev pub IsAnswerBy : List (List Parts × ItemView) → List Yield → PackagePublicRanges → Type 0
IsAnswerBy [] ys p = IsFollowedAnswer ys p
IsAnswerBy (i ∷ items) ys p = (e : List Parts × ItemView) × Contains (i ∷ items) e × IsItemAnswer e.0 e.1 p

abbrev pub IsPackageAnswer : List Yield → PackagePublicRanges → Type 0
IsPackageAnswer ys p = IsAnswerBy (flat_map items_of ys) ys p

-- The answers say what the yields say, and nothing else: each package stands exactly if a yield is about it, and each
-- module of it alike, with the sets of what the yields say of them. Each diagnostic reports what some yield says, and all
-- that is to be reported is reported, but nothing twice; and nothing comes from a cache but an item that is used.
abbrev pub AreAnswers : List Yield → BTreeMap PackageNv PackagePublicRanges → Type 0
AreAnswers yields answers =
    (nv : Nv) → StandsFor IsPackageAnswer (about nv yields) (lookup_package nv answers.entries)

-- the answer about a module of a package
abbrev pub module_answer : BTreeMap PackageNv PackagePublicRanges → Nv → Text → Option PublicRanges
module_answer answers nv t = option_and_then (λ p. lookup_text t p.module_ranges.entries)
    (lookup_package nv answers.entries)
