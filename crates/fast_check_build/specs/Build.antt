-- What a build answers, and what a cache has then.
use Rattle.std.specs.Prelude.{◌≡◌, ◌⊎◌, ℕ, Bool, List, Option, Result, Vec, take, MatchResult}
use Rattle.std.specs.BTreeMap.{BTreeMap, IsOrdered}
use Rattle.std.specs.declared.alloc.Global.{Global}
use Rattle.fast_check_tables_packages.specs.Package.{Nv}
use Rattle.fast_check_tables_packages.specs.declared.package.PackageNv.{PackageNv}
use Rattle.fast_check_tables_packages.specs.declared.fault.BuildFault.{BuildFault}
use Rattle.fast_check_tables_packages.specs.declared.fault.BuildFault.TheVariants.{OutOfMemory}
use Rattle.fast_check_tables_cache.specs.Cache.{ItemView}
use Rattle.fast_check_tables_cache.specs.CachedPackages.{used_item}
use Rattle.fast_check_tables_cache.specs.declared.package_ranges.PackagePublicRanges.{PackagePublicRanges}
use Rattle.fast_check_build_answers.specs.PackageAnswer.{Answer}
use Rattle.fast_check_build_answers.specs.Answered.{by_nv, AreAnswered, sets}
use Rattle.fast_check_build_answers.specs.Once.{AreAnsweredOnce}
use Rattle.fast_check_build_answers.specs.declared.once.PackageAnswer.{PackageAnswer}
use Rattle.fast_check_finder_loop.specs.demands.facts.GraphFacts.{Known, with_used}
use Rattle.fast_check_finder_loop.specs.Refusals.{IsRefusal}
use Rattle.fast_check_build.specs.Found.{IsFound}

-- it was found what is public in the packages that are handed in, and in all that follow from them; and each of them is
-- answered, in the order of their names and versions
pub record IsBuilt (k : Known) (roots : List Nv) (first : Bool) (answers : List Answer) : Type 0 where
  pub ranges : BTreeMap PackageNv PackagePublicRanges
  pub found : IsFound k roots ranges
  pub packages_in_order : IsOrdered by_nv ranges
  pub answered : AreAnswered k.graph k.root_symbol first ranges.entries answers

-- the same where a cache is lent, with the hash of a package and its entry points: the items of the packages were set
-- then, in order
pub record IsBuiltWith (k : Known) (roots : List Nv) (first : Bool) (key : Nv → List (List ℕ) → ℕ)
    (old new : ℕ → Option ItemView) (answers : List Answer) : Type 0 where
  pub built : IsBuilt k roots first answers
  pub set : new ≡ sets key first k.graph k.root_symbol built.ranges.entries old

-- it was found what is public, and the items of the first packages were set
pub record IsCutShort (k : Known) (roots : List Nv) (first : Bool) (key : Nv → List (List ℕ) → ℕ)
    (old new : ℕ → Option ItemView) : Type 0 where
  pub ranges : BTreeMap PackageNv PackagePublicRanges
  pub found : IsFound k roots ranges
  pub packages_in_order : IsOrdered by_nv ranges
  pub count : ℕ
  pub set : new ≡ sets key first k.graph k.root_symbol (take count ranges.entries) old

-- a build with a cache stops where packages are looked for, and nothing is set; or behind that, where memory runs out
abbrev pub IsStopped : Known → List Nv → Bool → (Nv → List (List ℕ) → ℕ) → (ℕ → Option ItemView) →
    (ℕ → Option ItemView) → BuildFault → Type 0
IsStopped k roots first key old new fault =
    (IsRefusal k roots fault × (new ≡ old)) ⊎ ((fault ≡ OutOfMemory) × IsCutShort k roots first key old new)

-- the same where the diagnostics of a package stand once
pub record IsBuiltOnce (k : Known) (roots : List Nv) (first : Bool) (packages : List PackageAnswer) : Type 0 where
  pub ranges : BTreeMap PackageNv PackagePublicRanges
  pub found : IsFound k roots ranges
  pub packages_in_order : IsOrdered by_nv ranges
  pub answered : AreAnsweredOnce k.graph k.root_symbol first ranges.entries packages

abbrev pub BuildsOnce : Known → List Nv → Bool → Result (Vec PackageAnswer Global) BuildFault → Type 0
BuildsOnce k roots first result = MatchResult result (λ packages. IsBuiltOnce k roots first packages.items) (IsRefusal k roots)

-- a build answers, or is refused
abbrev pub Builds : Known → List Nv → Bool → Result (Vec Answer Global) BuildFault → Type 0
Builds k roots first result = MatchResult result (λ answers. IsBuilt k roots first answers.items) (IsRefusal k roots)

-- a build to which a cache is lent answers by the items that the cache has, or stops
abbrev pub BuildsWith : Known → List Nv → Bool → (Nv → List (List ℕ) → ℕ) → (ℕ → Option ItemView) → (ℕ → Option ItemView) →
    Result (Vec Answer Global) BuildFault → Type 0
BuildsWith k roots first key old new result = let lent = with_used (used_item key old k.graph) k in
    MatchResult result (λ answers. IsBuiltWith lent roots first key old new answers.items) (IsStopped lent roots first key old new)
