-- The public ranges that answers list.
use Rattle.std.specs.Prelude.{◌≡◌, ◌↔◌, Bool, List, Some, IsTrue}
use Rattle.std.specs.List.{list_any}
use Rattle.std.specs.BTreeMap.{BTreeMap}
use Rattle.url.specs.Parts.{Parts}
use Rattle.fast_check_tree_syntax.specs.declared.source.SourceRange.{SourceRange}
use Rattle.fast_check_tables_packages.specs.Package.{Nv}
use Rattle.fast_check_tables_packages.specs.declared.package.PackageNv.{PackageNv}
use Rattle.fast_check_tables_cache.specs.Cache.{ItemView}
use Rattle.fast_check_tables_cache.specs.declared.package_ranges.PackagePublicRanges.{PackagePublicRanges}
use Rattle.fast_check_tables_diagnostics.specs.PublicRanges.{PublicRanges, same_range}
use Rattle.fast_check_finder_demands.specs.asked.Demands.{Text}
use Rattle.fast_check_finder_demands.specs.facts.GraphFacts.{Known}
use Rattle.fast_check_finder_ranges.specs.Answers.{AreAnswers, module_answer}
use Rattle.fast_check_finder_ranges.specs.findings.Yields.{Yield, public, implementing, cached}
use Rattle.fast_check_finder_loop.specs.Account.{Account, IsAccount, IsYield}
use Rattle.fast_check_finder_loop.specs.Rules.{followers}
use Rattle.fast_check_finder_loop.specs.Yields.{demand_yields}
use Rattle.fast_check_finder_unique.specs.Settled.{AreSettled}

abbrev pub Answers : Type 0
Answers = BTreeMap PackageNv PackagePublicRanges

-- answers that an account justifies, as it does those of the finder
pub record AreAnswersOf (k : Known) (roots : List Nv) (answers : Answers) : Type 0 where
  pub account : Account
  pub yields : List Yield
  pub is_account : IsAccount (followers k) roots account
  pub is_yield : IsYield (demand_yields k) account yields
  pub says : AreAnswers yields answers

abbrev pub public_ranges : PublicRanges → List SourceRange
public_ranges m = m.ranges

abbrev pub implementation_ranges : PublicRanges → List SourceRange
implementation_ranges m = m.implementations

-- for this module of the package, the answers list the range
abbrev pub Lists : (PublicRanges → List SourceRange) → Answers → Nv → Text → SourceRange → Type 0
Lists these answers nv t r = (m : PublicRanges) × (module_answer answers nv t ≡ Some m) ×
    IsTrue (list_any (same_range r) (these m))

-- the test picks public ranges, implementations of overloads, and cached items that are used
pub record PicksRanges (picks : Yield → Bool) : Type 0 where
  pub public : (nv : Nv) (t : Text) (r : SourceRange) → IsTrue (picks (public nv t r))
  pub implementing : (nv : Nv) (t : Text) (r : SourceRange) → IsTrue (picks (implementing nv t r))
  pub cached : (nv : Nv) (entry_points : List Parts) (item : ItemView) → IsTrue (picks (cached nv entry_points item))

-- both list the same public ranges, and the same implementations of overloads
pub record ListTheSame (a b : Answers) : Type 0 where
  pub public : (nv : Nv) (t : Text) (r : SourceRange) → Lists public_ranges a nv t r ↔ Lists public_ranges b nv t r
  pub implementing : (nv : Nv) (t : Text) (r : SourceRange) →
      Lists implementation_ranges a nv t r ↔ Lists implementation_ranges b nv t r

-- where an input is settled, any two answers to it list the same
abbrev pub HaveOneAnswer : Type 0
HaveOneAnswer = (k : Known) (roots : List Nv) (picks : Yield → Bool) → PicksRanges picks →
    AreSettled (followers k) (demand_yields k) roots picks → (a b : Answers) → AreAnswersOf k roots a → AreAnswersOf k roots b →
    ListTheSame a b
