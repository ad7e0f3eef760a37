-- Any two answers of the same packages.
use Rattle.std.proofs.Common.{Bool, List}
use Rattle.std.specs.Prelude.{IsTrue}
use Rattle.std.specs.List.{Contains}
use Rattle.url.specs.Parts.{Parts}
use Rattle.fast_check_tree_syntax.specs.declared.source.SourceRange.{SourceRange}
use Rattle.fast_check_tables_packages.specs.Package.{Nv}
use Rattle.fast_check_tables_cache.specs.Cache.{ItemView}
use Rattle.fast_check_finder_demands.specs.asked.Demands.{Text}
use Rattle.fast_check_finder_demands.specs.facts.GraphFacts.{Known}
use Rattle.fast_check_finder_demands.proofs.Elements.{no_element}
use Rattle.fast_check_finder_ranges.specs.Answers.{ranges_of, implementations_of, items_of}
use Rattle.fast_check_finder_ranges.specs.findings.Yields.{Yield, known_package, entry_point, refused_export, dependency, recorded, public, implementing, faulty, cached}
use Rattle.fast_check_finder_loop.specs.Rules.{followers}
use Rattle.fast_check_finder_loop.specs.Yields.{demand_yields}
use Rattle.fast_check_finder_unique.specs.Settled.{AreSettled}
use Rattle.fast_check_finder_unique.specs.Answers.{Answers, AreAnswersOf, public_ranges, implementation_ranges, Lists, PicksRanges, ListTheSame}
use Rattle.fast_check_finder_unique.proofs.Alike.{yield_the_same}
use Rattle.fast_check_finder_unique.proofs.Answered.{is_cached, listed_alike}

picks_public : (picks : Yield → Bool) → PicksRanges picks → (y : Yield) (x : SourceRange) → Contains (ranges_of y) x → IsTrue (picks y)
picks_public picks p (known_package nv) x c = absurd (no_element x c)
picks_public picks p (entry_point nv t) x c = absurd (no_element x c)
picks_public picks p (refused_export nv t) x c = absurd (no_element x c)
picks_public picks p (dependency nv d) x c = absurd (no_element x c)
picks_public picks p (recorded nv t) x c = absurd (no_element x c)
picks_public picks p (public nv t r) x c = p.public nv t r
picks_public picks p (implementing nv t r) x c = absurd (no_element x c)
picks_public picks p (faulty nv t f) x c = absurd (no_element x c)
picks_public picks p (cached nv entry_points item) x c = absurd (no_element x c)

picks_implementing : (picks : Yield → Bool) → PicksRanges picks → (y : Yield) (x : SourceRange) → Contains (implementations_of y) x →
    IsTrue (picks y)
picks_implementing picks p (known_package nv) x c = absurd (no_element x c)
picks_implementing picks p (entry_point nv t) x c = absurd (no_element x c)
picks_implementing picks p (refused_export nv t) x c = absurd (no_element x c)
picks_implementing picks p (dependency nv d) x c = absurd (no_element x c)
picks_implementing picks p (recorded nv t) x c = absurd (no_element x c)
picks_implementing picks p (public nv t r) x c = absurd (no_element x c)
picks_implementing picks p (implementing nv t r) x c = p.implementing nv t r
picks_implementing picks p (faulty nv t f) x c = absurd (no_element x c)
picks_implementing picks p (cached nv entry_points item) x c = absurd (no_element x c)

module _ (k : Known) (roots : List Nv) (picks : Yield → Bool) (ranges : PicksRanges picks)
    (settled : AreSettled (followers k) (demand_yields k) roots picks) where
  alike : (a b : Answers) (in_a : AreAnswersOf k roots a) (in_b : AreAnswersOf k roots b) (y : Yield) → IsTrue (picks y) →
      Contains in_a.yields y → Contains in_b.yields y
  alike a b in_a in_b y picked h =
      (yield_the_same (followers k) (demand_yields k) roots picks settled in_a.account in_b.account in_a.yields in_b.yields
      in_a.is_account in_b.is_account in_a.is_yield in_b.is_yield y picked).0 h

  used : (a b : Answers) (in_a : AreAnswersOf k roots a) (in_b : AreAnswersOf k roots b) (y : Yield) (x : List Parts × ItemView) →
      Contains (items_of y) x → Contains in_a.yields y → Contains in_b.yields y
  used a b in_a in_b y x c h =
      alike a b in_a in_b y (is_cached y x c (λ z. IsTrue (picks z)) (λ nv entry_points item. ranges.cached nv entry_points item)) h

  public_to : (a b : Answers) → AreAnswersOf k roots a → AreAnswersOf k roots b → (nv : Nv) (t : Text) (r : SourceRange) →
      Lists public_ranges a nv t r → Lists public_ranges b nv t r
  public_to a b in_a in_b = listed_alike public_ranges ranges_of (λ t ys m s. s.ranges) in_a.yields in_b.yields a b in_a.says in_b.says
      (λ y x c h. alike a b in_a in_b y (picks_public picks ranges y x c) h) (used b a in_b in_a)

  implementing_to : (a b : Answers) → AreAnswersOf k roots a → AreAnswersOf k roots b → (nv : Nv) (t : Text) (r : SourceRange) →
      Lists implementation_ranges a nv t r → Lists implementation_ranges b nv t r
  implementing_to a b in_a in_b = listed_alike implementation_ranges implementations_of (λ t ys m s. s.implementations) in_a.yields
      in_b.yields a b in_a.says in_b.says (λ y x c h. alike a b in_a in_b y (picks_implementing picks ranges y x c) h) (used b a in_b in_a)

  pub list_the_same : (a b : Answers) → AreAnswersOf k roots a → AreAnswersOf k roots b → ListTheSame a b
  list_the_same a b in_a in_b = record {
    public = λ nv t r. (public_to a b in_a in_b nv t r, public_to b a in_b in_a nv t r);
    implementing = λ nv t r. (implementing_to a b in_a in_b nv t r, implementing_to b a in_b in_a nv t r);
  }
