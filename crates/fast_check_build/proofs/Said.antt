-- What is found is what the account of the finder yields.
use Rattle.std.proofs.Common.{◌≡◌, subst, List, Option, Some, None}
use Rattle.std.specs.Prelude.{⊤, ℕ, MatchOption}
use Rattle.std.specs.BTreeMap.{BTreeMap}
use Rattle.fast_check_tables_packages.specs.Package.{Nv}
use Rattle.fast_check_tables_packages.specs.declared.package.PackageNv.{PackageNv}
use Rattle.fast_check_tables_cache.specs.declared.package_ranges.PackagePublicRanges.{PackagePublicRanges}
use Rattle.fast_check_finder_ranges.specs.findings.Found.{found_yields}
use Rattle.fast_check_finder_ranges.specs.declared.findings.found.FoundPackage.{FoundPackage}
use Rattle.fast_check_finder_ranges.specs.Answers.{AreAnswers}
use Rattle.fast_check_finder_loop.specs.demands.facts.GraphFacts.{Used, with_used, Known}
use Rattle.fast_check_finder_loop.specs.Lent.{used_of}
use Rattle.fast_check_finder_loop.specs.Account.{Account, HasHomes, IsAccount, IsYield}
use Rattle.fast_check_finder_loop.specs.Rules.{followers}
use Rattle.fast_check_finder_loop.specs.Yields.{demand_yields}
use Rattle.fast_check_finder_loop.specs.Refusals.{JoinAll}
use Rattle.fast_check_tables_graph.specs.Root.{AreFoundByOwnNames}
use Rattle.fast_check_build.specs.Found.{IsFound}
use Rattle.fast_check_build.proofs.OwnRanges.{own_answers}
use Rattle.fast_check_build.proofs.Packages.{all_asked}

pub found_public : (k : Known) (roots : List Nv) (found : List (PackageNv × FoundPackage)) (answers : BTreeMap PackageNv PackagePublicRanges) →
    ((account : Account) × IsAccount (followers k) roots account × IsYield (demand_yields k) account (found_yields found) × JoinAll k account ×
    HasHomes account) →
    AreAnswers (found_yields found) answers → AreFoundByOwnNames k.root_symbol → IsFound k roots answers
found_public k roots found answers a says named = record {
  account = a.0;
  yields = found_yields found;
  is_account = a.1;
  is_yield = a.2;
  join = a.3;
  says = says;
  packages = all_asked k a.0 (found_yields found) a.2 a.4 answers says;
  own = own_answers k a.0 (found_yields found) a.2 named answers says;
}

-- what holds by the items that a lent cache gives under a seed holds by those under its own seed
pub with_lent : {C : Type 0} (lent : Option C) (own : C → List ℕ) (by : C → List ℕ → Used) (seed : List ℕ) (k : Known)
    (So : Known → Type 0) → MatchOption lent ⊤ (λ c. seed ≡ own c) → So (with_used (used_of lent (λ c. by c seed)) k) →
    So (with_used (used_of lent (λ c. by c (own c))) k)
with_lent None own by seed k So h so = so
with_lent (Some c) own by seed k So h so = subst (λ (s : List ℕ). So (with_used (by c s) k)) h so
