-- One public API: all accounts of an input yield the same.
use Rattle.std.specs.Prelude.{◌↔◌, Bool, List, IsTrue}
use Rattle.std.specs.List.{Contains}
use Rattle.fast_check_tables_packages.specs.Package.{Nv}
use Rattle.fast_check_finder_demands.specs.asked.Demands.{Demand, Followers}
use Rattle.fast_check_finder_demands.specs.facts.GraphFacts.{Known}
use Rattle.fast_check_finder_ranges.specs.findings.Yields.{Yield}
use Rattle.fast_check_finder_loop.specs.Account.{Account, IsAccount, IsYield}
use Rattle.fast_check_finder_loop.specs.Rules.{followers}
use Rattle.fast_check_finder_loop.specs.Yields.{demand_yields}
use Rattle.fast_check_finder_unique.specs.Settled.{AreSettled}

-- any two accounts yield the same, of the yields that the test picks
abbrev pub YieldTheSame : {Y : Type 0} → Followers → (Demand → List Y) → List Nv → (Y → Bool) → Type 0
YieldTheSame {Y} followers demand_yields roots picks = (a b : Account) (found_a found_b : List Y) →
    IsAccount followers roots a → IsAccount followers roots b → IsYield demand_yields a found_a →
    IsYield demand_yields b found_b → (y : Y) → IsTrue (picks y) → Contains found_a y ↔ Contains found_b y

-- where an input is settled, any two of its accounts yield the same
abbrev pub HasOneApi : Type 0
HasOneApi = (k : Known) (roots : List Nv) (picks : Yield → Bool) →
    AreSettled (followers k) (demand_yields k) roots picks → YieldTheSame (followers k) (demand_yields k) roots picks
