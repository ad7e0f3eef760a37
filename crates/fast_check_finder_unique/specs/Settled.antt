-- Settled: what is yielded does not depend on which demands an account covers others by.
use Rattle.std.specs.Prelude.{Bool, List, [], ◌∷◌, IsTrue}
use Rattle.std.specs.List.{Contains}
use Rattle.fast_check_tables_packages.specs.Package.{Nv}
use Rattle.fast_check_finder_lattice.specs.Imports.{NameDemand}
use Rattle.fast_check_finder_demands.specs.asked.Demands.{Text, Demand, of_module, Followers, Follows}
use Rattle.fast_check_finder_loop.specs.Account.{IsWidening, Chained}
use Rattle.fast_check_finder_unique.specs.Points.{Point, at_package, has, IsPointOf}

-- Every account that has these demands yields y. Either one of them yields it; or the account has to cover some point,
-- and y is forced whichever chained demand covers the point. An account has to cover each package passed in, what
-- follows from its demands, and what two of them widen to.
pub data IsForced {Y : Type 0} (followers : Followers) (demand_yields : Demand → List Y) (roots : List Nv) (y : Y) :
    List Demand → Type 0 where
  yielded : {ds : List Demand} (d : Demand) → Contains ds d → Contains (demand_yields d) y →
      IsForced followers demand_yields roots y ds
  by_root : {ds : List Demand} (p : Nv) → Contains roots p →
      ((c : Demand) → Chained followers roots c → IsTrue (has (at_package p) c) →
      IsForced followers demand_yields roots y (c ∷ ds)) → IsForced followers demand_yields roots y ds
  by_follower : {ds : List Demand} (d e : Demand) (x : Point) → Contains ds d → Follows followers d e → IsPointOf e x →
      ((c : Demand) → Chained followers roots c → IsTrue (has x c) →
      IsForced followers demand_yields roots y (c ∷ ds)) → IsForced followers demand_yields roots y ds
  by_widening : {ds : List Demand} (p q r : Nv) (t : Text) (a b d : NameDemand) (x : Point) →
      Contains ds (of_module p t a) → Contains ds (of_module q t b) → IsWidening p q a b r d →
      IsPointOf (of_module r t d) x →
      ((c : Demand) → Chained followers roots c → IsTrue (has x c) →
      IsForced followers demand_yields roots y (c ∷ ds)) → IsForced followers demand_yields roots y ds

-- every account yields what any chained demand yields, of the yields that the test picks
abbrev pub AreSettled : {Y : Type 0} → Followers → (Demand → List Y) → List Nv → (Y → Bool) → Type 0
AreSettled {Y} followers demand_yields roots picks = (d : Demand) (y : Y) → Chained followers roots d →
    Contains (demand_yields d) y → IsTrue (picks y) → IsForced followers demand_yields roots y []
