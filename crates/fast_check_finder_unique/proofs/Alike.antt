-- What is forced is yielded by every account.
use Rattle.std.proofs.Common.{Bool, List, [], ◌∷◌, ⊎_elim, subst}
use Rattle.std.specs.Prelude.{IsTrue}
use Rattle.std.specs.List.{Contains, list_any}
use Rattle.fast_check_tables_packages.specs.Package.{Nv}
use Rattle.fast_check_tables_symbols.proofs.Witness.{witness as any_some}
use Rattle.fast_check_finder_demands.proofs.Elements.{no_element, cases}
use Rattle.fast_check_finder_demands.specs.asked.Demands.{Demand, of_module, Followers}
use Rattle.fast_check_finder_loop.specs.Account.{Account, IsAccount, IsYield, IsCovered, Chained}
use Rattle.fast_check_finder_unique.specs.Points.{Point, at_package, has, IsPointOf, its_package, its_module, its_name, its_symbol}
use Rattle.fast_check_finder_unique.specs.Settled.{IsForced, yielded, by_root, by_follower, by_widening, AreSettled}
use Rattle.fast_check_finder_unique.specs.OneApi.{YieldTheSame}

pub covered_point : (account : Account) (d : Demand) (x : Point) → IsCovered account d → IsPointOf d x →
    IsTrue (list_any (has x) account)
covered_point account _ _ c its_package = c
covered_point account _ _ c its_module = c.0
covered_point account _ _ c (its_name i) = c.1 _ _ i
covered_point account _ _ c (its_symbol m) = c _ m

abbrev IsPartOf : List Demand → Account → Type 0
IsPartOf ds account = (d : Demand) → Contains ds d → Contains account d

within_more : (account : Account) (c : Demand) (ds : List Demand) → Contains account c → IsPartOf ds account → IsPartOf (c ∷ ds) account
within_more account c ds h k d t = ⊎_elim (λ is. subst (λ (x : Demand). Contains account x) is h) (k d) (cases c ds d t)

module _ {Y : Type 0} (followers : Followers) (demand_yields : Demand → List Y) (roots : List Nv) (account : Account)
    (are : IsAccount followers roots account) where
  abbrev Yields : Y → Type 0
  Yields y = (d : Demand) × Contains account d × Contains (demand_yields d) y

  -- some demand of the account covers a point that the account has to cover
  by_point : (x : Point) (ds : List Demand) (P : List Demand → Type 0) → IsTrue (list_any (has x) account) → IsPartOf ds account →
      ((c : Demand) → Contains account c → Chained followers roots c → IsTrue (has x c) → IsPartOf (c ∷ ds) account → P (c ∷ ds)) →
      (c : Demand) × P (c ∷ ds)
  by_point x ds P h k go = let w = any_some (has x) account h in
      (w.0, go w.0 w.1 (are.chained w.0 w.1) w.2 (within_more account w.0 ds w.1 k))

  pub forced_yields : (y : Y) (ds : List Demand) → IsForced followers demand_yields roots y ds → IsPartOf ds account → Yields y
  forced_yields y ds (yielded d m g) k = (d, k d m, g)
  forced_yields y ds (by_root p m s) k =
      (by_point (at_package p) ds (λ cs. Yields y) (are.has_roots p m) k
      (λ c i j h more. forced_yields y (c ∷ ds) (s c j h) more)).1
  forced_yields y ds (by_follower d e x m f i s) k =
      (by_point x ds (λ cs. Yields y) (covered_point account e x (are.closed d e (k d m) f) i) k
      (λ c i j h more. forced_yields y (c ∷ ds) (s c j h) more)).1
  forced_yields y ds (by_widening p q r t a b d x l n w i s) k =
      (by_point x ds (λ cs. Yields y)
      (covered_point account (of_module r t d) x (are.widened p q r t a b d (k _ l) (k _ n) w) i) k
      (λ c i j h more. forced_yields y (c ∷ ds) (s c j h) more)).1

-- of what is settled, what one account yields the other does
one_way : {Y : Type 0} (followers : Followers) (demand_yields : Demand → List Y) (roots : List Nv) (picks : Y → Bool) →
    AreSettled followers demand_yields roots picks → (a b : Account) (found_a found_b : List Y) → IsAccount followers roots a →
    IsAccount followers roots b → IsYield demand_yields a found_a → IsYield demand_yields b found_b → (y : Y) →
    IsTrue (picks y) → Contains found_a y → Contains found_b y
one_way followers demand_yields roots picks settled a b found_a found_b is_a is_b in_a in_b y picked h =
    let from = in_a.sound y h in
    let to = forced_yields followers demand_yields roots b is_b y []
    (settled from.0 y (is_a.chained from.0 from.1) from.2 picked) (λ d none. absurd (no_element d none)) in
    in_b.complete to.0 y to.1 to.2

pub yield_the_same : {Y : Type 0} (followers : Followers) (demand_yields : Demand → List Y) (roots : List Nv) (picks : Y → Bool) →
    AreSettled followers demand_yields roots picks → YieldTheSame followers demand_yields roots picks
yield_the_same followers demand_yields roots picks settled a b found_a found_b is_a is_b in_a in_b y picked = (
  one_way followers demand_yields roots picks settled a b found_a found_b is_a is_b in_a in_b y picked,
  one_way followers demand_yields roots picks settled b a found_b found_a is_b is_a in_b in_a y picked,
)
