-- The package of each demand was asked for.
use Rattle.std.proofs.Common.{◌≡◌, ◌∙◌, sym, ap, refl, subst, true, List, [], ◌∷◌, ◌++◌, Option, Some, None, ◌⊎◌, inl, inr, ⊎_elim, IsTrue}
use Rattle.std.specs.List.{list_any, Contains}
use Rattle.std.specs.Cmp.{eq_by_cmp_equiv}
use Rattle.std.proofs.lemmas.List.Elements.{Contains-push_cases, Contains-append_left, Contains-append_right, Contains-append_cases}
use Rattle.url.specs.Parts.{serialize}
use Rattle.fast_check_tables_packages.specs.Package.{Nv}
use Rattle.fast_check_tables_packages.specs.PackageOrder.{nv_total}
use Rattle.fast_check_finder_lattice.specs.Imports.{NameDemand}
use Rattle.fast_check_finder_demands.specs.asked.Demands.{Text, same_nv, DemandSet, to_package, to_module, to_symbol, Demand, of_package, of_module}
use Rattle.fast_check_finder_demands.specs.asked.Demands.{of_symbol}
use Rattle.fast_check_finder_demands.proofs.asked.Maps.{none_in, first_in, rest_in, split_in}
use Rattle.fast_check_finder_demands.specs.facts.GraphFacts.{Known}
use Rattle.fast_check_finder_demands.proofs.Elements.{in_any}
use Rattle.fast_check_finder_loop.specs.Account.{package_of, is_package}
use Rattle.fast_check_finder_loop.specs.Search.{Search, IsPut, AsksPackage, WaitsFor, Asks, AsksAll}
use Rattle.fast_check_finder_loop.specs.Turn.{IsTurn, IsBegun, members, IsAccounted}
use Rattle.fast_check_finder_loop.specs.Rules.{followers}
use Rattle.fast_check_finder_loop.proofs.Lists.{any_more}
use Rattle.fast_check_finder_loop.proofs.Accounted.{nv_itself}
use Rattle.fast_check_finder_loop.proofs.Homes.{IsAtHome, at_home}
use Rattle.fast_check_tables_symbols.proofs.Witness.{witness as any_some}

abbrev pub HasPackage : Search → Nv → Type 0
HasPackage s p = IsTrue (list_any (same_nv p) s.packages)

abbrev pub IsHomed : List Demand → Search → Type 0
IsHomed done s = (d : Demand) → Contains (members done s) d → HasPackage s (package_of d)

-- the package for which a set of demands asks
abbrev set_package : DemandSet → Nv
set_package (to_package p) = p
set_package (to_module p t w) = p
set_package (to_symbol p t s) = p

-- a package like one that was asked for
alike_has : (s : Search) (p q : Nv) → same_nv p q ≡ true → HasPackage s p → HasPackage s q
alike_has s p q h has =
    let x = any_some (same_nv p) s.packages has in
    in_any (same_nv q) s.packages x.0 x.1 (sym ((eq_by_cmp_equiv nv_total).congr p q x.0 h) ∙ x.2)

same_packages : (a b : Search) → b.packages ≡ a.packages → (q : Nv) → HasPackage a q → HasPackage b q
same_packages a b e q h = subst (λ (x : List Nv). list_any (same_nv q) x ≡ true) (sym e) h

-- by one set

put_waits : (d : Demand) (old new : List Demand) (p : Nv) → package_of d ≡ p → IsPut d old new → (e : Demand) → Contains new e →
    Contains old e ⊎ (p ≡ package_of e)
put_waits d old new p is put e c = ⊎_elim (λ o. inl o) (λ same. inr (sym is ∙ ap package_of same)) (put.sound e c)

same_waits : (old new : List Demand) (p : Nv) → new ≡ old → (e : Demand) → Contains new e → Contains old e ⊎ (p ≡ package_of e)
same_waits old new p same e c = inl (subst (λ (x : List Demand). Contains x e) same c)

module _ (a b : Search) where
  package_put : (p : Nv) → AsksPackage p a b → (q : Nv) → HasPackage a q → HasPackage b q
  package_put p asks q h = ⊎_elim (λ was. same_packages a b was.1 q h)
      (λ new. subst (λ (x : List Nv). list_any (same_nv q) x ≡ true) (sym new.1)
      (any_more (same_nv q) a.packages (a.packages ++ p ∷ []) (Contains-append_left a.packages (p ∷ [])) h))
      asks.put

  package_here : (p : Nv) → AsksPackage p a b → HasPackage b p
  package_here p asks = ⊎_elim (λ was. same_packages a b was.1 p was.0)
      (λ new. subst (λ (x : List Nv). list_any (same_nv p) x ≡ true) (sym new.1)
      (in_any (same_nv p) (a.packages ++ p ∷ []) p (Contains-append_right a.packages (p ∷ []) p (first_in p [])) (nv_itself p)))
      asks.put

  more_one : (w : DemandSet) → Asks w a b → (q : Nv) → HasPackage a q → HasPackage b q
  more_one (to_package p) asks = package_put p asks
  more_one (to_module p t w) asks = same_packages a b asks.5.packages
  more_one (to_symbol p t s) asks = same_packages a b asks.packages

  names_wait : (nv : Nv) (t : Text) (new : Option NameDemand) → WaitsFor nv t new a.waiting b.waiting → (e : Demand) →
      Contains b.waiting e → Contains a.waiting e ⊎ (nv ≡ package_of e)
  names_wait nv t None waits = same_waits a.waiting b.waiting nv waits
  names_wait nv t (Some d) waits = put_waits (of_module nv t d) a.waiting b.waiting nv refl waits

  from_one : (w : DemandSet) → Asks w a b → (e : Demand) → Contains b.waiting e → Contains a.waiting e ⊎ (set_package w ≡ package_of e)
  from_one (to_package p) asks e c = ⊎_elim (λ was. same_waits a.waiting b.waiting p was.2 e c)
      (λ new. put_waits (of_package p) a.waiting b.waiting p refl new.2 e c) asks.put
  from_one (to_module p t w) asks e c = names_wait p (serialize asks.0) asks.5.new asks.5.waits e c
  from_one (to_symbol p t s) asks e c = ⊎_elim (λ was. same_waits a.waiting b.waiting p was.2 e c)
      (λ new. put_waits (of_symbol p t new.0) a.waiting b.waiting p refl new.2 e c) asks.put

-- by all

more_all : (ws : List DemandSet) (a b : Search) → AsksAll ws a b → (q : Nv) → HasPackage a q → HasPackage b q
more_all [] a b asks q h = subst (λ (x : Search). HasPackage x q) (sym asks) h
more_all (w ∷ ws) a b asks q h = more_all ws asks.0 b asks.2 q (more_one a asks.0 w asks.1 q h)

here_all : (ws : List DemandSet) (a b : Search) → AsksAll ws a b → (p : Nv) → Contains ws (to_package p) → HasPackage b p
here_all [] a b asks p c = absurd (none_in (to_package p) c)
here_all (w ∷ ws) a b asks p c = ⊎_elim
    (λ same. more_all ws asks.0 b asks.2 p (package_here a asks.0 p (subst (λ (x : DemandSet). Asks x a asks.0) same asks.1)))
    (λ rest. here_all ws asks.0 b asks.2 p rest)
    (split_in w (to_package p) ws c)

from_all : (ws : List DemandSet) (a b : Search) → AsksAll ws a b → (e : Demand) → Contains b.waiting e →
    Contains a.waiting e ⊎ ((w : DemandSet) × Contains ws w × (set_package w ≡ package_of e))
from_all [] a b asks e c = inl (subst (λ (x : Search). Contains x.waiting e) asks c)
from_all (w ∷ ws) a b asks e c = ⊎_elim
    (λ old. ⊎_elim (λ o. inl o) (λ is. inr (w, first_in w ws, is)) (from_one a asks.0 w asks.1 e old))
    (λ f. inr (f.0, rest_in w f.0 ws f.1, f.2))
    (from_all ws asks.0 b asks.2 e c)

-- at the start, after each turn, and at the end

pub homed_begun : (roots : List Nv) (s : Search) → IsBegun roots s → IsHomed [] s
homed_begun roots s g d c = ⊎_elim
    (λ old. absurd (none_in d (subst (λ (x : List Demand). Contains x d) g.fresh.waiting old)))
    (λ f.
    let r = g.are f.0 f.1 in
    subst (HasPackage s) (sym (ap set_package r.2) ∙ f.2) (here_all g.demand_sets g.first s g.asks r.0
    (subst (λ (x : DemandSet). Contains g.demand_sets x) r.2 f.1)))
    (from_all g.demand_sets g.first s g.asks d c)

module _ {Y : Type 0} (k : Known) (demand_yields : Demand → List Y) (done : List Demand) (a b : Search) (old new : List Y)
    (t : IsTurn (followers k) demand_yields a b old new) (homed : IsHomed done a) where
  lasts : (q : Nv) → HasPackage a q → HasPackage b q
  lasts q h = more_all t.followed.demand_sets t.mid b t.followed.asks q (same_packages a t.mid t.taken.packages q h)

  waited : (d : Demand) → Contains a.waiting d → HasPackage b (package_of d)
  waited d c = lasts (package_of d) (homed d (Contains-append_right done a.waiting d c))

  from_set : (w : DemandSet) → Contains t.followed.demand_sets w → IsAtHome (package_of t.demand) (followers k t.demand) w → HasPackage b (set_package w)
  from_set (to_package p) c h = here_all t.followed.demand_sets t.mid b t.followed.asks p c
  from_set (to_module p u x) c h = ⊎_elim
      (λ same. alike_has b (package_of t.demand) p same (waited t.demand t.taken.waits.here))
      (λ beside. here_all t.followed.demand_sets t.mid b t.followed.asks p (t.followed.are.complete (to_package p) beside))
      h
  from_set (to_symbol p u s) c h = subst (HasPackage b) (sym h) (waited t.demand t.taken.waits.here)

  pub homed_turned : IsHomed (done ++ t.demand ∷ []) b
  homed_turned d c = ⊎_elim
      (λ followed. ⊎_elim (λ before. lasts (package_of d) (homed d (Contains-append_left done a.waiting d before)))
      (λ same. subst (λ (x : Demand). HasPackage b (package_of x)) same (waited t.demand t.taken.waits.here))
      (Contains-push_cases done t.demand d followed))
      (λ waits. ⊎_elim (λ o. waited d (t.taken.waits.kept d o))
      (λ f. subst (HasPackage b) f.2 (from_set f.0 f.1 (at_home k t.demand f.0 (t.followed.are.sound f.0 f.1))))
      (from_all t.followed.demand_sets t.mid b t.followed.asks d waits))
      (Contains-append_cases (done ++ t.demand ∷ []) b.waiting d c)

pub homed_ended : (k : Known) (roots : List Nv) (done : List Demand) (s : Search) → IsAccounted (followers k) roots done s → IsHomed done s →
    s.waiting ≡ [] → (d : Demand) → Contains done d → IsTrue (list_any (is_package (package_of d)) done)
homed_ended k roots done s kept homed none d c =
    any_more (is_package (package_of d)) (members done s) done
    (λ e h. ⊎_elim (λ l. l) (λ r. absurd (none_in e (subst (λ (x : List Demand). Contains x e) none r))) (Contains-append_cases done s.waiting e h))
    (kept.packages (package_of d) (homed d (Contains-append_left done s.waiting d c)))
