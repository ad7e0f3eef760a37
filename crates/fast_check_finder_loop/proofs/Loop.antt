-- The loop from its begin to its end.
use Rattle.std.proofs.Common.{◌≡◌, sym, refl, subst, ◌<◌, true, List, [], ◌∷◌, ◌++◌, map, ⊎_elim}
use Rattle.std.specs.List.{Contains}
use Rattle.fast_check_tables_packages.specs.Package.{Nv}
use Rattle.fast_check_tables_packages.specs.declared.package.PackageNv.{PackageNv}
use Rattle.fast_check_finder_ranges.specs.declared.findings.found.FoundPackage.{FoundPackage}
use Rattle.fast_check_finder_ranges.specs.findings.Found.{found_yields}
use Rattle.fast_check_finder_ranges.specs.findings.Yields.{Yield}
use Rattle.fast_check_tables_graph.specs.declared.graph.ModuleGraph.{ModuleGraph}
use Rattle.fast_check_tables_graph.specs.declared.root_symbol.RootSymbol.{RootSymbol}
use Rattle.fast_check_finder_demands.proofs.Elements.{in_map, of_map, in_any}
use Rattle.std.proofs.lemmas.Bool.{false≢true}
use Rattle.fast_check_finder_demands.specs.asked.Demands.{same_nv, Demand, of_package, of_module, of_symbol, to_package}
use Rattle.fast_check_finder_demands.proofs.asked.Maps.{first_in, none_in}
use Rattle.fast_check_finder_demands.specs.facts.GraphFacts.{Known}
use Rattle.fast_check_finder_loop.specs.declared.finder.Finder.{Finder}
use Rattle.fast_check_finder_loop.specs.Account.{Account, is_package, Chained, HasHomes, IsAccount, IsYield}
use Rattle.fast_check_finder_loop.specs.Finder.{search_of, yields_in, IsSound, Goes, Begins, Turns, Rests}
use Rattle.fast_check_finder_loop.specs.Search.{Search, IsFresh}
use Rattle.fast_check_finder_loop.specs.Measure.{Universe, IsUniverse, left}
use Rattle.fast_check_finder_loop.specs.Refusals.{JoinAll}
use Rattle.fast_check_finder_loop.specs.Rules.{followers}
use Rattle.fast_check_finder_loop.specs.Turn.{AreSame, members, IsAccounted, IsOnTheWay}
use Rattle.fast_check_finder_loop.specs.Yields.{demand_yields}
use Rattle.fast_check_finder_loop.proofs.Homed.{IsHomed, homed_begun, homed_turned, homed_ended}
use Rattle.fast_check_finder_loop.proofs.Accounted.{nv_itself}
use Rattle.fast_check_finder_loop.proofs.Once.{same_yield}
use Rattle.fast_check_finder_loop.proofs.Places.{nv_is}
use Rattle.fast_check_finder_loop.proofs.Refused.{found_join, all_join}
use Rattle.fast_check_finder_loop.proofs.Turns.{begun, turned, falls, ended}
use Rattle.fast_check_tables_symbols.proofs.Witness.{witness as any_some}

-- each package that was asked for is chained
module _ (k : Known) (roots : List Nv) (done : List Demand) (s : Search) (kept : IsAccounted (followers k) roots done s) where
  by_demand : (p : Nv) (d : Demand) → is_package p d ≡ true → Chained (followers k) roots d → Chained (followers k) roots (of_package p)
  by_demand p (of_package q) h c = subst (λ (x : Nv). Chained (followers k) roots (of_package x)) (sym (nv_is p q h)) c
  by_demand p (of_module q t d) h c = absurd (false≢true h)
  by_demand p (of_symbol q t d) h c = absurd (false≢true h)

  pub packages_chained : (p : Nv) → Contains s.packages p → Chained (followers k) roots (of_package p)
  packages_chained p c =
      let m = any_some (is_package p) (members done s) (kept.packages p (in_any (same_nv p) s.packages p c (nv_itself p))) in
      by_demand p m.0 m.2 (kept.chained m.0 m.1)

-- these demands were followed, and what is kept is right
pub record IsOn (k : Known) (roots : List Nv) (done : List Demand) (f : Finder) : Type 0 where
  pub way : IsOnTheWay (followers k) (demand_yields k) roots done (search_of f) (yields_in f)
  pub homed : IsHomed done (search_of f)
  pub sound : IsSound k.graph k.root_symbol f

empty_from : {X : Type 0} (xs : List X) → ((x : X) → Contains xs x → ⊥) → xs ≡ []
empty_from [] h = refl
empty_from (x ∷ xs) h = absurd (h x (first_in x xs))

pub begins_from : (g : ModuleGraph) (r : RootSymbol) (roots : List Nv) (a b : Finder) → IsFresh (search_of a) → yields_in a ≡ [] →
    Goes g r (map to_package roots) [] a b → Begins g r roots b
begins_from g r roots a b fresh none goes = record {
  begun = record {
    first = search_of a;
    fresh = fresh;
    demand_sets = goes.asked;
    are = λ w c. let o = of_map to_package roots w (goes.are.sound w c) in (o.0, o.1, sym o.2);
    all = λ p c. goes.are.complete (to_package p) (in_map to_package roots p c);
    asks = goes.asks;
  };
  found = empty_from (yields_in b) (λ y c. ⊎_elim
      (λ old. none_in y (subst (λ (ys : List Yield). Contains ys y) none old)) (λ new. none_in y new) (goes.found.sound y c));
  sound = goes.sound;
}

module _ (k : Known) (roots : List Nv) where
  pub on_begun : (f : Finder) → Begins k.graph k.root_symbol roots f → IsOn k roots [] f
  on_begun f b = record {
    way = subst (λ (ys : List Yield). IsOnTheWay (followers k) (demand_yields k) roots [] (search_of f) ys) (sym b.found)
        (begun (followers k) (demand_yields k) roots (search_of f) b.begun);
    homed = homed_begun roots (search_of f) b.begun;
    sound = b.sound;
  }

  pub on_turned : (done : List Demand) (a b : Finder) → IsOn k roots done a → (t : Turns k a b) → IsOn k roots (done ++ t.turn.demand ∷ []) b
  on_turned done a b on t = record {
    way = turned (followers k) (demand_yields k) roots done (search_of a) (search_of b) (yields_in a) (yields_in b) on.way t.turn;
    homed = homed_turned k (demand_yields k) done (search_of a) (search_of b) (yields_in a) (yields_in b) t.turn on.homed;
    sound = t.sound;
  }

  pub on_falls : (u : Universe) → IsUniverse (followers k) roots u → (done : List Demand) (a b : Finder) → IsOn k roots done a → Turns k a b →
      left u (search_of b) < left u (search_of a)
  on_falls u is done a b on t =
      falls (followers k) (demand_yields k) roots done (search_of a) (search_of b) (yields_in a) (yields_in b) on.way t.turn u is

  pub on_ended : (done : List Demand) (a f : Finder) → IsOn k roots done a → Rests k a f → (found : List (PackageNv × FoundPackage)) →
      AreSame (found_yields found) (yields_in f) →
      (account : Account) × IsAccount (followers k) roots account × IsYield (demand_yields k) account (found_yields found) × JoinAll k account ×
      HasHomes account
  on_ended done a f on rests found same =
      let way = subst (λ (ys : List Yield). IsOnTheWay (followers k) (demand_yields k) roots done (search_of f) ys) (sym rests.found)
      (subst (λ (s : Search). IsOnTheWay (followers k) (demand_yields k) roots done s (yields_in a)) (sym rests.search) on.way) in
      let homed = subst (IsHomed done) (sym rests.search) on.homed in
      let e = ended (followers k) (demand_yields k) roots done (search_of f) (yields_in f) rests.none way in
      let yields = same_yield (demand_yields k) done (found_yields found) (yields_in f) same e.1 in (
        done,
        e.0,
        yields,
        all_join k done (found_yields found) (found_join found) yields,
        homed_ended k roots done (search_of f) way.accounted homed rests.none,
      )
