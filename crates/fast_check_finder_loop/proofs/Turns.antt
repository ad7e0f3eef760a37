-- The turns of the loop, from its beginning to an account.
use Rattle.std.proofs.Common.{◌≡◌, ◌∙◌, sym, ap, refl, subst, ◌<◌, true, List, [], ◌∷◌, ◌++◌, Some, None, ⊎_elim, arith}
use Rattle.std.specs.List.{list_any, Contains}
use Rattle.std.proofs.lemmas.Bool.{false≢true}
use Rattle.std.proofs.lemmas.List.Elements.{Contains-push_cases, Contains-append_left, Contains-append_right, Contains-append_cases}
use Rattle.url.specs.Parts.{Parts}
use Rattle.fast_check_finder_lattice.specs.declared.lattice.imported_exports.ImportedExports.{ImportedExports}
use Rattle.fast_check_tables_packages.specs.Package.{Nv}
use Rattle.fast_check_finder_lattice.specs.Imports.{NameDemand, imported}
use Rattle.fast_check_finder_lattice.specs.Names.{IsBelow}
use Rattle.fast_check_finder_lattice.proofs.Forms.{least_all}
use Rattle.fast_check_finder_demands.specs.Yields.{Joins}
use Rattle.fast_check_finder_demands.specs.asked.Demands.{Text, same_nv, one, DemandSet, to_package, Demand, of_package, of_module, of_symbol, Followers, Follows, Includes}
use Rattle.fast_check_finder_loop.specs.Account.{is_package, is_of, meets, names_at, IsCovered, Chained, root, step, IsWidening, IsAccount, IsYield}
use Rattle.fast_check_finder_loop.specs.Search.{Search, handled_at, IsAsked}
use Rattle.fast_check_finder_loop.specs.Turn.{IsTurn, IsBegun, members, IsAccounted, IsOnTheWay}
use Rattle.fast_check_finder_loop.specs.Measure.{Universe, IsUniverse, left}
use Rattle.fast_check_finder_demands.proofs.asked.Maps.{none_in, first_in, some_is}
use Rattle.fast_check_finder_loop.proofs.Lists.{any_more}
use Rattle.fast_check_finder_demands.proofs.asked.Single.{star_in, default_in, one_below_all}
use Rattle.fast_check_finder_loop.proofs.Accounted.{accounted_all, more_all, now_all, accounted_taken, more_taken}
use Rattle.fast_check_finder_loop.proofs.Inside.{inside}
use Rattle.fast_check_finder_loop.proofs.Falls.{falls_all, falls_taken}

-- what one more demand yields
yielded_more : {Y : Type 0} (demand_yields : Demand → List Y) (done : List Demand) (d : Demand) (old new : List Y) → IsYield demand_yields done old →
    Joins (demand_yields d) old new → IsYield demand_yields (done ++ d ∷ []) new
yielded_more {Y} demand_yields done d old new y j = record {
  sound = λ r t.
      ⊎_elim
      (λ before. let h = y.sound r before in (h.0, Contains-append_left done (d ∷ []) h.0 h.1, h.2))
      (λ now. (d, Contains-append_right done (d ∷ []) d (first_in d []), now))
      (j.sound r t);
  complete = λ e r t u.
      ⊎_elim
      (λ before. j.kept r (y.complete e r before u))
      (λ same. j.whole r (subst (λ (x : Demand). Contains (demand_yields x) r) (sym same) u))
      (Contains-push_cases done d e t);
}

-- what was asked is covered by what was followed and what waits
covered : (followers : Followers) (roots : List Nv) (done : List Demand) (s : Search) → IsAccounted followers roots done s → (e : Demand) → IsAsked s e →
    IsCovered (members done s) e
covered followers roots done s k (of_package p) h = k.packages p h
covered followers roots done s k (of_module nv t d) h = (k.some t h.0 h.1, λ part q i. k.names t h.0 h.1 part q (h.2 part q i))
covered followers roots done s k (of_symbol nv t d) h = λ x c. k.symbols nv t x (h x c)

covers_more : (xs ys : List Demand) → ((x : Demand) → Contains xs x → Contains ys x) → (e : Demand) → IsCovered xs e → IsCovered ys e
covers_more xs ys g (of_package p) h = any_more (is_package p) xs ys g h
covers_more xs ys g (of_module nv t d) h = (
  any_more (is_of t) xs ys g h.0,
  λ part q i. any_more (λ x. names_at t x part q) xs ys g (h.1 part q i),
)
covers_more xs ys g (of_symbol nv t d) h = λ x c. any_more (meets nv t x) xs ys g (h x c)

-- `default` beside a star was asked with all names
wide : (s : Search) (p q r : Nv) (t : Text) (a b c : NameDemand) → IsAsked s (of_module p t a) → IsAsked s (of_module q t b) →
    IsWidening p q a b r c → IsAsked s (of_module r t c)
wide s p q r t a b c h i w =
    let same : i.0 ≡ h.0 = some_is i.0 h.0 (sym i.1 ∙ h.1) in
    let all = least_all h.0 (star_in h.0 a w.starred h.2)
    (default_in h.0 b w.default (subst (λ (x : ImportedExports). IsBelow (one b) (imported x)) same i.2)) in
    (h.0, h.1, λ part q g. all part q (one_below_all c part q g))

module _ {Y : Type 0} (followers : Followers) (demand_yields : Demand → List Y) (roots : List Nv) where
  -- what follows from what was taken is chained
  chain_sets : (done : List Demand) (a : Search) (d : Demand) (ws : List DemandSet) → Chained followers roots d →
      ((w : DemandSet) → Contains ws w → Contains (followers d) w) → (w : DemandSet) (e : Demand) → Contains ws w → Includes w e → Chained followers roots e
  chain_sets done a d ws chain are w e c h = step chain (record { demand_set = w; among = are w c; includes = h })

  pub begun : (s : Search) → IsBegun roots s → IsOnTheWay followers demand_yields roots [] s []
  begun s g =
      let chain : (w : DemandSet) (e : Demand) → Contains g.demand_sets w → Includes w e → Chained followers roots e =
      λ w e c h. let r = g.are w c in of_root r.0 r.1 e (subst (λ (x : DemandSet). Includes x e) r.2 h) in
      record {
        accounted = accounted_all followers roots [] g.demand_sets g.first s fresh chain g.asks;
        has_roots = λ p c. now_all followers roots [] g.demand_sets g.first s fresh chain g.asks (to_package p) (g.all p c) (of_package p) refl;
        closed = λ d e c f. absurd (none_in d c);
        yielded = record { sound = λ y c. absurd (none_in y c); complete = λ d y h c. absurd (none_in d h) };
      }
    where
      of_root : (p : Nv) → Contains roots p → (e : Demand) → Includes (to_package p) e → Chained followers roots e
      of_root p c (of_package q) h = subst (λ (x : Nv). Chained followers roots (of_package x)) h (root c)
      of_root p c (of_module q t d) h = absurd h
      of_root p c (of_symbol q t d) h = absurd h

      no_names : (t : Text) (x : ImportedExports) → {Z : Type 0} → handled_at g.first.handled t ≡ Some x → Z
      no_names t x e = absurd (clash (sym (ap (λ (h : List (Parts × ImportedExports)). handled_at h t) g.fresh.handled) ∙ e))
        where
          clash : {X : Type 0} {x : X} → None ≡ Some x → ⊥
          clash e = cc

      no_member : (e : Demand) → {Z : Type 0} → Contains (members [] g.first) e → Z
      no_member e c = absurd (none_in e (subst (λ (x : List Demand). Contains x e) g.fresh.waiting c))

      fresh : IsAccounted followers roots [] g.first
      fresh = record {
        chained = λ e c. no_member e c;
        packages = λ p h. absurd (false≢true (subst (λ (x : List Nv). list_any (same_nv p) x ≡ true) g.fresh.packages h));
        symbols = λ nv t d h. absurd (false≢true (sym (g.fresh.symbols nv t d) ∙ h));
        some = λ t x e. no_names t x e;
        names = λ t x e. no_names t x e;
        stars = λ t x e. no_names t x e;
        below = λ e c. no_member e c;
      }

  module _ (done : List Demand) (a b : Search) (old new : List Y) (w : IsOnTheWay followers demand_yields roots done a old)
      (t : IsTurn followers demand_yields a b old new) where
    chain : Chained followers roots t.demand
    chain = w.accounted.chained t.demand (Contains-append_right done a.waiting t.demand t.taken.waits.here)

    mid_accounted : IsAccounted followers roots (done ++ t.demand ∷ []) t.mid
    mid_accounted = accounted_taken followers roots done t.demand a t.mid w.accounted t.taken

    chains : (v : DemandSet) (e : Demand) → Contains t.followed.demand_sets v → Includes v e → Chained followers roots e
    chains = chain_sets done a t.demand t.followed.demand_sets chain t.followed.are.sound

    lasts : (e : Demand) → IsAsked a e → IsAsked b e
    lasts e h = more_all followers roots (done ++ t.demand ∷ []) t.followed.demand_sets t.mid b mid_accounted chains t.followed.asks e
        (more_taken followers roots done t.demand a t.mid t.taken e h)

    pub turned : IsOnTheWay followers demand_yields roots (done ++ t.demand ∷ []) b new
    turned = record {
      accounted = accounted_all followers roots (done ++ t.demand ∷ []) t.followed.demand_sets t.mid b mid_accounted chains t.followed.asks;
      has_roots = λ p h. lasts (of_package p) (w.has_roots p h);
      closed = λ d e h f.
          ⊎_elim
          (λ before. lasts e (w.closed d e before f))
          (λ same.
          let g : Follows followers t.demand e = subst (λ (x : Demand). Follows followers x e) (sym same) f in
          now_all followers roots (done ++ t.demand ∷ []) t.followed.demand_sets t.mid b mid_accounted chains t.followed.asks g.demand_set
          (t.followed.are.complete g.demand_set g.among) e g.includes)
          (Contains-push_cases done t.demand d h);
      yielded = yielded_more demand_yields done t.demand old new w.yielded t.followed.yields;
    }

    -- and so it ends: the turn falls
    pub falls : (u : Universe) → IsUniverse followers roots u → left u b < left u a
    falls u is =
        let here = inside followers roots u is t.demand chain in
        let x = falls_taken u t.demand a t.mid t.taken in
        let y = falls_all u is t.followed.demand_sets t.mid b (λ v c. is.closed t.demand v here (t.followed.are.sound v c)) t.followed.asks in
        omega (arith, x, y)

  pub ended : (done : List Demand) (s : Search) (found : List Y) → s.waiting ≡ [] → IsOnTheWay followers demand_yields roots done s found →
      IsAccount followers roots done × IsYield demand_yields done found
  ended done s found none w = (
    record {
      chained = λ d h. w.accounted.chained d (Contains-append_left done s.waiting d h);
      has_roots = λ p h. covers (of_package p) (w.has_roots p h);
      closed = λ d e h f. covers e (w.closed d e h f);
      widened = λ p q r t a b c h i j.
          covers (of_module r t c) (wide s p q r t a b c (w.accounted.below (of_module p t a) (Contains-append_left done s.waiting (of_module p t a) h))
          (w.accounted.below (of_module q t b) (Contains-append_left done s.waiting (of_module q t b) i)) j);
    },
    w.yielded,
  )
    where
      back : (e : Demand) → Contains (members done s) e → Contains done e
      back e c = ⊎_elim (λ l. l) (λ r. absurd (none_in e (subst (λ (x : List Demand). Contains x e) none r))) (Contains-append_cases done s.waiting e c)

      covers : (e : Demand) → IsAsked s e → IsCovered done e
      covers e h = covers_more (members done s) done back e (covered followers roots done s w.accounted e h)
