-- A demand that waits is taken.
use Rattle.std.proofs.Common.{◌≡◌, ◌∙◌, sym, ap, refl, subst, ℕ, ◌+◌, zero, suc, Bool, true, false, List, [], ◌∷◌, ◌++◌, Option, Some, map, drop, slice_get, arith}
use Rattle.std.specs.Prelude.{option_to_list}
use Rattle.std.specs.List.{flat_map}
use Rattle.std.proofs.lemmas.List.{append-nil}
use Rattle.std.proofs.lemmas.List.Concat.{flat_map-append}
use Rattle.std.proofs.lemmas.Option.{none-some}
use Rattle.url.specs.Parts.{Parts}
use Rattle.fast_check_tables_packages.specs.Package.{Nv}
use Rattle.fast_check_finder_lattice.specs.declared.lattice.imported_exports.ImportedExports.{ImportedExports}
use Rattle.fast_check_finder_demands.specs.symbol_demands.Demands.{Demand as SymbolDemand}
use Rattle.fast_check_finder_demands.specs.Yields.{Joins}
use Rattle.fast_check_finder_demands.proofs.asked.Maps.{some_is}
use Rattle.fast_check_finder_ranges.specs.findings.Yields.{Yield}
use Rattle.fast_check_finder_demands.specs.asked.Demands.{Demand, of_package, of_symbol}
use Rattle.fast_check_finder_demands.specs.facts.GraphFacts.{Known}
use Rattle.fast_check_finder_loop.specs.declared.finder.Finder.{Finder}
use Rattle.fast_check_finder_loop.specs.Search.{Search, IsPut, IsTaken}
use Rattle.fast_check_finder_loop.specs.Turn.{IsTurn}
use Rattle.fast_check_finder_loop.specs.Finder.{Followed, Modules, place_nv, place_text, place_of, places, symbol_at, symbols_at, search_in, search_of, yields_in, Goes, Turns, TurnsTo}
use Rattle.fast_check_finder_loop.specs.Rules.{followers}
use Rattle.fast_check_finder_loop.specs.Yields.{demand_yields}
use Rattle.fast_check_finder_loop.proofs.Lists.{put_last, put_left, put_right}

place_at : (es : Modules) (i : ℕ) (e : Followed) → slice_get es i ≡ Some e → slice_get (places es) i ≡ Some (place_of e.0)
place_at [] i e h = absurd (none-some e h)
place_at (x ∷ xs) zero e h = ap (λ (y : Followed). Some (place_of y.0)) (some_is x e h)
place_at (x ∷ xs) (suc i) e h = place_at xs i e h

put_first : {X : Type 0} (x : X) (xs : List X) → IsPut x xs (x ∷ xs)
put_first x xs = put_left_of x xs
  where
    put_left_of : {X : Type 0} (x : X) (xs : List X) → IsPut x xs (x ∷ xs)
    put_left_of x xs = put_left x [] (x ∷ []) xs (put_last x [])

-- the one at a place leads the rest
drop_at : {X : Type 0} (n : ℕ) (xs : List X) (x : X) → slice_get xs n ≡ Some x → drop n xs ≡ x ∷ drop (suc n) xs
drop_at n [] x h = absurd (none-some x h)
drop_at zero (y ∷ ys) x h = ap (λ z. z ∷ ys) (some_is y x h)
drop_at (suc n) (y ∷ ys) x h = drop_at n ys x h

drop_next : {X : Type 0} (n : ℕ) (xs : List X) (x : X) → slice_get xs n ≡ Some x → drop n xs ≡ x ∷ drop (n + 1) xs
drop_next n xs x h = let e : suc n ≡ n + 1 = omega arith in drop_at n xs x h ∙ ap (λ m. x ∷ drop m xs) e

module _ (packages : List Nv) (entered : ℕ) (handled : List (Parts × ImportedExports)) (ms : Modules) where
  pub symbol_taken : (names : List Demand) (all rest : List (ℕ × SymbolDemand)) (place : ℕ) (d : SymbolDemand) (e : Followed) →
      slice_get ms place ≡ Some e → all ≡ (place, d) ∷ rest →
      IsTaken (of_symbol (place_nv e) (place_text e) d) (search_in packages entered handled names ms all) (search_in packages entered handled names ms rest)
  symbol_taken names all rest place d e here is = record {
    packages = refl;
    handled = refl;
    symbols = λ nv t s. refl;
    waits = put_right (of_symbol (place_nv e) (place_text e) d) (names ++ flat_map (symbols_at (places ms)) rest)
        (names ++ flat_map (symbols_at (places ms)) all) (map of_package (drop entered packages))
        (put_right (of_symbol (place_nv e) (place_text e) d) (flat_map (symbols_at (places ms)) rest) (flat_map (symbols_at (places ms)) all) names
        (subst (λ (xs : List Demand). IsPut (of_symbol (place_nv e) (place_text e) d) (flat_map (symbols_at (places ms)) rest) xs) (sym first)
        (put_first (of_symbol (place_nv e) (place_text e) d) (flat_map (symbols_at (places ms)) rest))));
  }
    where
      first : flat_map (symbols_at (places ms)) all ≡ of_symbol (place_nv e) (place_text e) d ∷ flat_map (symbols_at (places ms)) rest
      first = ap (flat_map (symbols_at (places ms))) is ∙
          ap (λ (o : Option (Nv × List ℕ)). map (symbol_at d) (option_to_list o) ++ flat_map (symbols_at (places ms)) rest) (place_at ms place e here)

  pub names_taken : (all rest : List Demand) (symbols : List (ℕ × SymbolDemand)) (d : Demand) → all ≡ rest ++ d ∷ [] →
      IsTaken d (search_in packages entered handled all ms symbols) (search_in packages entered handled rest ms symbols)
  names_taken all rest symbols d is = record {
    packages = refl;
    handled = refl;
    symbols = λ nv t s. refl;
    waits = put_right d (rest ++ flat_map (symbols_at (places ms)) symbols) (all ++ flat_map (symbols_at (places ms)) symbols)
        (map of_package (drop entered packages))
        (put_left d rest all (flat_map (symbols_at (places ms)) symbols)
        (subst (λ (xs : List Demand). IsPut d rest xs) (sym is) (put_last d rest)));
  }

  pub package_taken : (names : List Demand) (symbols : List (ℕ × SymbolDemand)) (p : Nv) → slice_get packages entered ≡ Some p →
      IsTaken (of_package p) (search_in packages entered handled names ms symbols) (search_in packages (entered + 1) handled names ms symbols)
  package_taken names symbols p here = record {
    packages = refl;
    handled = refl;
    symbols = λ nv t s. refl;
    waits = put_left (of_package p) (map of_package (drop (entered + 1) packages)) (map of_package (drop entered packages)) _
        (subst (λ (xs : List Nv). IsPut (of_package p) (map of_package (drop (entered + 1) packages)) (map of_package xs))
        (sym (drop_next entered packages p here)) (put_first (of_package p) (map of_package (drop (entered + 1) packages))));
  }

-- the same turn, from where as much was asked and found
pub turns_from : (k : Known) (a mid b : Finder) → search_of mid ≡ search_of a → yields_in mid ≡ yields_in a → (more : Bool) → TurnsTo k more mid b →
    TurnsTo k more a b
turns_from k a mid b same found true t = record {
  turn = subst (λ (s : Search). IsTurn (followers k) (demand_yields k) s (search_of b) (yields_in a) (yields_in b)) same
      (subst (λ (ys : List Yield). IsTurn (followers k) (demand_yields k) (search_of mid) (search_of b) ys (yields_in b)) found t.turn);
  sound = t.sound;
}
turns_from k a mid b same found false t = record {
  search = t.search ∙ same;
  found = t.found ∙ found;
  none = t.none;
  sound = t.sound;
}

-- and followed
pub turns_by : (k : Known) (d : Demand) (a mid b : Finder) → IsTaken d (search_of a) (search_of mid) → yields_in mid ≡ yields_in a →
    Goes k.graph k.root_symbol (followers k d) (demand_yields k d) mid b → Turns k a b
turns_by k d a mid b taken same goes = record {
  turn = record {
    demand = d;
    mid = search_of mid;
    taken = taken;
    followed = record {
      demand_sets = goes.asked;
      are = goes.are;
      asks = goes.asks;
      yields = subst (λ (ys : List Yield). Joins (demand_yields k d) ys (yields_in b)) same goes.found;
    };
  };
  sound = goes.sound;
}
