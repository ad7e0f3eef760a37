-- What is asked and found in steps, one behind another.
use Rattle.std.proofs.Common.{◌≡◌, ◌∙◌, sym, ap, refl, subst, List, [], ◌∷◌, ◌++◌, ⊎_elim}
use Rattle.std.specs.List.{Contains, flat_map}
use Rattle.std.proofs.lemmas.List.{append-nil}
use Rattle.std.proofs.lemmas.List.Concat.{flat_map-append}
use Rattle.std.proofs.lemmas.List.Elements.{Contains-append_left, Contains-append_right, Contains-append_cases}
use Rattle.fast_check_tables_packages.specs.Package.{Nv}
use Rattle.fast_check_tables_graph.specs.declared.graph.ModuleGraph.{ModuleGraph}
use Rattle.fast_check_tables_graph.specs.declared.root_symbol.RootSymbol.{RootSymbol}
use Rattle.fast_check_finder_demands.specs.Yields.{Adds}
use Rattle.fast_check_finder_ranges.specs.findings.Yields.{Yield}
use Rattle.fast_check_finder_demands.specs.asked.Demands.{DemandSet}
use Rattle.fast_check_finder_loop.specs.declared.finder.Finder.{Finder}
use Rattle.fast_check_finder_loop.specs.Search.{Search, AsksAll}
use Rattle.fast_check_finder_loop.specs.Turn.{AreSame}
use Rattle.fast_check_finder_loop.specs.Finder.{search_of, yields_in, IsSound, Goes}
use Rattle.fast_check_finder_loop.specs.Yields.{dependency_of, dependencies}
use Rattle.fast_check_finder_loop.proofs.Joins.{joins_none, joins_then}

pub asks_then : (ws vs : List DemandSet) (a b c : Search) → AsksAll ws a b → AsksAll vs b c → AsksAll (ws ++ vs) a c
asks_then [] vs a b c h k = subst (λ (x : Search). AsksAll vs x c) h k
asks_then (w ∷ ws) vs a b c h k = (h.0, h.1, asks_then ws vs h.0 b c h.2 k)

module _ {X : Type 0} where
  pub same_itself : (xs : List X) → AreSame xs xs
  same_itself xs = record { sound = λ x c. c; complete = λ x c. c }

  -- a part of each on either side
  pub same_append : (xs us ys vs : List X) → AreSame xs us → AreSame ys vs → AreSame (xs ++ ys) (us ++ vs)
  same_append xs us ys vs s t = record {
    sound = λ x c. ⊎_elim (λ l. Contains-append_left us vs x (s.sound x l)) (λ r. Contains-append_right us vs x (t.sound x r))
        (Contains-append_cases xs ys x c);
    complete = λ x c. ⊎_elim (λ l. Contains-append_left xs ys x (s.complete x l)) (λ r. Contains-append_right xs ys x (t.complete x r))
        (Contains-append_cases us vs x c);
  }

  -- what is added to none
  pub same_added : (these xs : List X) → Adds these [] xs → AreSame xs these
  same_added these xs a = record {
    sound = λ x c. a.parts x (subst (λ (ys : List X). Contains ys x) a.is c);
    complete = a.whole;
  }

module _ (g : ModuleGraph) (r : RootSymbol) where
  pub goes_nowhere : (a : Finder) → IsSound g r a → Goes g r [] [] a a
  goes_nowhere a sound = record {
    asked = [];
    are = same_itself [];
    asks = refl;
    found = joins_none (yields_in a);
    sound = sound;
  }

  pub goes_then : (ws vs : List DemandSet) (ys zs : List Yield) (a b c : Finder) → Goes g r ws ys a b → Goes g r vs zs b c →
      Goes g r (ws ++ vs) (ys ++ zs) a c
  goes_then ws vs ys zs a b c s t = record {
    asked = s.asked ++ t.asked;
    are = same_append s.asked ws t.asked vs s.are t.are;
    asks = asks_then s.asked t.asked (search_of a) (search_of b) (search_of c) s.asks t.asks;
    found = joins_then ys zs (yields_in a) (yields_in b) (yields_in c) s.found t.found;
    sound = t.sound;
  }

  -- what each of some things asks for, and one thing more
  pub goes_more : {X : Type 0} (h : X → List DemandSet) (nv : Nv) (xs : List X) (x : X) (a b c : Finder) →
      Goes g r (flat_map h xs) (dependencies nv (flat_map h xs)) a b → Goes g r (h x) (dependencies nv (h x)) b c →
      Goes g r (flat_map h (xs ++ x ∷ [])) (dependencies nv (flat_map h (xs ++ x ∷ []))) a c
  goes_more h nv xs x a b c s t = subst (λ (ws : List DemandSet). Goes g r ws (dependencies nv ws) a c) (sym last)
      (subst (λ (ys : List Yield). Goes g r (flat_map h xs ++ h x) ys a c) (sym (flat_map-append (dependency_of nv) (flat_map h xs) (h x)))
      (goes_then (flat_map h xs) (h x) (dependencies nv (flat_map h xs)) (dependencies nv (h x)) a b c s t))
    where
      last : flat_map h (xs ++ x ∷ []) ≡ flat_map h xs ++ h x
      last = flat_map-append h xs (x ∷ []) ∙ ap (λ (ws : List DemandSet). flat_map h xs ++ ws) (append-nil (h x))
