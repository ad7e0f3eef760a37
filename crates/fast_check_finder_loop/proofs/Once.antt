-- Each package was entered once.
use Rattle.std.proofs.Common.{◌≡◌, ◌∙◌, sym, ap, refl, subst, ℕ, zero, suc, ◌+◌, ◌<◌, List, [], ◌∷◌, ◌++◌, length, length-append}
use Rattle.std.proofs.Common.{take, Some, inl, inr, ⊎_elim, ◌⊎◌, arith, add-one}
use Rattle.std.specs.Prelude.{slice_get}
use Rattle.std.specs.List.{Contains}
use Rattle.std.proofs.lemmas.Bool.{false≢true}
use Rattle.std.proofs.lemmas.Option.{slice_get_within, none-some}
use Rattle.std.proofs.lemmas.List.{take-append-le}
use Rattle.std.proofs.lemmas.List.Elements.{Contains-push_cases, Contains-push}
use Rattle.fast_check_tables_packages.specs.Package.{Nv}
use Rattle.fast_check_finder_demands.proofs.Elements.{no_element, first, later, cases, in_any}
use Rattle.fast_check_finder_demands.specs.asked.Demands.{same_nv, DemandSet, to_package, to_module, to_symbol, Demand}
use Rattle.fast_check_finder_demands.proofs.asked.Maps.{some_is}
use Rattle.fast_check_finder_loop.specs.Account.{Account, IsYield}
use Rattle.fast_check_finder_loop.specs.Search.{Search, AsksPackage, Asks, AsksAll}
use Rattle.fast_check_finder_loop.specs.Once.{AreApart, AreOnce}
use Rattle.fast_check_finder_loop.specs.Turn.{AreSame}
use Rattle.fast_check_finder_loop.proofs.Collected.{none_split, apart_none}
use Rattle.fast_check_finder_loop.proofs.Accounted.{nv_itself}
use Rattle.fast_check_tables_symbols.proofs.Aliased.{joined}

-- lists of which each element stands once

heads : {X : Type 0} (x y : X) (xs ys : List X) → x ∷ xs ≡ y ∷ ys → x ≡ y
heads x y xs ys e = cc

tails : {X : Type 0} (x y : X) (xs ys : List X) → x ∷ xs ≡ y ∷ ys → xs ≡ ys
tails x y xs ys e = cc

-- with one element more behind, an element is that one, or stood where it stands
last_split : {X : Type 0} (xs : List X) (x : X) (front back : List X) (y : X) → xs ++ x ∷ [] ≡ front ++ y ∷ back →
    ((front ≡ xs) × (y ≡ x)) ⊎ ((rest : List X) × (xs ≡ front ++ y ∷ rest))
last_split [] x [] back y e = inl (refl, sym (heads x y [] back e))
last_split [] x (z ∷ front) back y e = absurd (none_split front back y (tails x z [] (front ++ y ∷ back) e))
last_split (w ∷ xs) x [] back y e = inr (xs, joined w y xs xs (heads w y (xs ++ x ∷ []) back e) refl)
last_split (w ∷ xs) x (z ∷ front) back y e =
    let same = heads w z (xs ++ x ∷ []) (front ++ y ∷ back) e in
    ⊎_elim
    (λ l. inl (joined z w front xs (sym same) l.0, l.1))
    (λ r. inr (r.0, joined w z xs (front ++ y ∷ r.0) same r.1))
    (last_split xs x front back y (tails w z (xs ++ x ∷ []) (front ++ y ∷ back) e))

pub apart_push : {X : Type 0} (xs : List X) (x : X) → AreApart xs → (Contains xs x → ⊥) → AreApart (xs ++ x ∷ [])
apart_push {X} xs x apart new front back y e c = ⊎_elim
    (λ l. new (subst (λ (z : X). Contains xs z) l.1 (subst (λ (zs : List X). Contains zs y) l.0 c)))
    (λ r. apart front r.0 y r.1 c)
    (last_split xs x front back y e)

-- the element at a place, behind those before it

at_place : {X : Type 0} (xs : List X) (n : ℕ) (x : X) → slice_get xs n ≡ Some x → (rest : List X) × (xs ≡ take n xs ++ x ∷ rest)
at_place [] n x e = absurd (none-some x e)
at_place (y ∷ xs) zero x e = (xs, joined y x xs xs (some_is y x e) refl)
at_place {X} (y ∷ xs) (suc n) x e = let s = at_place xs n x e in (s.0, ap (λ (zs : List X). y ∷ zs) s.1)

take_at : {X : Type 0} (xs : List X) (n : ℕ) (x : X) → slice_get xs n ≡ Some x → take (suc n) xs ≡ take n xs ++ x ∷ []
take_at [] n x e = absurd (none-some x e)
take_at (y ∷ xs) zero x e = joined y x [] [] (some_is y x e) refl
take_at {X} (y ∷ xs) (suc n) x e = ap (λ (zs : List X). y ∷ zs) (take_at xs n x e)

take_in : {X : Type 0} (xs : List X) (n : ℕ) (x : X) → Contains (take n xs) x → Contains (take (suc n) xs) x
take_in xs zero x c = absurd (no_element x c)
take_in [] (suc n) x c = c
take_in (y ∷ xs) (suc n) x c = ⊎_elim
    (λ is. first x y (take (suc n) xs) is)
    (λ there. later y (take (suc n) xs) x (take_in xs n x there))
    (cases y (take n xs) x c)

-- packages that are entered

pub once_none : AreOnce [] 0 []
once_none = record {
  within = omega arith;
  among = λ p c. c;
  packages_apart = apart_none [] refl;
  apart = apart_none [] refl;
}

module _ (packages : List Nv) (n : ℕ) (entrances : List Nv) (o : AreOnce packages n entrances) where
  one_more : (p : Nv) → Contains (take (suc n) packages) p → Contains (take (n + 1) packages) p
  one_more p c = subst (λ (k : ℕ). Contains (take k packages) p) (sym (add-one n)) c

  -- the next one is passed over
  pub once_passed : n < length packages → AreOnce packages (n + 1) entrances
  once_passed below = record {
    within = omega (arith, below);
    among = λ p c. one_more p (take_in packages n p (o.among p c));
    packages_apart = o.packages_apart;
    apart = o.apart;
  }

  -- or it is entered
  pub once_entered : (p : Nv) → slice_get packages n ≡ Some p → AreOnce packages (n + 1) (entrances ++ p ∷ [])
  once_entered p e =
      let s = at_place packages n p e in
      let below = slice_get_within packages n p e in
      record {
        within = omega (arith, below);
        among = λ q c.
            ⊎_elim
            (λ before. one_more q (take_in packages n q (o.among q before)))
            (λ is. one_more q (subst (λ (zs : List Nv). Contains zs q) (sym (take_at packages n p e))
            (subst (λ (z : Nv). Contains (take n packages ++ p ∷ []) z) is (Contains-push (take n packages) p))))
            (Contains-push_cases entrances p q c);
        packages_apart = o.packages_apart;
        apart = apart_push entrances p o.apart (λ c. o.packages_apart (take n packages) s.0 p s.1 (o.among p c));
      }

  -- one more is asked for
  once_more : (p : Nv) → (Contains packages p → ⊥) → AreOnce (packages ++ p ∷ []) n entrances
  once_more p new = record {
    within = omega (arith, o.within, length-append packages (p ∷ []));
    among = λ q c. subst (λ (zs : List Nv). Contains zs q) (sym (take-append-le n packages (p ∷ []) o.within)) (o.among q c);
    packages_apart = apart_push packages p o.packages_apart new;
    apart = o.apart;
  }

pub once_asked : (p : Nv) (a b : Search) (n : ℕ) (entrances : List Nv) → AsksPackage p a b → AreOnce a.packages n entrances →
    AreOnce b.packages n entrances
once_asked p a b n entrances asks o = ⊎_elim
    (λ was. subst (λ (ps : List Nv). AreOnce ps n entrances) (sym was.1) o)
    (λ new. subst (λ (ps : List Nv). AreOnce ps n entrances) (sym new.1) (once_more a.packages n entrances o p
    (λ c. false≢true (sym new.0 ∙ in_any (same_nv p) a.packages p c (nv_itself p)))))
    asks.put

pub once_all : (demand_sets : List DemandSet) (a b : Search) (n : ℕ) (entrances : List Nv) → AsksAll demand_sets a b → AreOnce a.packages n entrances →
    AreOnce b.packages n entrances
once_all [] a b n entrances same o = subst (λ (s : Search). AreOnce s.packages n entrances) (sym same) o
once_all (w ∷ demand_sets) a b n entrances h o = once_all demand_sets h.0 b n entrances h.2 (one w h.1)
  where
    one : (w : DemandSet) → Asks w a h.0 → AreOnce h.0.packages n entrances
    one (to_package p) asks = once_asked p a h.0 n entrances asks o
    one (to_module p t d) asks = subst (λ (ps : List Nv). AreOnce ps n entrances) (sym asks.5.packages) o
    one (to_symbol p t s) asks = subst (λ (ps : List Nv). AreOnce ps n entrances) (sym asks.packages) o

-- what is found, in any order
pub same_yield : {Y : Type 0} (demand_yields : Demand → List Y) (account : Account) (these those : List Y) → AreSame these those →
    IsYield demand_yields account those → IsYield demand_yields account these
same_yield demand_yields account these those same yields = record {
  sound = λ y c. yields.sound y (same.sound y c);
  complete = λ d y c g. same.complete y (yields.complete d y c g);
}
