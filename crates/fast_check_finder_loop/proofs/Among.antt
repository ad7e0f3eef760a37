-- The demands that are made of given ids and paths, as a list.
use Rattle.std.proofs.Common.{◌≡◌, refl, ap, subst, Bool, cond, List, [], ◌∷◌, ◌++◌, ⊎_elim, arith}
use Rattle.std.specs.List.{Contains, flat_map}
use Rattle.std.proofs.lemmas.List.Elements.{Contains-append_right}
use Rattle.fast_check_finder_lattice.specs.Names.{Path}
use Rattle.fast_check_tables_symbols.specs.declared.symbol_id.SymbolId.{SymbolId}
use Rattle.fast_check_finder_demands.specs.declared.symbol_demands.demand.Namespaces.{Namespaces}
use Rattle.fast_check_finder_demands.specs.declared.symbol_demands.demand.Namespaces.TheVariants.{Value, Type_, Both}
use Rattle.fast_check_finder_demands.specs.declared.symbol_demands.demand.Extent.TheVariants.{Touched, Whole}
use Rattle.fast_check_finder_demands.specs.symbol_demands.Demands.{Demand, Asked, by_reference, as_child, by_path}
use Rattle.fast_check_finder_demands.proofs.Elements.{later, in_map, in_flat}
use Rattle.fast_check_finder_demands.proofs.Each.{Each, each_one, each_append, each_cons, each_map, each_flat}
use Rattle.fast_check_finder_demands.specs.Account.{is_both, asked_within, narrowed, parts}
use Rattle.fast_check_finder_demands.proofs.asked.Maps.{none_in, first_in, split_in}
use Rattle.std.proofs.lemmas.Bool.{cases_Bool}
use Rattle.fast_check_finder_loop.specs.Universe.{both_extents, in_namespaces, without_path, asks, asks_of, demands_among, IsAskedAmong, IsAmong}

module _ (ids : List SymbolId) (paths : List Path) where
  in_asks : (a : Asked) → IsAskedAmong paths a → Contains (asks paths) a
  in_asks (by_reference Value) h = (0, omega arith, refl)
  in_asks (by_reference Type_) h = (2, omega arith, refl)
  in_asks (by_reference Both) h = (4, omega arith, refl)
  in_asks (as_child Value) h = (1, omega arith, refl)
  in_asks (as_child Type_) h = (3, omega arith, refl)
  in_asks (as_child Both) h = (5, omega arith, refl)
  in_asks (by_path p Touched) h = Contains-append_right without_path (flat_map both_extents paths) (by_path p Touched)
      (in_flat both_extents paths p (by_path p Touched) h (first_in (by_path p Touched) (by_path p Whole ∷ [])))
  in_asks (by_path p Whole) h = Contains-append_right without_path (flat_map both_extents paths) (by_path p Whole)
      (in_flat both_extents paths p (by_path p Whole) h (later (by_path p Touched) (by_path p Whole ∷ []) (by_path p Whole)
      (first_in (by_path p Whole) [])))

  pub in_demands : (d : Demand) → IsAmong ids paths d → Contains (demands_among ids paths) d
  unfolding demands_among
  in_demands d i = in_flat (λ s. flat_map (asks_of s (asks paths)) ids) ids d.symbol d i.symbol
      (in_flat (asks_of d.symbol (asks paths)) ids d.referrer d i.referrer
      (in_map (λ a. record { symbol = d.symbol; asked = a; referrer = d.referrer }) (asks paths) d.asked (in_asks d.asked i.asked)))

  abbrev A : Asked → Type 0
  A = IsAskedAmong paths

  of_namespaces : (n : Namespaces) → Each A (in_namespaces n)
  of_namespaces n = each_cons A (by_reference n) (as_child n ∷ []) tt (each_one A (as_child n) tt)

  of_asks : Each A (asks paths)
  of_asks = each_append A without_path (flat_map both_extents paths)
      (each_append A (in_namespaces Value) (in_namespaces Type_ ++ in_namespaces Both) (of_namespaces Value)
      (each_append A (in_namespaces Type_) (in_namespaces Both) (of_namespaces Type_) (of_namespaces Both)))
      (each_flat A both_extents paths (λ p h. each_cons A (by_path p Touched) (by_path p Whole ∷ []) h (each_one A (by_path p Whole) h)))

  pub of_demands : Each (IsAmong ids paths) (demands_among ids paths)
  unfolding demands_among
  of_demands = each_flat (IsAmong ids paths) (λ s. flat_map (asks_of s (asks paths)) ids) ids
      (λ s h. each_flat (IsAmong ids paths) (asks_of s (asks paths)) ids
      (λ r g. each_map (IsAmong ids paths) (λ a. record { symbol = s; asked = a; referrer = r }) (asks paths)
      (λ a c. record { symbol = h; referrer = g; asked = of_asks a c })))

  -- in each namespace alone it is one of them too
  pub narrowed_among : (d x : Demand) → IsAmong ids paths d → Contains (parts d) x → IsAmong ids paths x
  narrowed_among d x i c = ⊎_elim
      (λ t. ⊎_elim (λ e. subst (IsAmong ids paths) e (alone Value))
      (λ r. ⊎_elim (λ e. subst (IsAmong ids paths) e (alone Type_)) (λ n. absurd (none_in x n)) (split_in (narrowed Type_ d) x [] r))
      (split_in (narrowed Value d) x (narrowed Type_ d ∷ []) (subst (λ (ps : List Demand). Contains ps x) (with_parts t) c)))
      (λ f. ⊎_elim (λ e. subst (IsAmong ids paths) e i) (λ n. absurd (none_in x n))
      (split_in d x [] (subst (λ (ps : List Demand). Contains ps x) (with_parts f) c)))
      (cases_Bool (is_both d.asked))
    where
      with_parts : {b : Bool} → is_both d.asked ≡ b → parts d ≡ cond b (narrowed Value d ∷ narrowed Type_ d ∷ []) (d ∷ [])
      with_parts e = ap (λ (b : Bool). cond b (narrowed Value d ∷ narrowed Type_ d ∷ []) (d ∷ [])) e

      asked_alone : (n : Namespaces) (a : Asked) → IsAskedAmong paths a → IsAskedAmong paths (asked_within n a)
      asked_alone n (by_reference m) h = tt
      asked_alone n (as_child m) h = tt
      asked_alone n (by_path p e) h = h

      alone : (n : Namespaces) → IsAmong ids paths (narrowed n d)
      alone n = record { symbol = i.symbol; referrer = i.referrer; asked = asked_alone n d.asked i.asked }
