-- Demands of the symbols of one module are asked, one behind another.
use Rattle.std.proofs.Common.{◌≡◌, ◌∙◌, sym, ap, refl, subst, ℕ, zero, suc, Bool, true, ◌&&◌, List, [], ◌∷◌, ◌++◌, Option, Some, None}
use Rattle.std.proofs.Common.{slice_get, option_to_list, map, drop, ⊎_elim, inl, inr, ◌⊎◌}
use Rattle.std.proofs.Math.Path.{fun_ext}
use Rattle.std.specs.List.{list_any, flat_map, IsDistinct}
use Rattle.std.specs.Map.{keys_of}
use Rattle.std.specs.Str.{bytes_eq}
use Rattle.std.specs.Cmp.{IsEquivalence}
use Rattle.std.proofs.lemmas.Bool.{false≢true, cases_Bool, and_parts, and_from}
use Rattle.std.proofs.lemmas.List.{append-nil}
use Rattle.std.proofs.lemmas.List.Concat.{flat_map-append}
use Rattle.url.specs.Parts.{Parts, serialize}
use Rattle.indexmap.specs.IndexMap.{set_value_at}
use Rattle.fast_check_tables_packages.specs.Package.{Nv, nv_of}
use Rattle.fast_check_finder_lattice.specs.declared.lattice.imported_exports.ImportedExports.{ImportedExports}
use Rattle.fast_check_finder_demands.specs.symbol_demands.Demands.{Demand as SymbolDemand}
use Rattle.fast_check_finder_demands.specs.Account.{parts}
use Rattle.fast_check_finder_demands.specs.asked.Demands.{Text, same_nv, Demand, of_package, of_symbol, to_symbol}
use Rattle.fast_check_finder_demands.proofs.asked.Taken.{bytes_same}
use Rattle.fast_check_finder_demands.proofs.Elements.{in_any}
use Rattle.fast_check_finder_loop.specs.declared.demand.Place.{Place}
use Rattle.fast_check_finder_loop.specs.declared.demand.SymbolAt.{SymbolAt}
use Rattle.fast_check_finder_loop.specs.declared.finder.FollowedModule.{FollowedModule}
use Rattle.fast_check_finder_loop.specs.Account.{meets}
use Rattle.fast_check_finder_loop.specs.Asked.{covers, IsNew, AddsDemand}
use Rattle.fast_check_finder_loop.specs.Search.{Search, IsPut, IsMarked, AsksSymbol, AsksAll}
use Rattle.fast_check_finder_loop.specs.Finder.{Followed, Modules, place_nv, place_text, has_symbol, places, place_of, seen_at, symbol_at, symbols_at, search_in, put_at, AsksOne, AsksEach}
use Rattle.fast_check_finder_loop.proofs.Accounted.{nv_itself}
use Rattle.fast_check_finder_loop.proofs.Lists.{any_more, put_last, put_right}
use Rattle.fast_check_finder_loop.proofs.Parts.{covers_essence}
use Rattle.fast_check_finder_loop.proofs.Places.{get_set, set_itself, keys_set, any_set, any_of_set, any_set_same, one_entry}
use Rattle.fast_check_tables_symbols.proofs.Witness.{witness as any_some}

-- one demand more
pub each_more : (place : ℕ) (ds : List SymbolDemand) (d : SymbolDemand) (a b c : List SymbolDemand) (old mid new : List SymbolAt) →
    AsksEach place ds a b old mid → AsksOne place d b c mid new → AsksEach place (ds ++ d ∷ []) a c old new
each_more place [] d a b c old mid new w one = (
  c,
  new,
  (
    one.0,
    subst (λ (xs : List SymbolDemand). AddsDemand d one.0 xs c) w.0 one.1,
    subst (λ (xs : List (ℕ × SymbolDemand)). map seen_at new ≡ put_at place one.0 xs) w.1 one.2,
  ),
  (refl, refl),
)
each_more place (x ∷ xs) d a b c old mid new w one = (w.0, w.1, w.2, each_more place xs d w.0 b c w.1 mid new w.3 one)

-- keys that have one package and one text are the same
abbrev pub TellsPlaces : (Place → Place → Bool) → Type 0
TellsPlaces eq = (a b : Place) → eq a b ≡ (same_nv (nv_of a.package) (nv_of b.package) && bytes_eq (serialize a.specifier.now) (serialize b.specifier.now))

module _ (eq : Place → Place → Bool) (laws : IsEquivalence eq) (tells : TellsPlaces eq) (packages : List Nv) (entered : ℕ)
    (handled : List (Parts × ImportedExports)) (names : List Demand) (ms : Modules) (place : ℕ) (e : Followed)
    (here : slice_get ms place ≡ Some e) (unique : IsDistinct eq (keys_of ms)) where
  -- these demands were asked of the module at the place
  abbrev with_asked : List SymbolDemand → Modules
  with_asked xs = set_value_at ms place (record e.1 { asked = xs })

  abbrev entry : List SymbolDemand → Followed
  entry xs = (e.0, record e.1 { asked = xs })

  abbrev state : List SymbolDemand → List (ℕ × SymbolDemand) → Search
  state xs ys = search_in packages entered handled names (with_asked xs) ys

  -- the test of the module itself
  own_test : (d : SymbolDemand) (xs : List SymbolDemand) → list_any (covers d) xs ≡ true → has_symbol (place_nv e) (place_text e) d (entry xs) ≡ true
  own_test d xs h = and_from (same_nv (place_nv e) (place_nv e)) (bytes_eq (place_text e) (place_text e) && list_any (covers d) xs) (nv_itself (place_nv e))
      (and_from (bytes_eq (place_text e) (place_text e)) (list_any (covers d) xs) (bytes_same (place_text e)) h)

  meets_own : (d : SymbolDemand) (xs : List SymbolDemand) → list_any (covers d) xs ≡ true →
      list_any (has_symbol (place_nv e) (place_text e) d) (with_asked xs) ≡ true
  meets_own d xs h = any_set (has_symbol (place_nv e) (place_text e) d) ms place e (record e.1 { asked = xs }) here (own_test d xs h)

  -- and what passes it was asked of the module itself
  own_of : (d : SymbolDemand) (xs : List SymbolDemand) → list_any (has_symbol (place_nv e) (place_text e) d) (with_asked xs) ≡ true →
      list_any (covers d) xs ≡ true
  own_of d xs h =
      let s = any_some (has_symbol (place_nv e) (place_text e) d) (with_asked xs) h in
      let parts = and_parts (same_nv (place_nv e) (place_nv s.0)) (bytes_eq (place_text e) (place_text s.0) && list_any (covers d) s.0.1.asked) s.2 in
      let more = and_parts (bytes_eq (place_text e) (place_text s.0)) (list_any (covers d) s.0.1.asked) parts.1 in
      let one = one_entry eq laws (with_asked xs)
      (subst (λ (ks : List Place). IsDistinct eq ks) (sym (keys_set ms place (record e.1 { asked = xs }))) unique) place (entry xs) s.0
      (get_set ms place e (record e.1 { asked = xs }) here) s.1
      (tells e.0 s.0.0 ∙ and_from (same_nv (place_nv e) (place_nv s.0)) (bytes_eq (place_text e) (place_text s.0)) parts.0 more.0) in
      subst (λ (x : FollowedModule). list_any (covers d) x.asked ≡ true) (sym one) more.1

  places_same : (xs ys : List SymbolDemand) → places (with_asked xs) ≡ places (with_asked ys)
  places_same xs ys = ap (λ (ks : List Place). map place_of ks)
      (keys_set ms place (record e.1 { asked = xs }) ∙ sym (keys_set ms place (record e.1 { asked = ys })))

  place_get : (xs : List SymbolDemand) → slice_get (places (with_asked xs)) place ≡ Some (place_nv e, place_text e)
  place_get xs = get_map (with_asked xs) place (entry xs) (get_set ms place e (record e.1 { asked = xs }) here)
    where
      get_map : (es : Modules) (i : ℕ) (x : Followed) → slice_get es i ≡ Some x → slice_get (places es) i ≡ Some (place_of x.0)
      get_map [] i x h = absurd (none x h)
        where
          none : (x : Followed) → None ≡ Some x → ⊥
          none x e = cc
      get_map (y ∷ ys) zero x h = some y x h
        where
          some : (y x : Followed) → Some y ≡ Some x → Some (place_of y.0) ≡ Some (place_of x.0)
          some y x e = cc
      get_map (y ∷ ys) (suc i) x h = get_map ys i x h

  module _ (d n : SymbolDemand) (a b : List SymbolDemand) (w : IsNew d n a b) where
    grown_test : (p : Nv) (t : Text) (x : SymbolDemand) → has_symbol p t x (entry a) ≡ true → has_symbol p t x (entry b) ≡ true
    grown_test p t x h =
        let parts = and_parts (same_nv p (place_nv e)) (bytes_eq t (place_text e) && list_any (covers x) a) h in
        let more = and_parts (bytes_eq t (place_text e)) (list_any (covers x) a) parts.1 in
        and_from (same_nv p (place_nv e)) (bytes_eq t (place_text e) && list_any (covers x) b) parts.0
        (and_from (bytes_eq t (place_text e)) (list_any (covers x) b) more.0 (any_more (covers x) a b w.kept more.1))

    new_test : (p : Nv) (t : Text) (x : SymbolDemand) → has_symbol p t x (entry b) ≡ true →
        (has_symbol p t x (entry a) ≡ true) ⊎ (meets p t x (of_symbol (place_nv e) (place_text e) n) ≡ true)
    new_test p t x h =
        let these = and_parts (same_nv p (place_nv e)) (bytes_eq t (place_text e) && list_any (covers x) b) h in
        let more = and_parts (bytes_eq t (place_text e)) (list_any (covers x) b) these.1 in
        let s = any_some (covers x) b more.1 in
        ⊎_elim
        (λ old. inl (and_from (same_nv p (place_nv e)) (bytes_eq t (place_text e) && list_any (covers x) a) these.0
        (and_from (bytes_eq t (place_text e)) (list_any (covers x) a) more.0 (in_any (covers x) a s.0 old s.2))))
        (λ new. inr (and_from (same_nv p (place_nv e)) (bytes_eq t (place_text e) && list_any (covers x) (parts n)) these.0
        (and_from (bytes_eq t (place_text e)) (list_any (covers x) (parts n)) more.0
        (in_any (covers x) (parts n) new.0 new.1
        (sym (covers_essence x new.0) ∙ subst (λ (y : SymbolDemand). covers x y ≡ true) new.2 s.2)))))
        (w.only s.0 s.1)

    marked : (old new : List (ℕ × SymbolDemand)) → IsMarked (place_nv e) (place_text e) d n (state a old) (state b new)
    marked old new = record {
      within = w.within;
      was = λ x c. ⊎_elim (λ t. absurd (false≢true (sym (w.was x c) ∙ own_of x a t))) (λ f. f)
          (cases_Bool (list_any (has_symbol (place_nv e) (place_text e) x) (with_asked a)));
      now = λ x c. meets_own x b (w.now x c);
      kept = λ p t x h. ⊎_elim
          (λ own. any_set (has_symbol p t x) ms place e (record e.1 { asked = b }) here (grown_test p t x own))
          (λ other. other)
          (any_of_set (has_symbol p t x) ms place e (record e.1 { asked = a }) (record e.1 { asked = b }) here h);
      only = λ p t x h. ⊎_elim
          (λ own. ⊎_elim (λ was. inl (any_set (has_symbol p t x) ms place e (record e.1 { asked = a }) here was)) (λ new. inr new) (new_test p t x own))
          (λ other. inl other)
          (any_of_set (has_symbol p t x) ms place e (record e.1 { asked = b }) (record e.1 { asked = a }) here h);
    }

  -- the demand waits
  waits : (d : SymbolDemand) (a b : List SymbolDemand) (old : List (ℕ × SymbolDemand)) →
      IsPut (of_symbol (place_nv e) (place_text e) d) (state a old).waiting (state b (old ++ (place, d) ∷ [])).waiting
  waits d a b old = put_right (of_symbol (place_nv e) (place_text e) d) (names ++ flat_map (symbols_at (places (with_asked a))) old)
      (names ++ flat_map (symbols_at (places (with_asked b))) (old ++ (place, d) ∷ [])) (map of_package (drop entered packages))
      (put_right (of_symbol (place_nv e) (place_text e) d) (flat_map (symbols_at (places (with_asked a))) old)
      (flat_map (symbols_at (places (with_asked b))) (old ++ (place, d) ∷ [])) names
      (subst (λ (xs : List Demand). IsPut (of_symbol (place_nv e) (place_text e) d) (flat_map (symbols_at (places (with_asked a))) old) xs)
      (sym is) (put_last (of_symbol (place_nv e) (place_text e) d) (flat_map (symbols_at (places (with_asked a))) old))))
    where
      last : flat_map (symbols_at (places (with_asked b))) ((place, d) ∷ []) ≡ of_symbol (place_nv e) (place_text e) d ∷ []
      last = append-nil (symbols_at (places (with_asked b)) (place, d)) ∙
          ap (λ (o : Option (Nv × Text)). map (symbol_at d) (option_to_list o)) (place_get b)

      is : flat_map (symbols_at (places (with_asked b))) (old ++ (place, d) ∷ []) ≡
          flat_map (symbols_at (places (with_asked a))) old ++ of_symbol (place_nv e) (place_text e) d ∷ []
      is = flat_map-append (symbols_at (places (with_asked b))) old ((place, d) ∷ []) ∙
          (ap (λ (ps : List (Nv × Text)). flat_map (symbols_at ps) old ++ flat_map (symbols_at (places (with_asked b))) ((place, d) ∷ []))
          (places_same b a) ∙
          ap (λ (xs : List Demand). flat_map (symbols_at (places (with_asked a))) old ++ xs) last)

  -- one demand
  one_asked : (d : SymbolDemand) (fresh : Option SymbolDemand) (a b : List SymbolDemand) (old new : List (ℕ × SymbolDemand)) →
      AddsDemand d fresh a b → new ≡ put_at place fresh old → AsksSymbol (place_nv e) (place_text e) d (state a old) (state b new)
  one_asked d (Some n) a b old new w is = record {
    packages = refl;
    handled = refl;
    put = inr (
      n,
      marked d n a b w old new,
      subst (λ (ys : List (ℕ × SymbolDemand)). IsPut (of_symbol (place_nv e) (place_text e) n) (state a old).waiting (state b ys).waiting) (sym is)
          (waits n a b old),
    );
  }
  one_asked d None a b old new w is = record {
    packages = refl;
    handled = refl;
    put = inl (
      λ x c. meets_own x a (w.0 x c),
      λ p t x. ap (λ (xs : List SymbolDemand). list_any (has_symbol p t x) (with_asked xs)) w.1,
      ap (λ (xs : List SymbolDemand). (state xs new).waiting) w.1 ∙ ap (λ (ys : List (ℕ × SymbolDemand)). (state a ys).waiting) is,
    );
  }

  -- each of them
  each_asked : (ds a b : List SymbolDemand) (old new : List SymbolAt) → AsksEach place ds a b old new →
      AsksAll (map (to_symbol (place_nv e) (place_text e)) ds) (state a (map seen_at old)) (state b (map seen_at new))
  each_asked [] a b old new w = ap (λ (xs : List SymbolDemand). state xs (map seen_at new)) w.0 ∙ ap (state a) w.1
  each_asked (d ∷ ds) a b old new w = (
    state w.0 (map seen_at w.1),
    one_asked d w.2.0 a w.0 (map seen_at old) (map seen_at w.1) w.2.1 w.2.2,
    each_asked ds w.0 b w.1 new w.3,
  )

  -- the same, whatever else is kept of the module
  pub asked_of_module : (ds : List SymbolDemand) (old new : List SymbolAt) (m : FollowedModule) → AsksEach place ds e.1.asked m.asked old new →
      AsksAll (map (to_symbol (place_nv e) (place_text e)) ds) (search_in packages entered handled names ms (map seen_at old))
      (search_in packages entered handled names (set_value_at ms place m) (map seen_at new))
  asked_of_module ds old new m w = subst (λ (s : Search). AsksAll (map (to_symbol (place_nv e) (place_text e)) ds)
      (search_in packages entered handled names ms (map seen_at old)) s) last
      (subst (λ (xs : Modules). AsksAll (map (to_symbol (place_nv e) (place_text e)) ds)
      (search_in packages entered handled names xs (map seen_at old)) (state m.asked (map seen_at new))) (set_itself ms place e here)
      (each_asked ds e.1.asked m.asked old new w))
    where
      search_with : (Nv → Text → SymbolDemand → Bool) → List (Nv × Text) → Search
      search_with symbols ps = record {
        packages = packages;
        handled = handled;
        symbols = symbols;
        waiting = map of_package (drop entered packages) ++ (names ++ flat_map (symbols_at ps) (map seen_at new));
      }

      last : state m.asked (map seen_at new) ≡ search_in packages entered handled names (set_value_at ms place m) (map seen_at new)
      last = ap (λ (s : Nv → Text → SymbolDemand → Bool). search_with s (places (with_asked m.asked)))
          (fun_ext (λ p. fun_ext (λ t. fun_ext (λ x. any_set_same (has_symbol p t x) ms place (record e.1 { asked = m.asked }) m (λ k. refl))))) ∙
          ap (λ (ks : List Place). search_with (λ p t x. list_any (has_symbol p t x) (set_value_at ms place m)) (map place_of ks))
          (keys_set ms place (record e.1 { asked = m.asked }) ∙ sym (keys_set ms place m))
