-- A module is followed further: what is asked of its symbols, and what is found of it.
use Rattle.std.proofs.Common.{◌≡◌, ◌∙◌, sym, ap, refl, subst, ℕ, zero, suc, ◌<◌, Bool, true, ◌&&◌, List, [], ◌∷◌, Some, None, map}
use Rattle.std.proofs.Common.{slice_get, length, ⊎_elim, arith}
use Rattle.std.specs.List.{flat_map, Contains, IsDistinct}
use Rattle.std.specs.Map.{keys_of}
use Rattle.std.specs.Str.{bytes_eq}
use Rattle.std.specs.Cmp.{IsEquivalence, both_ways}
use Rattle.std.proofs.lemmas.Bool.{and_parts, and_from}
use Rattle.url.specs.Parts.{Parts, serialize}
use Rattle.indexmap.specs.IndexMap.{set_value_at}
use Rattle.indexmap.specs.Layout.{length-set_value_at}
use Rattle.fast_check_tables_packages.specs.Package.{Nv, nv_of}
use Rattle.fast_check_tables_graph.specs.declared.graph.ModuleGraph.{ModuleGraph}
use Rattle.fast_check_tables_graph.specs.declared.root_symbol.RootSymbol.{RootSymbol}
use Rattle.fast_check_tables_packages.specs.declared.package.PackageNv.{PackageNv}
use Rattle.fast_check_finder_lattice.specs.declared.lattice.imported_exports.ImportedExports.{ImportedExports}
use Rattle.fast_check_finder_lattice.specs.Traces.{handled}
use Rattle.fast_check_finder_demands.proofs.asked.Taken.{bytes_same}
use Rattle.fast_check_finder_ranges.specs.declared.findings.found.Entrance.{Entrance}
use Rattle.fast_check_finder_demands.specs.symbol_demands.Demands.{Demand as SymbolDemand}
use Rattle.fast_check_finder_demands.specs.Yields.{Joins}
use Rattle.fast_check_finder_demands.proofs.Elements.{in_map, of_map}
use Rattle.fast_check_finder_ranges.specs.findings.Yields.{Yield}
use Rattle.fast_check_finder_demands.specs.asked.Demands.{Text, same_nv, to_symbol}
use Rattle.fast_check_finder_loop.specs.declared.demand.Dependency.{Dependency}
use Rattle.fast_check_finder_loop.specs.declared.demand.NamesAt.{NamesAt}
use Rattle.fast_check_finder_loop.specs.declared.demand.Place.{Place}
use Rattle.fast_check_finder_loop.specs.declared.demand.SymbolAt.{SymbolAt}
use Rattle.fast_check_finder_loop.specs.declared.finder.Finder.{Finder}
use Rattle.fast_check_finder_loop.specs.declared.finder.FollowedModule.{FollowedModule}
use Rattle.fast_check_finder_loop.specs.Once.{AreOnce}
use Rattle.fast_check_finder_loop.specs.Search.{Search, AsksAll}
use Rattle.fast_check_finder_loop.specs.Turn.{AreSame}
use Rattle.fast_check_finder_loop.specs.Finder.{Followed, Modules, place_nv, place_text, names_seen, seen_at, search_in, search_of, entered_yields, entered_nv, depends, followed_yields, untyped_yields_of, yields_by, yields_in, AsksEach, IsModuleOf, IsSound, Goes}
use Rattle.fast_check_finder_loop.proofs.Accounted.{nv_itself, text_is}
use Rattle.fast_check_finder_loop.proofs.Places.{nv_is}
use Rattle.fast_check_finder_loop.proofs.Joins.{joins_left, joins_right}
use Rattle.fast_check_finder_loop.proofs.SymbolsAsked.{TellsPlaces, asked_of_module}
use Rattle.fast_check_finder_loop.proofs.Gained.{joins_set, set_cases, each_within}

pub once_same : (ps qs : List Nv) (m n : ℕ) (xs ys : List Nv) → ps ≡ qs → m ≡ n → xs ≡ ys → AreOnce qs n ys → AreOnce ps m xs
once_same ps qs m n xs ys e f h o = subst (λ (zs : List Nv). AreOnce ps m zs) (sym h)
    (subst (λ (k : ℕ). AreOnce ps k ys) (sym f) (subst (λ (rs : List Nv). AreOnce rs n ys) (sym e) o))

same_map : {X Y : Type 0} (f : X → Y) (xs ys : List X) → AreSame xs ys → AreSame (map f xs) (map f ys)
same_map {X} {Y} f xs ys s = record {
  sound = λ y c. let o = of_map f xs y c in subst (λ (z : Y). Contains (map f ys) z) o.2 (in_map f ys o.0 (s.sound o.0 o.1));
  complete = λ y c. let o = of_map f ys y c in subst (λ (z : Y). Contains (map f xs) z) o.2 (in_map f xs o.0 (s.complete o.0 o.1));
}

-- a test that tells places by package and text is one of equality
module _ (eq : Place → Place → Bool) (tells : TellsPlaces eq) where
  abbrev test : Place → Place → Bool
  test a b = same_nv (nv_of a.package) (nv_of b.package) && bytes_eq (serialize a.specifier.now) (serialize b.specifier.now)

  pub place_is : (a b : Place) → eq a b ≡ true → (nv_of a.package ≡ nv_of b.package) × (serialize a.specifier.now ≡ serialize b.specifier.now)
  place_is a b h =
      let p = and_parts (same_nv (nv_of a.package) (nv_of b.package)) (bytes_eq (serialize a.specifier.now) (serialize b.specifier.now)) (sym (tells a b) ∙ h) in
      (nv_is (nv_of a.package) (nv_of b.package) p.0, text_is (serialize a.specifier.now) (serialize b.specifier.now) p.1)

  pub place_same : (a b : Place) → nv_of a.package ≡ nv_of b.package → serialize a.specifier.now ≡ serialize b.specifier.now → eq a b ≡ true
  place_same a b e f = tells a b ∙ and_from (same_nv (nv_of a.package) (nv_of b.package)) (bytes_eq (serialize a.specifier.now) (serialize b.specifier.now))
      (subst (λ (x : Nv). same_nv (nv_of a.package) x ≡ true) e (nv_itself (nv_of a.package)))
      (subst (λ (x : Text). bytes_eq (serialize a.specifier.now) x ≡ true) f (bytes_same (serialize a.specifier.now)))

  pub place_laws : IsEquivalence eq
  place_laws = record {
    refl = λ a. place_same a a refl refl;
    symm = λ a b. both_ways (eq a b) (eq b a) (back a b) (back b a);
    congr = λ a b c h. both_ways (eq a c) (eq b c) (over a b c h) (over b a c (back a b h));
  }
    where
      back : (a b : Place) → eq a b ≡ true → eq b a ≡ true
      back a b h = let p = place_is a b h in place_same b a (sym p.0) (sym p.1)

      over : (a b c : Place) → eq a b ≡ true → eq a c ≡ true → eq b c ≡ true
      over a b c h k = let p = place_is a b h in let q = place_is a c k in place_same b c (sym p.0 ∙ q.0) (sym p.1 ∙ q.1)

module _ (g : ModuleGraph) (r : RootSymbol) (f b : Finder) (sound : IsSound g r f) (place : ℕ) (e : Followed)
    (here : slice_get f.modules.entries place ≡ Some e) (m : FollowedModule) where
  -- what else is kept stays
  pub record IsFurther : Type 0 where
    pub modules : b.modules.entries ≡ set_value_at f.modules.entries place m
    pub packages : b.packages ≡ f.packages
    pub entered : b.entered ≡ f.entered
    pub handled : handled b.handled ≡ handled f.handled
    pub names : b.names.items ≡ f.names.items
    pub entrances : b.entrances.items ≡ f.entrances.items
    pub dependencies : b.dependencies.keys ≡ f.dependencies.keys
    pub untyped : b.untyped.items ≡ f.untyped.items

  within : place < length f.modules.entries
  within = place_within f.modules.entries place e here
    where
      place_within : {X : Type 0} (xs : List X) (i : ℕ) (x : X) → slice_get xs i ≡ Some x → i < length xs
      place_within [] i x h = absurd (none x h)
        where
          none : {X : Type 0} (x : X) → None ≡ Some x → ⊥
          none x e = cc
      place_within (y ∷ ys) zero x h = omega arith
      place_within (y ∷ ys) (suc i) x h = let l = place_within ys i x h in omega (arith, l)

  module _ (w : IsFurther) (still : IsModuleOf g r (e.0, m)) where
    pub further_joins : (ys : List Yield) → Joins ys (followed_yields e) (followed_yields (e.0, m)) → Joins ys (yields_in f) (yields_in b)
    further_joins ys j = subst (λ (zs : List Yield). Joins ys (yields_in f) zs) (sym all)
        (joins_right ys _ _ (flat_map entered_yields f.entrances.items)
        (joins_right ys _ _ (map depends f.dependencies.keys)
        (joins_left ys (flat_map followed_yields f.modules.entries) (flat_map followed_yields (set_value_at f.modules.entries place m))
        (flat_map untyped_yields_of f.untyped.items) (joins_set followed_yields ys f.modules.entries place e m here j))))
      where
        all : yields_in b ≡ yields_by f.entrances.items f.dependencies.keys (set_value_at f.modules.entries place m) f.untyped.items
        all = ap (λ (x : List (PackageNv × Entrance)). yields_by x b.dependencies.keys b.modules.entries b.untyped.items) w.entrances ∙
            (ap (λ (x : List Dependency). yields_by f.entrances.items x b.modules.entries b.untyped.items) w.dependencies ∙
            (ap (λ (x : Modules). yields_by f.entrances.items f.dependencies.keys x b.untyped.items) w.modules ∙
            ap (λ (x : List (PackageNv × Parts)). yields_by f.entrances.items f.dependencies.keys (set_value_at f.modules.entries place m) x)
            w.untyped))

    further_sound : ((x : SymbolAt) → Contains b.symbols.items x → x.place < length f.modules.entries) → IsSound g r b
    further_sound places = record {
      modules = λ x c. ⊎_elim (λ old. sound.modules x old) (λ new. subst (IsModuleOf g r) new still)
          (set_cases f.modules.entries place e m x here (subst (λ (ms : Modules). Contains ms x) w.modules c));
      symbols = λ x c. subst (λ (n : ℕ). x.place < n) (sym (ap length w.modules ∙ length-set_value_at f.modules.entries place m)) (places x c);
      once = once_same (map nv_of b.packages) (map nv_of f.packages) b.entered f.entered (map entered_nv b.entrances.items)
          (map entered_nv f.entrances.items) (ap (map nv_of) w.packages) w.entered (ap (map entered_nv) w.entrances) sound.once;
    }

    module _ (eq : Place → Place → Bool) (tells : TellsPlaces eq) (unique : IsDistinct eq (keys_of f.modules.entries)) where
      -- these demands of its symbols are asked
      pub further_goes : (ds demand_sets : List SymbolDemand) (ys : List Yield) → AreSame ds demand_sets →
          AsksEach place ds e.1.asked m.asked f.symbols.items b.symbols.items → Joins ys (followed_yields e) (followed_yields (e.0, m)) →
          Goes g r (map (to_symbol (place_nv e) (place_text e)) demand_sets) ys f b
      further_goes ds demand_sets ys same asks j = record {
        asked = map (to_symbol (place_nv e) (place_text e)) ds;
        are = same_map (to_symbol (place_nv e) (place_text e)) ds demand_sets same;
        asks = subst (λ (s : Search). AsksAll (map (to_symbol (place_nv e) (place_text e)) ds) (search_of f) s) (sym last)
            (asked_of_module eq (place_laws eq tells) tells (map nv_of f.packages) f.entered (handled f.handled) (map names_seen f.names.items)
            f.modules.entries place e here unique ds f.symbols.items b.symbols.items m asks);
        found = further_joins ys j;
        sound = further_sound (each_within (length f.modules.entries) place within ds e.1.asked m.asked f.symbols.items b.symbols.items asks sound.symbols);
      }
        where
          last : search_of b ≡ search_in (map nv_of f.packages) f.entered (handled f.handled) (map names_seen f.names.items)
              (set_value_at f.modules.entries place m) (map seen_at b.symbols.items)
          last = ap (λ (x : List PackageNv). search_in (map nv_of x) b.entered (handled b.handled) (map names_seen b.names.items) b.modules.entries
              (map seen_at b.symbols.items)) w.packages ∙
              (ap (λ (x : ℕ). search_in (map nv_of f.packages) x (handled b.handled) (map names_seen b.names.items) b.modules.entries
              (map seen_at b.symbols.items)) w.entered ∙
              (ap (λ (x : List (Parts × ImportedExports)). search_in (map nv_of f.packages) f.entered x (map names_seen b.names.items) b.modules.entries
              (map seen_at b.symbols.items)) w.handled ∙
              (ap (λ (x : List NamesAt). search_in (map nv_of f.packages) f.entered (handled f.handled) (map names_seen x) b.modules.entries
              (map seen_at b.symbols.items)) w.names ∙
              ap (λ (x : Modules). search_in (map nv_of f.packages) f.entered (handled f.handled) (map names_seen f.names.items) x
              (map seen_at b.symbols.items)) w.modules)))
