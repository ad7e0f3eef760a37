-- Packages and names that are asked, and wait if they are new.
use Rattle.std.proofs.Common.{◌≡◌, ◌∙◌, sym, ap, ap₂, refl, subst, ℕ, ◌≤◌, Bool, true, false, cond, List, [], ◌∷◌, ◌++◌, ◌&&◌, Some, None, map, zero, suc}
use Rattle.std.proofs.Common.{length, drop, ⊎_elim, inl, inr, arith}
use Rattle.std.specs.List.{list_any, Contains}
use Rattle.std.specs.BTreeSet.{insert_key}
use Rattle.std.specs.declared.cmp.Ordering.TheVariants.{Equal}
use Rattle.std.proofs.lemmas.Bool.{cases_Bool, and_from, false≢true}
use Rattle.std.specs.Ordering.{is_eq}
use Rattle.std.specs.Str.{bytes_eq}
use Rattle.std.proofs.lemmas.List.{map-append}
use Rattle.url.specs.Parts.{Parts, serialize}
use Rattle.fast_check_tables_packages.specs.Package.{Nv, nv_of}
use Rattle.fast_check_tables_packages.specs.declared.package.PackageNv.{PackageNv}
use Rattle.fast_check_finder_lattice.specs.declared.lattice.imported_exports.ImportedExports.{ImportedExports}
use Rattle.fast_check_finder_lattice.specs.Traces.{handled}
use Rattle.fast_check_finder_lattice.specs.Imports.{NameDemand}
use Rattle.fast_check_finder_lattice.specs.Names.{Path, path_of, whole_below, has_whole}
use Rattle.fast_check_finder_demands.specs.declared.symbol_demands.demand.Extent.{Extent}
use Rattle.fast_check_finder_demands.specs.declared.symbol_demands.demand.Extent.TheVariants.{Touched, Whole}
use Rattle.fast_check_tables_packages.specs.contracts.package.PackageNvOrd.TheImpl as package_order
use Rattle.fast_check_finder_demands.proofs.asked.Taken.{bytes_same}
use Rattle.fast_check_finder_loop.specs.contracts.demand.DependencyOrd.TheImpl as dependency_order
use Rattle.fast_check_finder_demands.proofs.asked.Maps.{first_in, only_in}
use Rattle.fast_check_finder_loop.proofs.Once.{once_asked}
use Rattle.fast_check_finder_loop.proofs.Places.{nv_is, then_both}
use Rattle.fast_check_tables_graph.specs.declared.graph.ModuleGraph.{ModuleGraph}
use Rattle.fast_check_tables_graph.specs.declared.root_symbol.RootSymbol.{RootSymbol}
use Rattle.fast_check_finder_demands.specs.symbol_demands.Demands.{Demand as SymbolDemand}
use Rattle.fast_check_finder_demands.specs.Yields.{Joins}
use Rattle.fast_check_finder_demands.proofs.Elements.{in_map, of_map}
use Rattle.fast_check_finder_ranges.specs.findings.Yields.{Yield, dependency}
use Rattle.fast_check_finder_demands.specs.declared.name_demands.name_demand.NameDemand.{NameDemand as Single}
use Rattle.fast_check_finder_demands.specs.declared.name_demands.name_demand.NameDemand.TheVariants as singles
use Rattle.fast_check_finder_demands.specs.name_demands.Files.{names_of, path_demand}
use Rattle.fast_check_finder_demands.specs.asked.Demands.{same_nv, begins, asked_by, Demand, of_package, of_module, DemandSet, to_package, to_module}
use Rattle.fast_check_finder_demands.specs.asked.State.{AddsPackage}
use Rattle.fast_check_finder_loop.specs.declared.demand.Dependency.{Dependency}
use Rattle.fast_check_finder_loop.specs.declared.demand.NamesAt.{NamesAt}
use Rattle.fast_check_finder_loop.specs.declared.finder.Finder.{Finder}
use Rattle.fast_check_finder_loop.specs.Search.{Search, IsPut, AsksPackage, AddsNames, AsksNames}
use Rattle.fast_check_finder_loop.specs.Finder.{Modules, names_seen, seen_at, entered_nv, depends, search_in, search_of, yields_in, IsSound, CanEnter, Goes}
use Rattle.fast_check_finder_loop.proofs.Lists.{put_last, put_left, put_right}
use Rattle.fast_check_finder_loop.proofs.Compared.{key_kept, key_only, key_tied}
use Rattle.fast_check_finder_loop.proofs.Steps.{same_itself}
use Rattle.fast_check_finder_loop.proofs.Joins.{joins_none}

-- packages

-- behind a place no more than the length
drop_last : {X : Type 0} (n : ℕ) (xs : List X) (x : X) → n ≤ length xs → drop n (xs ++ x ∷ []) ≡ drop n xs ++ x ∷ []
drop_last zero xs x h = refl
drop_last (suc n) [] x h = absurd (omega (arith, h))
drop_last (suc n) (y ∷ ys) x h = drop_last n ys x (omega (arith, h))

module _ (entered : ℕ) (handled : List (Parts × ImportedExports)) (names : List Demand) (ms : Modules) (symbols : List (ℕ × SymbolDemand)) where
  abbrev state : List Nv → Search
  state ps = search_in ps entered handled names ms symbols

  pub package_asked : (p : Nv) (old new : List Nv) → entered ≤ length old → AddsPackage p old new → AsksPackage p (state old) (state new)
  package_asked p old new within is = record {
    handled = refl;
    symbols = λ nv t d. refl;
    put = ⊎_elim
        (λ t. let same : new ≡ old = is ∙ ap (λ (b : Bool). cond b old (old ++ p ∷ [])) t in inl (t, same, ap (λ (ps : List Nv). (state ps).waiting) same))
        (λ f. let more : new ≡ old ++ p ∷ [] = is ∙ ap (λ (b : Bool). cond b old (old ++ p ∷ [])) f in
        inr (f, more, subst (λ (ps : List Nv). IsPut (of_package p) (state old).waiting (state ps).waiting) (sym more) (put p old within)))
        (cases_Bool (list_any (same_nv p) old));
  }
    where
      put : (p : Nv) (old : List Nv) → entered ≤ length old → IsPut (of_package p) (state old).waiting (state (old ++ p ∷ [])).waiting
      put p old within = put_left (of_package p) (map of_package (drop entered old)) (map of_package (drop entered (old ++ p ∷ []))) _
          (subst (λ (xs : List Demand). IsPut (of_package p) (map of_package (drop entered old)) xs)
          (sym (ap (map of_package) (drop_last entered old p within) ∙ map-append of_package (drop entered old) (p ∷ [])))
          (put_last (of_package p) (map of_package (drop entered old))))

-- another package can be entered as before
pub package_enters : (f : Finder) (packages : List PackageNv) (p : Nv) → AddsPackage p (map nv_of f.packages) (map nv_of packages) →
    (nv : Nv) → CanEnter nv f → CanEnter nv (record f { packages = packages })
package_enters f packages p adds nv can =
    once_asked p (search_of f) (search_of (record f { packages = packages })) f.entered (map entered_nv f.entrances.items ++ nv ∷ [])
    (package_asked f.entered (handled f.handled) (map names_seen f.names.items) f.modules.entries (map seen_at f.symbols.items) p
    (map nv_of f.packages) (map nv_of packages) can.within adds) can

module _ (g : ModuleGraph) (r : RootSymbol) (f : Finder) (packages : List PackageNv) (p : Nv) (sound : IsSound g r f)
    (adds : AddsPackage p (map nv_of f.packages) (map nv_of packages)) where
  abbrev after : Finder
  after = record f { packages = packages }

  asked : AsksPackage p (search_of f) (search_of after)
  asked = package_asked f.entered (handled f.handled) (map names_seen f.names.items) f.modules.entries (map seen_at f.symbols.items) p
      (map nv_of f.packages) (map nv_of packages) sound.once.within adds

  pub package_goes : Goes g r (to_package p ∷ []) [] f after
  package_goes = record {
    asked = to_package p ∷ [];
    are = same_itself (to_package p ∷ []);
    asks = (search_of after, asked, refl);
    found = joins_none (yields_in f);
    sound = record {
      modules = sound.modules;
      symbols = sound.symbols;
      once = once_asked p (search_of f) (search_of after) f.entered (map entered_nv f.entrances.items) asked sound.once;
    };
  }

-- names

begins_itself : (p : Path) → begins p p ≡ true
begins_itself [] = refl
begins_itself (n ∷ p) = and_from (bytes_eq n n) (begins p p) (bytes_same n) (begins_itself p)

whole_itself : (b : Bool) → b ≡ true → (p : Path) → has_whole (λ part q. b && whole_below p part q) p ≡ true
whole_itself false e p = absurd (false≢true e)
whole_itself true e [] = refl
whole_itself true e (n ∷ p) = whole_itself (bytes_eq n n) (bytes_same n) p

-- what a value of the code asks for is among what it stands for
pub proper : (d : Single) → asked_by (names_of d) (names_of d) ≡ true
proper singles.AllButDefault = refl
proper singles.All = refl
proper singles.There = refl
proper (singles.Path first rest extent) = by_extent extent
  where
    by_extent : (x : Extent) → asked_by (path_demand (first.now ∷ path_of rest.now) x) (path_demand (first.now ∷ path_of rest.now) x) ≡ true
    by_extent Touched = and_from (begins (first.now ∷ path_of rest.now) (first.now ∷ path_of rest.now)) true
        (begins_itself (first.now ∷ path_of rest.now)) refl
    by_extent Whole = whole_itself (bytes_eq first.now first.now) (bytes_same first.now) (path_of rest.now)

-- names that are pushed
pub names_pushed : (old new : List NamesAt) (x : NamesAt) (p : Nv) (url : Parts) (e : NameDemand) → new ≡ old ++ x ∷ [] → nv_of x.package ≡ p →
    x.specifier ≡ url → names_of x.names ≡ e → map names_seen new ≡ map names_seen old ++ of_module p (serialize url) e ∷ []
names_pushed old new x p url e is f h k = ap (map names_seen) is ∙ (map-append names_seen old (x ∷ []) ∙
    (ap (λ (q : Nv). map names_seen old ++ of_module q (serialize x.specifier) (names_of x.names) ∷ []) f ∙
    (ap (λ (u : Parts). map names_seen old ++ of_module p (serialize u) (names_of x.names) ∷ []) h ∙
    ap (λ (d : NameDemand). map names_seen old ++ of_module p (serialize url) d ∷ []) k)))

module _ (packages : List Nv) (entered : ℕ) (ms : Modules) (symbols : List (ℕ × SymbolDemand)) where
  abbrev names_state : List (Parts × ImportedExports) → List Demand → Search
  names_state handled names = search_in packages entered handled names ms symbols

  -- names that are told of before
  pub names_asked : (p : Nv) (url : Parts) (d : NameDemand) (old new : List (Parts × ImportedExports)) (names : List Demand) →
      AddsNames url d None old new → AsksNames p url d (names_state old names) (names_state new names)
  names_asked p url d old new names adds = record {
    packages = refl;
    symbols = λ nv t s. refl;
    new = None;
    added = adds;
    waits = refl;
  }

  -- and names of which some are new
  pub names_wait : (p : Nv) (url : Parts) (d e : NameDemand) (old new : List (Parts × ImportedExports)) (names : List Demand) →
      AddsNames url d (Some e) old new →
      AsksNames p url d (names_state old names) (names_state new (names ++ of_module p (serialize url) e ∷ []))
  names_wait p url d e old new names adds = record {
    packages = refl;
    symbols = λ nv t s. refl;
    new = Some e;
    added = adds;
    waits = put_right (of_module p (serialize url) e) _ _ (map of_package (drop entered packages))
        (put_left (of_module p (serialize url) e) names (names ++ of_module p (serialize url) e ∷ []) _
        (put_last (of_module p (serialize url) e) names));
  }

module _ (g : ModuleGraph) (r : RootSymbol) (f : Finder) (sound : IsSound g r f) (p : Nv) (url : Parts) (d : Single) where
  abbrev demand_set : DemandSet
  demand_set = to_module p (serialize url) (asked_by (names_of d))

  -- what is asked of names alone
  pub names_goes : (b : Finder) → AsksNames p url (names_of d) (search_of f) (search_of b) → yields_in b ≡ yields_in f → IsSound g r b →
      Goes g r (demand_set ∷ []) [] f b
  names_goes b asks same still = record {
    asked = demand_set ∷ [];
    are = same_itself (demand_set ∷ []);
    asks = (search_of b, (url, names_of d, refl, refl, proper d, asks), refl);
    found = subst (λ (ys : List Yield). Joins [] (yields_in f) ys) (sym same) (joins_none (yields_in f));
    sound = still;
  }

-- a package that depends on another is found

tied_nv : (a b : PackageNv) → package_order.cmp-value.it a b ≡ Equal → nv_of a ≡ nv_of b
tied_nv a b e = nv_is (nv_of a) (nv_of b) (ap is_eq e)

tied_dependency : (a b : Dependency) → dependency_order.cmp-value.it a b ≡ Equal → depends a ≡ depends b
tied_dependency a b e =
    let both = then_both (package_order.cmp-value.it a.package b.package) (package_order.cmp-value.it a.on b.on) e in
    ap₂ dependency (tied_nv a.package b.package both.0) (tied_nv a.on b.on both.1)

pub dependency_joins : (x : Dependency) (old new : List Dependency) → new ≡ insert_key dependency_order.cmp-value.it old x →
    Joins (depends x ∷ []) (map depends old) (map depends new)
dependency_joins x old new is = record {
  sound = λ y c. let o = of_map depends new y c in
      ⊎_elim (λ was. inl (subst (λ (z : Yield). Contains (map depends old) z) o.2 (in_map depends old o.0 was)))
      (λ same. inr (subst (λ (z : Yield). Contains (depends x ∷ []) z) (ap depends same ∙ o.2) (first_in (depends x) [])))
      (key_only dependency_order.cmp-value.it old x o.0 (subst (λ (ks : List Dependency). Contains ks o.0) is o.1));
  kept = λ y c. let o = of_map depends old y c in
      subst (λ (z : Yield). Contains (map depends new) z) o.2 (in_map depends new o.0
      (subst (λ (ks : List Dependency). Contains ks o.0) (sym is) (key_kept dependency_order.cmp-value.it old x o.0 o.1)));
  whole = λ y c.
      let t = key_tied dependency_order.cmp-value.it old x in
      let there = in_map depends new t.0 (subst (λ (ks : List Dependency). Contains ks t.0) (sym is) t.1) in
      let one = ⊎_elim (λ same. ap depends same) (λ tied. tied_dependency x t.0 tied) t.2 in
      subst (λ (z : Yield). Contains (map depends new) z) (sym one ∙ only_in (depends x) y c) there;
}
