-- A module comes to have a place: nothing is asked by that, and that it is recorded is found.
use Rattle.std.proofs.Common.{◌≡◌, ◌∙◌, sym, ap, refl, subst, ℕ, suc, ◌<◌, Bool, true, false, ◌&&◌, ◌||◌, List, [], ◌∷◌, ◌++◌, Option, Some, map}
use Rattle.std.proofs.Common.{slice_get, option_to_list, length, drop, ⊎_elim, inl, arith, length-append}
use Rattle.std.specs.Prelude.{IfSome}
use Rattle.std.proofs.Math.Path.{fun_ext}
use Rattle.std.specs.List.{flat_map, list_any, Contains}
use Rattle.std.specs.Str.{bytes_eq}
use Rattle.std.proofs.lemmas.Bool.{false≢true}
use Rattle.std.proofs.lemmas.List.{append-nil}
use Rattle.std.proofs.lemmas.List.Concat.{flat_map-append}
use Rattle.std.proofs.lemmas.List.Elements.{Contains-append_left, Contains-append_right, Contains-push_cases}
use Rattle.url.specs.Parts.{Parts, serialize}
use Rattle.fast_check_tree_syntax.specs.declared.source.SourceRange.{SourceRange}
use Rattle.fast_check_tables_packages.specs.Package.{Nv, nv_of}
use Rattle.fast_check_tables_graph.specs.Root.{specifier_of}
use Rattle.fast_check_tables_graph.specs.declared.graph.ModuleGraph.{ModuleGraph}
use Rattle.fast_check_tables_graph.specs.declared.root_symbol.AnyModuleInfo.{AnyModuleInfo}
use Rattle.fast_check_tables_graph.specs.declared.root_symbol.RootSymbol.{RootSymbol}
use Rattle.fast_check_tables_packages.specs.declared.package.PackageNv.{PackageNv}
use Rattle.fast_check_tables_packages.proofs.Rows.{got_before as get_before}
use Rattle.fast_check_finder_ranges.specs.declared.findings.found.Entrance.{Entrance}
use Rattle.fast_check_finder_demands.specs.declared.re_exports.origins.ReExportIndex.{ReExportIndex}
use Rattle.fast_check_finder_lattice.specs.declared.lattice.imported_exports.ImportedExports.{ImportedExports}
use Rattle.fast_check_finder_lattice.specs.Traces.{handled}
use Rattle.fast_check_finder_demands.specs.symbol_demands.Demands.{Demand as SymbolDemand}
use Rattle.fast_check_finder_demands.specs.Yields.{Joins}
use Rattle.fast_check_finder_demands.specs.declared.fault.SymbolFault.{SymbolFault}
use Rattle.fast_check_finder_demands.proofs.Elements.{in_flat}
use Rattle.fast_check_finder_demands.specs.re_exports.Origins.{IsIndexOf}
use Rattle.fast_check_finder_ranges.specs.findings.Faults.{placed_seen}
use Rattle.fast_check_finder_ranges.specs.findings.Findings.{placed_yields}
use Rattle.fast_check_finder_ranges.specs.findings.Found.{own_text, source_in}
use Rattle.fast_check_finder_ranges.specs.findings.Yields.{Yield, recorded, public, implementing}
use Rattle.fast_check_finder_demands.specs.asked.Demands.{Text, same_nv, Demand, of_package}
use Rattle.fast_check_finder_demands.proofs.asked.Maps.{none_in, first_in, only_in, some_is}
use Rattle.fast_check_finder_demands.specs.facts.GraphFacts.{named_at}
use Rattle.fast_check_finder_loop.specs.declared.asked.AskedAlias.{AskedAlias}
use Rattle.fast_check_finder_loop.specs.declared.demand.Dependency.{Dependency}
use Rattle.fast_check_finder_loop.specs.declared.demand.NamesAt.{NamesAt}
use Rattle.fast_check_finder_loop.specs.declared.demand.SymbolAt.{SymbolAt}
use Rattle.fast_check_finder_loop.specs.declared.finder.Finder.{Finder}
use Rattle.fast_check_finder_loop.specs.Asked.{covers}
use Rattle.fast_check_finder_loop.specs.Search.{Search}
use Rattle.fast_check_finder_loop.specs.Finder.{Followed, Modules, place_nv, place_text, has_symbol, place_of, places, names_seen, seen_at, symbol_at, symbols_at, search_in, search_of, entered_yields, entered_nv, depends, followed_yields, untyped_yields_of, yields_by, yields_in, traced_in, IsModuleOf, IsSound, IsNew, IsPlaced, Goes}
use Rattle.fast_check_finder_loop.proofs.Steps.{same_itself}
use Rattle.fast_check_finder_loop.proofs.Joins.{joins_left, joins_right, joins_last}
use Rattle.fast_check_finder_loop.proofs.Gained.{get_in}
use Rattle.fast_check_finder_loop.proofs.Followed.{once_same}

-- what is found before holds already
joins_there : {X : Type 0} (x : X) (xs : List X) → Contains xs x → Joins (x ∷ []) xs xs
joins_there {X} x xs c = record {
  sound = λ y h. inl h;
  kept = λ y h. h;
  whole = λ y h. subst (λ (z : X). Contains xs z) (only_in x y h) c;
}

-- a module of which nothing was asked meets nothing

no_test : (a b : Bool) → (a && (b && false)) ≡ false
no_test true true = refl
no_test true false = refl
no_test false b = refl

any_last : {X : Type 0} (f : X → Bool) (xs : List X) (x : X) → f x ≡ false → list_any f (xs ++ x ∷ []) ≡ list_any f xs
any_last f [] x h = ap (λ (b : Bool). b || false) h
any_last f (y ∷ ys) x h = ap (λ (b : Bool). f y || b) (any_last f ys x h)

module _ (g : ModuleGraph) (r : RootSymbol) (f b : Finder) (sound : IsSound g r f) (nv : Nv) (info : AnyModuleInfo)
    (named : named_at r (serialize (specifier_of info)) ≡ Some info) (place : ℕ)
    (placed : IsPlaced nv info place f.modules.entries b.modules.entries) where
  abbrev m : Followed
  m = placed.followed

  -- nothing else changes
  pub record IsSameBeside : Type 0 where
    pub packages : b.packages ≡ f.packages
    pub entered : b.entered ≡ f.entered
    pub handled : handled b.handled ≡ handled f.handled
    pub names : b.names.items ≡ f.names.items
    pub symbols : b.symbols.items ≡ f.symbols.items
    pub entrances : b.entrances.items ≡ f.entrances.items
    pub dependencies : b.dependencies.keys ≡ f.dependencies.keys
    pub untyped : b.untyped.items ≡ f.untyped.items

  abbrev IsAdded : Type 0
  IsAdded = (b.modules.entries ≡ f.modules.entries ++ m ∷ []) × IsNew info m.1

  -- what is kept is of this module
  pub placed_info : m.1.found.info.now ≡ info
  placed_info = ⊎_elim
      (λ same. let own = sound.modules m (get_in f.modules.entries place m (subst (λ (ms : Modules). slice_get ms place ≡ Some m) same placed.here)) in
      some_is m.1.found.info.now info (sym own.named ∙ (ap (named_at r) placed.text_is ∙ named)))
      (λ new. new.1.info) placed.by

  module _ (w : IsSameBeside) where
    abbrev state : Modules → Search
    state ms = search_in (map nv_of f.packages) f.entered (handled f.handled) (map names_seen f.names.items) ms (map seen_at f.symbols.items)

    search_is : search_of b ≡ state b.modules.entries
    search_is = ap (λ (x : List PackageNv). search_in (map nv_of x) b.entered (handled b.handled) (map names_seen b.names.items) b.modules.entries
        (map seen_at b.symbols.items)) w.packages ∙
        (ap (λ (x : ℕ). search_in (map nv_of f.packages) x (handled b.handled) (map names_seen b.names.items) b.modules.entries
        (map seen_at b.symbols.items)) w.entered ∙
        (ap (λ (x : List (Parts × ImportedExports)). search_in (map nv_of f.packages) f.entered x (map names_seen b.names.items) b.modules.entries
        (map seen_at b.symbols.items)) w.handled ∙
        (ap (λ (x : List NamesAt). search_in (map nv_of f.packages) f.entered (handled f.handled) (map names_seen x) b.modules.entries
        (map seen_at b.symbols.items)) w.names ∙
        ap (λ (x : List SymbolAt). search_in (map nv_of f.packages) f.entered (handled f.handled) (map names_seen f.names.items) b.modules.entries
        (map seen_at x)) w.symbols)))

    yields_are : yields_in b ≡ yields_by f.entrances.items f.dependencies.keys b.modules.entries f.untyped.items
    yields_are = ap (λ (x : List (PackageNv × Entrance)). yields_by x b.dependencies.keys b.modules.entries b.untyped.items) w.entrances ∙
        (ap (λ (x : List Dependency). yields_by f.entrances.items x b.modules.entries b.untyped.items) w.dependencies ∙
        ap (λ (x : List (PackageNv × Parts)). yields_by f.entrances.items f.dependencies.keys b.modules.entries x) w.untyped)

    -- a module that was followed before

    there : b.modules.entries ≡ f.modules.entries → Contains (yields_in f) (recorded nv (serialize (specifier_of info)))
    there same =
        let c = get_in f.modules.entries place m (subst (λ (ms : Modules). slice_get ms place ≡ Some m) same placed.here) in
        let own = sound.modules m c in
        Contains-append_right (flat_map entered_yields f.entrances.items) _ _
        (Contains-append_right (map depends f.dependencies.keys) _ _
        (Contains-append_left (flat_map followed_yields f.modules.entries) (flat_map untyped_yields_of f.untyped.items) _
        (in_flat followed_yields f.modules.entries m (recorded nv (serialize (specifier_of info))) c
        (subst (λ (y : Yield). Contains (followed_yields m) y)
        (ap (λ (p : Nv). recorded p (own_text m.1.found)) placed.nv_is ∙ ap (recorded nv) (sym own.own ∙ placed.text_is))
        (first_in (recorded (place_nv m) (own_text m.1.found)) _)))))

    goes_before : b.modules.entries ≡ f.modules.entries → Goes g r [] (recorded nv (serialize (specifier_of info)) ∷ []) f b
    goes_before same = record {
      asked = [];
      are = same_itself [];
      asks = search_is ∙ ap state same;
      found = subst (λ (ys : List Yield). Joins (recorded nv (serialize (specifier_of info)) ∷ []) (yields_in f) ys)
          (sym (yields_are ∙ ap (λ (ms : Modules). yields_by f.entrances.items f.dependencies.keys ms f.untyped.items) same))
          (joins_there (recorded nv (serialize (specifier_of info))) (yields_in f) (there same));
      sound = record {
        modules = λ x c. sound.modules x (subst (λ (ms : Modules). Contains ms x) same c);
        symbols = λ x c. subst (λ (n : ℕ). x.place < n) (sym (ap length same)) (sound.symbols x (subst (λ (s : List SymbolAt). Contains s x) w.symbols c));
        once = once_same (map nv_of b.packages) (map nv_of f.packages) b.entered f.entered (map entered_nv b.entrances.items)
            (map entered_nv f.entrances.items) (ap (map nv_of) w.packages) w.entered (ap (map entered_nv) w.entrances) sound.once;
      };
    }

    -- a new one

    module _ (new : IsAdded) where
      no_symbol : (p : Nv) (t : Text) (d : SymbolDemand) → has_symbol p t d m ≡ false
      no_symbol p t d = ap (λ (xs : List SymbolDemand). same_nv p (place_nv m) && (bytes_eq t (place_text m) && list_any (covers d) xs)) new.1.asked ∙
          no_test (same_nv p (place_nv m)) (bytes_eq t (place_text m))

      keys_last : (es : Modules) (x : Followed) → places (es ++ x ∷ []) ≡ places es ++ place_of x.0 ∷ []
      keys_last [] x = refl
      keys_last (y ∷ ys) x = ap (λ (ps : List (Nv × Text)). place_of y.0 ∷ ps) (keys_last ys x)

      places_length : (es : Modules) → length (places es) ≡ length es
      places_length [] = refl
      places_length (y ∷ ys) = ap suc (places_length ys)

      waiting_same : (xs : List SymbolAt) → ((x : SymbolAt) → Contains xs x → x.place < length f.modules.entries) →
          flat_map (symbols_at (places (f.modules.entries ++ m ∷ []))) (map seen_at xs) ≡ flat_map (symbols_at (places f.modules.entries)) (map seen_at xs)
      waiting_same [] h = refl
      waiting_same (x ∷ xs) h =
          ap (λ (o : Option (Nv × Text)). map (symbol_at (seen_at x).1) (option_to_list o) ++
          flat_map (symbols_at (places (f.modules.entries ++ m ∷ []))) (map seen_at xs))
          (ap (λ (ps : List (Nv × Text)). slice_get ps x.place) (keys_last f.modules.entries m) ∙
          get_before (places f.modules.entries) (place_of m.0) x.place
          (let l = h x (first_in x xs) in let e = places_length f.modules.entries in omega (arith, l, e))) ∙
          ap (λ (ds : List Demand). symbols_at (places f.modules.entries) (seen_at x) ++ ds)
          (waiting_same xs (λ y c. h y (Contains-append_right (x ∷ []) xs y c)))

      abbrev state_with : (Nv → Text → SymbolDemand → Bool) → List Demand → Search
      state_with symbols waiting = record {
        packages = map nv_of f.packages;
        handled = handled f.handled;
        symbols = symbols;
        waiting = map of_package (drop f.entered (map nv_of f.packages)) ++ (map names_seen f.names.items ++ waiting);
      }

      state_same : state (f.modules.entries ++ m ∷ []) ≡ state f.modules.entries
      state_same =
          ap (λ (s : Nv → Text → SymbolDemand → Bool). state_with s
          (flat_map (symbols_at (places (f.modules.entries ++ m ∷ []))) (map seen_at f.symbols.items)))
          (fun_ext (λ p. fun_ext (λ t. fun_ext (λ d. any_last (has_symbol p t d) f.modules.entries m (no_symbol p t d))))) ∙
          ap (state_with (λ p t d. list_any (has_symbol p t d) f.modules.entries)) (waiting_same f.symbols.items sound.symbols)

      -- all that is found of it
      found_is : followed_yields m ≡ recorded nv (serialize (specifier_of info)) ∷ []
      found_is =
          ap (λ (xs : List SourceRange). with xs m.1.found.implementations.items m.1.found.faults.items) new.1.ranges ∙
          (ap (λ (xs : List SourceRange). with [] xs m.1.found.faults.items) new.1.implementations ∙
          (ap (λ (xs : List SymbolFault). with [] [] xs) new.1.faults ∙
          (ap (λ (p : Nv). recorded p (own_text m.1.found) ∷ []) placed.nv_is ∙
          ap (λ (i : AnyModuleInfo). recorded nv (serialize (specifier_of i)) ∷ []) new.1.info)))
        where
          with : List SourceRange → List SourceRange → List SymbolFault → List Yield
          with ranges implementations faults = recorded (place_nv m) (own_text m.1.found) ∷ (map (public (place_nv m) (own_text m.1.found)) ranges ++
              (map (implementing (place_nv m) (own_text m.1.found)) implementations ++
              placed_yields (place_nv m) (own_text m.1.found) (flat_map (placed_seen (source_in m.1.found.info.now)) faults)))

      last_is : flat_map followed_yields (f.modules.entries ++ m ∷ []) ≡
          flat_map followed_yields f.modules.entries ++ recorded nv (serialize (specifier_of info)) ∷ []
      last_is = flat_map-append followed_yields f.modules.entries (m ∷ []) ∙
          ap (λ (ys : List Yield). flat_map followed_yields f.modules.entries ++ ys) (append-nil (followed_yields m) ∙ found_is)

      own_module : IsModuleOf g r m
      own_module = record {
        named = ap (named_at r) placed.text_is ∙ (named ∙ ap Some (sym new.1.info));
        own = placed.text_is ∙ ap (λ (i : AnyModuleInfo). serialize (specifier_of i)) (sym new.1.info);
        index = subst (λ (o : Option ReExportIndex). IfSome o (IsIndexOf (traced_in g r m.1.found.info.now))) (sym new.1.index) tt;
        shown = λ t. absurd (false≢true (sym new.1.shows_all ∙ t));
        aliases = λ a c. absurd (none_in a (subst (λ (ks : List AskedAlias). Contains ks a) new.1.aliases c));
      }

      goes_new : Goes g r [] (recorded nv (serialize (specifier_of info)) ∷ []) f b
      goes_new = record {
        asked = [];
        are = same_itself [];
        asks = search_is ∙ (ap state new.0 ∙ state_same);
        found = subst (λ (ys : List Yield). Joins (recorded nv (serialize (specifier_of info)) ∷ []) (yields_in f) ys)
            (sym (yields_are ∙ ap (λ (ms : Modules). yields_by f.entrances.items f.dependencies.keys ms f.untyped.items) new.0))
            (joins_right (recorded nv (serialize (specifier_of info)) ∷ []) _ _ (flat_map entered_yields f.entrances.items)
            (joins_right (recorded nv (serialize (specifier_of info)) ∷ []) _ _ (map depends f.dependencies.keys)
            (joins_left (recorded nv (serialize (specifier_of info)) ∷ []) (flat_map followed_yields f.modules.entries)
            (flat_map followed_yields (f.modules.entries ++ m ∷ [])) (flat_map untyped_yields_of f.untyped.items)
            (subst (λ (ys : List Yield). Joins (recorded nv (serialize (specifier_of info)) ∷ []) (flat_map followed_yields f.modules.entries) ys)
            (sym last_is) (joins_last (recorded nv (serialize (specifier_of info)) ∷ []) (flat_map followed_yields f.modules.entries))))));
        sound = record {
          modules = λ x c. ⊎_elim (λ old. sound.modules x old) (λ is. subst (IsModuleOf g r) is own_module)
              (Contains-push_cases f.modules.entries m x (subst (λ (ms : Modules). Contains ms x) new.0 c));
          symbols = λ x c. let h = sound.symbols x (subst (λ (s : List SymbolAt). Contains s x) w.symbols c) in
              let l = ap length new.0 ∙ length-append f.modules.entries (m ∷ []) in omega (arith, h, l);
          once = once_same (map nv_of b.packages) (map nv_of f.packages) b.entered f.entered (map entered_nv b.entrances.items)
              (map entered_nv f.entrances.items) (ap (map nv_of) w.packages) w.entered (ap (map entered_nv) w.entrances) sound.once;
        };
      }

    pub placed_goes : Goes g r [] (recorded nv (serialize (specifier_of info)) ∷ []) f b
    placed_goes = ⊎_elim (λ same. goes_before same) (λ new. goes_new new) placed.by
