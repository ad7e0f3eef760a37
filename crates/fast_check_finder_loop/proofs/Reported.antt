-- What is noted beside what is asked: how a package was entered, and a module whose types are not known.
use Rattle.std.proofs.Common.{◌≡◌, ◌∙◌, sym, ap, refl, subst, ℕ, ◌<◌, List, [], ◌∷◌, ◌++◌, map, length}
use Rattle.std.specs.List.{flat_map, Contains}
use Rattle.std.proofs.lemmas.List.{append-nil, map-append}
use Rattle.std.proofs.lemmas.List.Concat.{flat_map-append}
use Rattle.url.specs.Parts.{Parts}
use Rattle.fast_check_tables_packages.specs.Package.{Nv, nv_of}
use Rattle.fast_check_tables_packages.specs.declared.package.PackageNv.{PackageNv}
use Rattle.fast_check_tables_graph.specs.declared.graph.ModuleGraph.{ModuleGraph}
use Rattle.fast_check_tables_graph.specs.declared.root_symbol.RootSymbol.{RootSymbol}
use Rattle.fast_check_finder_lattice.specs.declared.lattice.imported_exports.ImportedExports.{ImportedExports}
use Rattle.fast_check_finder_lattice.specs.Traces.{handled}
use Rattle.fast_check_finder_demands.specs.Yields.{Joins}
use Rattle.fast_check_finder_ranges.specs.declared.findings.found.Entrance.{Entrance}
use Rattle.fast_check_finder_ranges.specs.findings.Found.{entrance_yields, untyped_yields}
use Rattle.fast_check_finder_ranges.specs.findings.Yields.{Yield}
use Rattle.std.proofs.Common.{Some}
use Rattle.fast_check_finder_loop.specs.declared.demand.Dependency.{Dependency}
use Rattle.fast_check_finder_loop.specs.declared.demand.NamesAt.{NamesAt}
use Rattle.fast_check_finder_loop.specs.declared.demand.SymbolAt.{SymbolAt}
use Rattle.fast_check_finder_loop.specs.declared.finder.Finder.{Finder}
use Rattle.fast_check_finder_loop.specs.Once.{AreOnce}
use Rattle.fast_check_finder_loop.specs.Finder.{Modules, names_seen, seen_at, search_in, search_of, entered_yields, entered_nv, depends, followed_yields, untyped_yields_of, yields_by, yields_in, IsSound, CanEnter, Goes}
use Rattle.fast_check_finder_loop.proofs.Followed.{once_same}
use Rattle.fast_check_finder_loop.proofs.Steps.{same_itself}
use Rattle.fast_check_finder_loop.proofs.Joins.{joins_left, joins_right, joins_last}

-- what is asked is the same
pub record IsAskedAlike (f b : Finder) : Type 0 where
  pub packages : b.packages ≡ f.packages
  pub entered : b.entered ≡ f.entered
  pub handled : handled b.handled ≡ handled f.handled
  pub names : b.names.items ≡ f.names.items
  pub modules : b.modules.entries ≡ f.modules.entries
  pub symbols : b.symbols.items ≡ f.symbols.items
  pub dependencies : b.dependencies.keys ≡ f.dependencies.keys

module _ (f b : Finder) (w : IsAskedAlike f b) where
  pub search_same : search_of b ≡ search_of f
  search_same = ap (λ (x : List PackageNv). search_in (map nv_of x) b.entered (handled b.handled) (map names_seen b.names.items) b.modules.entries
      (map seen_at b.symbols.items)) w.packages ∙
      (ap (λ (x : ℕ). search_in (map nv_of f.packages) x (handled b.handled) (map names_seen b.names.items) b.modules.entries
      (map seen_at b.symbols.items)) w.entered ∙
      (ap (λ (x : List (Parts × ImportedExports)). search_in (map nv_of f.packages) f.entered x (map names_seen b.names.items) b.modules.entries
      (map seen_at b.symbols.items)) w.handled ∙
      (ap (λ (x : List NamesAt). search_in (map nv_of f.packages) f.entered (handled f.handled) (map names_seen x) b.modules.entries
      (map seen_at b.symbols.items)) w.names ∙
      (ap (λ (x : Modules). search_in (map nv_of f.packages) f.entered (handled f.handled) (map names_seen f.names.items) x
      (map seen_at b.symbols.items)) w.modules ∙
      ap (λ (x : List SymbolAt). search_in (map nv_of f.packages) f.entered (handled f.handled) (map names_seen f.names.items) f.modules.entries
      (map seen_at x)) w.symbols))))

  yields_same : yields_in b ≡ yields_by b.entrances.items f.dependencies.keys f.modules.entries b.untyped.items
  yields_same = ap (λ (x : List Dependency). yields_by b.entrances.items x b.modules.entries b.untyped.items) w.dependencies ∙
      ap (λ (x : Modules). yields_by b.entrances.items f.dependencies.keys x b.untyped.items) w.modules

  module _ (g : ModuleGraph) (r : RootSymbol) (sound : IsSound g r f) where
    still : AreOnce (map nv_of f.packages) f.entered (map entered_nv b.entrances.items) → IsSound g r b
    still once = record {
      modules = λ e c. sound.modules e (subst (λ (ms : Modules). Contains ms e) w.modules c);
      symbols = λ x c. subst (λ (n : ℕ). x.place < n) (sym (ap length w.modules))
          (sound.symbols x (subst (λ (xs : List SymbolAt). Contains xs x) w.symbols c));
      once = once_same (map nv_of b.packages) (map nv_of f.packages) b.entered f.entered (map entered_nv b.entrances.items)
          (map entered_nv b.entrances.items) (ap (map nv_of) w.packages) w.entered refl once;
    }

    -- a package is entered
    pub entrance_goes : (p : PackageNv) (e : Entrance) → CanEnter (nv_of p) f → b.entrances.items ≡ f.entrances.items ++ (p, e) ∷ [] →
        b.untyped.items ≡ f.untyped.items → Goes g r [] (entrance_yields (nv_of p) (Some e)) f b
    entrance_goes p e can more same = record {
      asked = [];
      are = same_itself [];
      asks = search_same;
      found = subst (λ (ys : List Yield). Joins (entrance_yields (nv_of p) (Some e)) (yields_in f) ys)
          (sym (yields_same ∙ (ap (λ (x : List (PackageNv × Parts)). yields_by b.entrances.items f.dependencies.keys f.modules.entries x) same ∙
          ap (λ (x : List (PackageNv × Entrance)). yields_by x f.dependencies.keys f.modules.entries f.untyped.items) more)))
          (joins_left (entrance_yields (nv_of p) (Some e)) (flat_map entered_yields f.entrances.items)
          (flat_map entered_yields (f.entrances.items ++ (p, e) ∷ [])) _
          (subst (λ (ys : List Yield). Joins (entrance_yields (nv_of p) (Some e)) (flat_map entered_yields f.entrances.items) ys)
          (sym (flat_map-append entered_yields f.entrances.items ((p, e) ∷ []) ∙
          ap (λ (ys : List Yield). flat_map entered_yields f.entrances.items ++ ys) (append-nil (entered_yields (p, e)))))
          (joins_last (entrance_yields (nv_of p) (Some e)) (flat_map entered_yields f.entrances.items))));
      sound = still (subst (λ (ns : List Nv). AreOnce (map nv_of f.packages) f.entered ns)
          (sym (ap (map entered_nv) more ∙ map-append entered_nv f.entrances.items ((p, e) ∷ []))) can);
    }

    -- a module whose types are not known
    pub untyped_goes : (p : PackageNv) (url : Parts) → b.entrances.items ≡ f.entrances.items →
        b.untyped.items ≡ f.untyped.items ++ (p, url) ∷ [] → Goes g r [] (untyped_yields (nv_of p) url) f b
    untyped_goes p url same more = record {
      asked = [];
      are = same_itself [];
      asks = search_same;
      found = subst (λ (ys : List Yield). Joins (untyped_yields (nv_of p) url) (yields_in f) ys)
          (sym (yields_same ∙ (ap (λ (x : List (PackageNv × Entrance)). yields_by x f.dependencies.keys f.modules.entries b.untyped.items) same ∙
          ap (λ (x : List (PackageNv × Parts)). yields_by f.entrances.items f.dependencies.keys f.modules.entries x) more)))
          (joins_right (untyped_yields (nv_of p) url) _ _ (flat_map entered_yields f.entrances.items)
          (joins_right (untyped_yields (nv_of p) url) _ _ (map depends f.dependencies.keys)
          (joins_right (untyped_yields (nv_of p) url) (flat_map untyped_yields_of f.untyped.items)
          (flat_map untyped_yields_of (f.untyped.items ++ (p, url) ∷ [])) (flat_map followed_yields f.modules.entries)
          (subst (λ (ys : List Yield). Joins (untyped_yields (nv_of p) url) (flat_map untyped_yields_of f.untyped.items) ys)
          (sym (flat_map-append untyped_yields_of f.untyped.items ((p, url) ∷ []) ∙
          ap (λ (ys : List Yield). flat_map untyped_yields_of f.untyped.items ++ ys) (append-nil (untyped_yields_of (p, url)))))
          (joins_last (untyped_yields (nv_of p) url) (flat_map untyped_yields_of f.untyped.items))))));
      sound = still (subst (λ (xs : List (PackageNv × Entrance)). AreOnce (map nv_of f.packages) f.entered (map entered_nv xs)) (sym same) sound.once);
    }
