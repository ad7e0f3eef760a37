-- All that follows from a demand, by its parts.
use Rattle.std.proofs.Common.{◌≡◌, ◌∙◌, sym, ap, refl, subst, Bool, true, false, cond, not, ◌||◌, List, [], ◌∷◌, ◌++◌, Option, Some, None, map, option_map}
use Rattle.std.specs.List.{flat_map}
use Rattle.std.specs.Option.{option_and_then}
use Rattle.std.proofs.lemmas.Bool.{false≢true}
use Rattle.std.proofs.lemmas.List.{append-nil, append_assoc}
use Rattle.std.proofs.lemmas.List.Concat.{flat_map-append}
use Rattle.url.specs.Parts.{serialize}
use Rattle.fast_check_tables_packages.specs.Package.{Nv}
use Rattle.fast_check_tables_graph.specs.Root.{specifier_of}
use Rattle.fast_check_tables_graph.specs.Modules.{is_typed_module, is_external}
use Rattle.fast_check_tables_graph.specs.declared.module.Module.{Module}
use Rattle.fast_check_tables_graph.specs.declared.root_symbol.AnyModuleInfo.{AnyModuleInfo}
use Rattle.fast_check_finder_lattice.specs.Imports.{NameDemand}
use Rattle.fast_check_finder_demands.specs.symbol_demands.Demands.{Demand as SymbolDemand}
use Rattle.fast_check_finder_demands.specs.symbol_demands.Rules.{each_of, names}
use Rattle.fast_check_finder_demands.specs.Yields.{ranges, implementations, faults}
use Rattle.fast_check_finder_demands.specs.name_demands.Files.{FileDemand, files}
use Rattle.fast_check_finder_demands.specs.declared.re_exports.modules.GraphModule.{GraphModule}
use Rattle.fast_check_finder_demands.specs.re_exports.Modules.{own_tables}
use Rattle.fast_check_finder_demands.specs.re_exports.Roots.{roots}
use Rattle.fast_check_finder_demands.specs.re_exports.ReExports.{ModuleDemand, re_export_ranges, module_followers}
use Rattle.fast_check_finder_ranges.specs.findings.Findings.{faulty_module}
use Rattle.fast_check_finder_ranges.specs.findings.Yields.{Yield, recorded, untyped_module}
use Rattle.fast_check_finder_demands.specs.asked.Demands.{Text, of_symbol, of_module, DemandSet, to_symbol}
use Rattle.fast_check_finder_demands.specs.facts.GraphFacts.{Known, named_at, traced_as, node_at, typed_info, info_at, is_untyped, untyped_at}
use Rattle.fast_check_finder_demands.specs.facts.Followers.{file_followers, re_export_followers}
use Rattle.fast_check_finder_loop.specs.declared.finder.Finder.{Finder}
use Rattle.fast_check_finder_loop.specs.Finder.{Followed, place_nv, place_text, IsModuleOf, Goes}
use Rattle.fast_check_finder_loop.specs.Rules.{own_text, names_followers, symbol_followers, followers}
use Rattle.fast_check_finder_loop.specs.Yields.{dependency_of, dependencies, public_at, implementing_at, faults_at, names_yields, symbol_yields, untyped_yields, demand_yields}
use Rattle.fast_check_finder_loop.proofs.Steps.{goes_then}

-- demands of symbols are no dependencies

no_dependencies : (nv : Nv) (t : Text) (ds : List SymbolDemand) → dependencies nv (map (to_symbol nv t) ds) ≡ []
no_dependencies nv t [] = refl
no_dependencies nv t (d ∷ ds) = no_dependencies nv t ds

behind_symbols : (nv : Nv) (t : Text) (ds : List SymbolDemand) (ws : List DemandSet) →
    dependencies nv (map (to_symbol nv t) ds ++ ws) ≡ dependencies nv ws
behind_symbols nv t ds ws = flat_map-append (dependency_of nv) (map (to_symbol nv t) ds) ws ∙
    ap (λ (ys : List Yield). ys ++ dependencies nv ws) (no_dependencies nv t ds)

module _ (k : Known) (nv : Nv) (m : GraphModule) (a b c : Finder) where
  abbrev Step : List DemandSet → List Yield → Finder → Finder → Type 0
  Step = Goes k.graph k.root_symbol

  -- a demand of a symbol
  pub symbol_steps : (s : SymbolDemand) →
      Step (map (to_symbol nv (own_text m)) (names (own_tables m) s))
      (public_at nv m (ranges (own_tables m) s) ++ (implementing_at nv m (implementations (own_tables m) s) ++ faults_at nv m (faults (own_tables m) s))) a b →
      Step (flat_map (file_followers k nv m) (files (own_tables m) s)) (dependencies nv (flat_map (file_followers k nv m) (files (own_tables m) s))) b c →
      Step (symbol_followers k nv s m) (symbol_yields k nv s m) a c
  symbol_steps s here there = subst (λ (ys : List Yield). Step (symbol_followers k nv s m) ys a c) is
      (goes_then k.graph k.root_symbol (map (to_symbol nv (own_text m)) (names (own_tables m) s)) files_asked (A ++ (B ++ F)) (dependencies nv files_asked) a b c
      here there)
    where
      files_asked : List DemandSet
      files_asked = flat_map (file_followers k nv m) (files (own_tables m) s)

      A : List Yield
      A = public_at nv m (ranges (own_tables m) s)

      B : List Yield
      B = implementing_at nv m (implementations (own_tables m) s)

      F : List Yield
      F = faults_at nv m (faults (own_tables m) s)

      is : (A ++ (B ++ F)) ++ dependencies nv files_asked ≡ A ++ (B ++ (F ++ dependencies nv (symbol_followers k nv s m)))
      is = append_assoc A (B ++ F) (dependencies nv files_asked) ∙
          (ap (λ (ys : List Yield). A ++ ys) (append_assoc B F (dependencies nv files_asked)) ∙
          ap (λ (ys : List Yield). A ++ (B ++ (F ++ ys))) (sym (behind_symbols nv (own_text m) (names (own_tables m) s) files_asked)))

  -- names of a module that has its place
  pub names_steps : (d : NameDemand) →
      Step (map (to_symbol nv (own_text m)) (roots (own_tables m) d)) (public_at nv m (re_export_ranges m d)) a b →
      Step (flat_map (re_export_followers k nv m) (module_followers m d)) (dependencies nv (flat_map (re_export_followers k nv m) (module_followers m d))) b c →
      Step (names_followers k nv d m) (public_at nv m (re_export_ranges m d) ++ dependencies nv (names_followers k nv d m)) a c
  names_steps d here there = subst
      (λ (ys : List Yield). Step (names_followers k nv d m) (public_at nv m (re_export_ranges m d) ++ ys) a c)
      (sym (behind_symbols nv (own_text m) (roots (own_tables m) d) left))
      (goes_then k.graph k.root_symbol (map (to_symbol nv (own_text m)) (roots (own_tables m) d)) left (public_at nv m (re_export_ranges m d))
      (dependencies nv left) a b c here there)
    where
      left : List DemandSet
      left = flat_map (re_export_followers k nv m) (module_followers m d)

module _ (k : Known) (a b : Finder) where
  -- of a symbol of the module at a place
  pub symbol_at_place : (e : Followed) → IsModuleOf k.graph k.root_symbol e → (s : SymbolDemand) →
      Goes k.graph k.root_symbol (symbol_followers k (place_nv e) s (traced_as k e.1.found.info.now))
      (symbol_yields k (place_nv e) s (traced_as k e.1.found.info.now)) a b →
      Goes k.graph k.root_symbol (followers k (of_symbol (place_nv e) (place_text e) s)) (demand_yields k (of_symbol (place_nv e) (place_text e) s)) a b
  symbol_at_place e own s goes = subst
      (λ (o : Option GraphModule). Goes k.graph k.root_symbol (each_of (symbol_followers k (place_nv e) s) o) (each_of (symbol_yields k (place_nv e) s) o) a b)
      (sym (ap (option_map (traced_as k)) own.named)) goes

  -- of names of a module that has tables

  typed_is : (b : Bool) (o : Option AnyModuleInfo) (info : AnyModuleInfo) → cond b o None ≡ Some info → b ≡ true
  typed_is true o info e = refl
  typed_is false o info e = absurd (none info e)
    where
      none : (x : AnyModuleInfo) → None ≡ Some x → ⊥
      none x e = cc

  not_untyped : (t : Text) (info : AnyModuleInfo) → info_at k.graph k.root_symbol t ≡ Some info → untyped_at k.graph t ≡ false
  not_untyped t info e = go (node_at k.graph t) e
    where
      either : (x y : Bool) → x ≡ true → not (x || y) ≡ false
      either true y h = refl
      either false y h = absurd (false≢true h)

      go : (o : Option Module) → option_and_then (typed_info k.root_symbol t) o ≡ Some info → is_untyped o ≡ false
      go None h = absurd (none h)
        where
          none : None ≡ Some info → ⊥
          none h = cc
      go (Some n) h = either (is_typed_module n) (is_external n) (typed_is (is_typed_module n) (named_at k.root_symbol t) info h)

  pub names_of_module : (nv : Nv) (t : Text) (d : NameDemand) (info : AnyModuleInfo) → info_at k.graph k.root_symbol t ≡ Some info →
      Goes k.graph k.root_symbol (names_followers k nv d (traced_as k info)) (names_yields k nv d (traced_as k info)) a b →
      Goes k.graph k.root_symbol (followers k (of_module nv t d)) (demand_yields k (of_module nv t d)) a b
  names_of_module nv t d info e goes = subst
      (λ (o : Option GraphModule). Goes k.graph k.root_symbol (each_of (names_followers k nv d) o)
      (each_of (names_yields k nv d) o ++ untyped_yields k.graph nv t) a b)
      (sym (ap (option_map (traced_as k)) e))
      (subst (λ (ys : List Yield). Goes k.graph k.root_symbol (names_followers k nv d (traced_as k info)) ys a b)
      (sym (ap (λ (u : Bool). names_yields k nv d (traced_as k info) ++ cond u (faulty_module nv t untyped_module) []) (not_untyped t info e) ∙
      append-nil (names_yields k nv d (traced_as k info)))) goes)

  -- of one that has none
  pub names_of_none : (nv : Nv) (t : Text) (d : NameDemand) → info_at k.graph k.root_symbol t ≡ None →
      Goes k.graph k.root_symbol [] (untyped_yields k.graph nv t) a b →
      Goes k.graph k.root_symbol (followers k (of_module nv t d)) (demand_yields k (of_module nv t d)) a b
  names_of_none nv t d e goes = subst
      (λ (o : Option GraphModule). Goes k.graph k.root_symbol (each_of (names_followers k nv d) o)
      (each_of (names_yields k nv d) o ++ untyped_yields k.graph nv t) a b)
      (sym (ap (option_map (traced_as k)) e)) goes

-- by what the code has of the module and its package

module _ (k : Known) (a mid b : Finder) where
  pub symbol_all : (e : Followed) → IsModuleOf k.graph k.root_symbol e → (s : SymbolDemand) (nv : Nv) (info : AnyModuleInfo) (fs : List FileDemand) →
      nv ≡ place_nv e → info ≡ e.1.found.info.now → let m = traced_as k e.1.found.info.now in fs ≡ files (own_tables m) s →
      Goes k.graph k.root_symbol (map (to_symbol (place_nv e) (own_text m)) (names (own_tables m) s))
      (public_at (place_nv e) m (ranges (own_tables m) s) ++ (implementing_at (place_nv e) m (implementations (own_tables m) s) ++
      faults_at (place_nv e) m (faults (own_tables m) s))) a mid →
      Goes k.graph k.root_symbol (flat_map (file_followers k nv (traced_as k info)) fs)
      (dependencies nv (flat_map (file_followers k nv (traced_as k info)) fs)) mid b →
      Goes k.graph k.root_symbol (followers k (of_symbol (place_nv e) (place_text e) s)) (demand_yields k (of_symbol (place_nv e) (place_text e) s)) a b
  symbol_all e own s nv info fs is_nv is_info is_files here there =
      let m = traced_as k e.1.found.info.now in
      symbol_at_place k a b e own s (symbol_steps k (place_nv e) m a mid b s here
      (subst (λ (ds : List FileDemand). Goes k.graph k.root_symbol (flat_map (file_followers k (place_nv e) m) ds)
      (dependencies (place_nv e) (flat_map (file_followers k (place_nv e) m) ds)) mid b) is_files
      (subst (λ (i : AnyModuleInfo). Goes k.graph k.root_symbol (flat_map (file_followers k (place_nv e) (traced_as k i)) fs)
      (dependencies (place_nv e) (flat_map (file_followers k (place_nv e) (traced_as k i)) fs)) mid b) is_info
      (subst (λ (p : Nv). Goes k.graph k.root_symbol (flat_map (file_followers k p (traced_as k info)) fs)
      (dependencies p (flat_map (file_followers k p (traced_as k info)) fs)) mid b) is_nv there))))

  pub names_all : (x : Finder) (e : Followed) (d : NameDemand) (nv : Nv) (info : AnyModuleInfo) (ws : List ModuleDemand) →
      place_nv e ≡ nv → e.1.found.info.now ≡ info → ws ≡ module_followers (traced_as k e.1.found.info.now) d →
      Goes k.graph k.root_symbol [] (recorded nv (serialize (specifier_of info)) ∷ []) x a →
      (let m = traced_as k e.1.found.info.now in
      Goes k.graph k.root_symbol (map (to_symbol (place_nv e) (own_text m)) (roots (own_tables m) d)) (public_at (place_nv e) m (re_export_ranges m d)) a mid) →
      Goes k.graph k.root_symbol (flat_map (re_export_followers k nv (traced_as k info)) ws) (dependencies nv (flat_map (re_export_followers k nv (traced_as k info)) ws)) mid b →
      Goes k.graph k.root_symbol (names_followers k nv d (traced_as k info)) (names_yields k nv d (traced_as k info)) x b
  names_all x e d nv info ws is_nv is_info is_followers first here there = go (place_nv e) e.1.found.info.now is_nv is_info is_followers here
    where
      go : (p : Nv) (i : AnyModuleInfo) → p ≡ nv → i ≡ info → ws ≡ module_followers (traced_as k i) d →
          Goes k.graph k.root_symbol (map (to_symbol p (own_text (traced_as k i))) (roots (own_tables (traced_as k i)) d))
          (public_at p (traced_as k i) (re_export_ranges (traced_as k i) d)) a mid →
          Goes k.graph k.root_symbol (names_followers k nv d (traced_as k info)) (names_yields k nv d (traced_as k info)) x b
      go p i e f w h =
          let m = traced_as k info in
          let inner = subst (λ (q : Nv). Goes k.graph k.root_symbol (map (to_symbol q (own_text m)) (roots (own_tables m) d))
          (public_at q m (re_export_ranges m d)) a mid) e
          (subst (λ (j : AnyModuleInfo). Goes k.graph k.root_symbol (map (to_symbol p (own_text (traced_as k j))) (roots (own_tables (traced_as k j)) d))
          (public_at p (traced_as k j) (re_export_ranges (traced_as k j) d)) a mid) f h) in
          let outer = subst (λ (vs : List ModuleDemand). Goes k.graph k.root_symbol (flat_map (re_export_followers k nv m) vs)
          (dependencies nv (flat_map (re_export_followers k nv m) vs)) mid b) (w ∙ ap (λ (j : AnyModuleInfo). module_followers (traced_as k j) d) f) there in
          goes_then k.graph k.root_symbol [] (names_followers k nv d m) (recorded nv (own_text m) ∷ [])
          (public_at nv m (re_export_ranges m d) ++ dependencies nv (names_followers k nv d m)) x a b first (names_steps k nv m a mid b d inner outer)
