-- What follows from what can be demanded can be demanded.
use Rattle.std.proofs.Common.{◌≡◌, sym, refl, subst, ℕ, suc, List, [], ◌∷◌, ◌++◌, map, length, Option, Some, None, option_map}
use Rattle.std.proofs.Common.{option_to_list, is_some, string_bytes}
use Rattle.std.specs.List.{Contains, flat_map}
use Rattle.std.specs.Map.{lookup}
use Rattle.std.proofs.lemmas.List.Elements.{Contains-append_left, Contains-append_right}
use Rattle.url.specs.Parts.{Parts, serialize}
use Rattle.fast_check_tables_packages.specs.Package.{Nv}
use Rattle.fast_check_tables_cache.specs.Cache.{ItemView}
use Rattle.fast_check_finder_lattice.specs.Names.{Name}
use Rattle.fast_check_finder_lattice.specs.Imports.{default_name, NameDemand, names_but_default, each_name, subset_at, whole_at}
use Rattle.fast_check_tables_symbols.specs.declared.tables.ReExportAllNode.{ReExportAllNode}
use Rattle.fast_check_tables_symbols.specs.Tables.{Tables, resolved_export}
use Rattle.fast_check_tables_graph.specs.declared.root_symbol.AnyModuleInfo.{AnyModuleInfo}
use Rattle.fast_check_tables_graph.specs.Graph.{is_specifier}
use Rattle.fast_check_tables_graph.specs.Resolutions.{text_resolved}
use Rattle.fast_check_tables_graph.specs.Root.{specifier_of, found_module}
use Rattle.fast_check_finder_demands.specs.symbol_demands.Demands.{Demand as SymbolDemand}
use Rattle.fast_check_finder_demands.specs.symbol_demands.Rules.{each_of, names}
use Rattle.fast_check_finder_demands.proofs.Elements.{in_map, in_flat}
use Rattle.fast_check_finder_demands.proofs.Each.{Each, each_nil, each_one, each_append, each_cons, each_map, each_flat, each_cond, each_each_of}
use Rattle.fast_check_finder_demands.specs.name_demands.Files.{files}
use Rattle.fast_check_finder_demands.specs.declared.re_exports.modules.GraphModule.{GraphModule}
use Rattle.fast_check_finder_demands.specs.re_exports.Modules.{tables_in, own_export, led_to, answer_of, first_with, answer_to}
use Rattle.fast_check_finder_demands.specs.re_exports.Roots.{roots}
use Rattle.fast_check_finder_demands.specs.re_exports.ReExports.{ModuleDemand, re_exported, answered, all_re_exported, answered_at, path_followers, module_followers}
use Rattle.fast_check_finder_demands.specs.asked.Demands.{Text, same_nv, asked_by, DemandSet, to_package, to_module, to_symbol, Demand, of_package}
use Rattle.fast_check_finder_demands.specs.asked.Demands.{of_module, of_symbol}
use Rattle.fast_check_finder_demands.proofs.asked.Maps.{first_in, found_in}
use Rattle.fast_check_finder_ranges.specs.declared.findings.found.EntryFault.{EntryFault}
use Rattle.fast_check_finder_ranges.specs.entries.Entries.{Entrance, passed_over, refused, entered, all_faults}
use Rattle.fast_check_finder_demands.specs.facts.GraphFacts.{Used, Known, named_at, info_at, traced_as}
use Rattle.fast_check_finder_demands.specs.facts.Followers.{file_at, behind, resolved, file_followers, re_export_followers}
use Rattle.fast_check_finder_loop.specs.Measure.{IsWithin, IsInside, IsSetInside, IsUniverse}
use Rattle.fast_check_finder_loop.specs.Rules.{own_text, names_followers, symbol_followers, entry_demands, unless_faulty, entrance_at}
use Rattle.fast_check_finder_loop.specs.Rules.{entered_followers, entry_followers, followers}
use Rattle.fast_check_finder_loop.specs.Universe.{IsAmong}
use Rattle.fast_check_finder_loop.specs.Reach.{all_names, paths_up_to, symbol_paths, all_ids, targets, answers}
use Rattle.fast_check_finder_loop.specs.Reach.{entry_texts, outer_texts, all_packages, urls_in, reach}
use Rattle.fast_check_finder_loop.proofs.Paths.{fits_in, fits_empty, fits_more, empty_in, all_within, asked_within}
use Rattle.fast_check_finder_loop.proofs.Among.{in_demands, of_demands, narrowed_among}
use Rattle.fast_check_finder_loop.proofs.Written.{then_some, IsInfo, named_info, info_in, own_text_in, files_within, names_in, roots_within}

-- what a used item depends on
abbrev pub HasDependencies : Used → List Nv → Type 0
HasDependencies used stored = (nv : Nv) (urls : List Parts) (item : ItemView) → used nv urls ≡ Some item → (p : Nv) → Contains item.0 p →
    Contains stored p

module _ (k : Known) (stored roots_in : List Nv) (has_all : HasDependencies k.used stored) where
  abbrev A : List Name
  A = all_names k

  abbrev L : ℕ
  L = length (all_names k)

  abbrev In : DemandSet → Type 0
  In = IsSetInside (reach k stored roots_in)

  -- of a module that was found
  each_traced : {Y : Type 0} (P : Y → Type 0) (f : GraphModule → List Y) (o : Option AnyModuleInfo) →
      ((info : AnyModuleInfo) → o ≡ Some info → IsInfo k info) →
      ((info : AnyModuleInfo) → IsInfo k info → Each P (f (traced_as k info))) →
      Each P (each_of f (option_map (traced_as k) o))
  each_traced P f None is h = each_nil P
  each_traced P f (Some info) is h = h info (is info refl)

  -- packages and texts

  abbrev owners : List Nv
  owners = flat_map (λ t. option_to_list (k.owner t)) (outer_texts k)

  package_in : (t : Text) (p : Nv) → Contains (outer_texts k) t → k.owner t ≡ Some p → Contains (reach k stored roots_in).packages p
  package_in t p c e = Contains-append_right roots_in (owners ++ stored) p (Contains-append_left owners stored p
      (in_flat (λ (u : Text). option_to_list (k.owner u)) (outer_texts k) t p c
      (subst (λ (o : Option Nv). Contains (option_to_list o) p) (sym e) (first_in p []))))

  text_in : (t : Text) → Contains (outer_texts k) t → Contains (reach k stored roots_in).texts t
  text_in t c = Contains-append_left (outer_texts k) (entry_texts k (all_packages k stored roots_in)) t c

  abbrev Within : NameDemand → Type 0
  Within = IsWithin (paths_up_to (suc L) A)

  in_file : (nv : Nv) (t : Text) (d : NameDemand) (o : Option Nv) → k.owner t ≡ o → Contains (outer_texts k) t → Within d → Each In
      (file_at nv t (asked_by d) o)
  in_file nv t d None e c i = each_nil In
  in_file nv t d (Some p) e c i =
      each_cond In (same_nv nv p) (to_module p t (asked_by d) ∷ []) (to_package p ∷ [])
      (each_one In (to_module p t (asked_by d)) (package_in t p c e, text_in t c, asked_within A (suc L) d i))
      (each_one In (to_package p) (package_in t p c e))

  in_behind : (nv : Nv) (t : Text) (d : NameDemand) (o : Option Nv) → k.owner t ≡ o → Contains (outer_texts k) t → Within d → Each In
      (behind nv t (asked_by d) o)
  in_behind nv t d None e c i = each_nil In
  in_behind nv t d (Some p) e c i =
      each_cons In (to_module p t (asked_by d)) _ (package_in t p c e, text_in t c, asked_within A (suc L) d i)
      (each_cond In (same_nv nv p) [] (to_package p ∷ []) (each_nil In) (each_one In (to_package p) (package_in t p c e)))

  target_in : (info : AnyModuleInfo) (text : List ℕ) (url : Parts) → resolved (traced_as k info) text ≡ Some url →
      Contains (outer_texts k) (serialize url)
  target_in info text url e =
      let r = then_some (text_resolved text) (lookup (is_specifier (specifier_of info)) k.graph.resolutions.entries) url e in
      let f = found_in (is_specifier (specifier_of info)) k.graph.resolutions.entries r.0 r.1 in
      let g = found_in _ r.0.entries url r.2 in
      Contains-append_left (targets k) (answers k) (serialize url)
      (in_flat (λ e. map (λ x. serialize x.1) e.1.entries) k.graph.resolutions.entries (f.0, r.0) (serialize url) f.1
      (in_map (λ x. serialize x.1) r.0.entries (g.0, url) g.1))

  answer_in : (info : AnyModuleInfo) (name : Name) (url : Parts) → answer_to (traced_as k info) name ≡ Some url →
      Contains (outer_texts k) (serialize url)
  answer_in info name url e =
      let x = then_some (answer_of (traced_as k info) name) (first_with (traced_as k info) name (tables_in info).re_exports) url e in
      let o = then_some (λ other. resolved_export (tables_in other) name) (led_to (traced_as k info) x.0) url x.2 in
      let l = then_some (found_module k.root_symbol) (resolved (traced_as k info) (string_bytes x.0.specifier)) o.0 o.1 in
      let i = named_info k (serialize l.0) o.0 l.2 in
      let f = found_in _ (tables_in o.0).resolved url o.2 in
      Contains-append_right (targets k) (answers k) (serialize url)
      (in_flat (λ e. map (λ x. serialize x.1) (tables_in e.1).resolved) k.root_symbol.modules.entries (i.0, o.0)
      (serialize url) i.1
      (in_map (λ x. serialize x.1) (tables_in o.0).resolved (f.0, url) f.1))

  -- what a module asks

  module _ (info : AnyModuleInfo) (is : IsInfo k info) where
    abbrev T : Tables
    T = tables_in info

    abbrev m : GraphModule
    m = traced_as k info

    abbrev SymbolIn : SymbolDemand → Type 0
    SymbolIn = IsAmong (all_ids k) (symbol_paths k)

    in_left : (nv : Nv) (text : List ℕ) → Each In (re_export_followers k nv m (re_exported text))
    in_left nv text = each_each_of In (λ url. behind nv (serialize url) (asked_by names_but_default) (k.owner (serialize url)))
        (resolved m text)
        (λ url e. in_behind nv (serialize url) names_but_default (k.owner (serialize url)) refl (target_in info text url e) tt)

    in_all : (nv : Nv) → Each In (flat_map (re_export_followers k nv m) (all_re_exported T.re_exports))
    in_all nv = go T.re_exports
      where
        go : (xs : List ReExportAllNode) → Each In (flat_map (re_export_followers k nv m) (all_re_exported xs))
        go [] = each_nil In
        go (x ∷ xs) = each_append In (re_export_followers k nv m (re_exported (string_bytes x.specifier)))
            (flat_map (re_export_followers k nv m) (all_re_exported xs))
            (in_left nv (string_bytes x.specifier)) (go xs)

    in_path : (nv : Nv) (n : Name) (d : NameDemand) → Within d → Each In (flat_map (re_export_followers k nv m) (path_followers m n d))
    in_path nv n d h = each_flat In (re_export_followers k nv m) (path_followers m n d) (λ v c. go v
        (each_cond Ans (is_some (own_export T n)) [] (answered_at d (answer_to m n)) (each_nil Ans)
        (each_each_of Ans (λ url. answered url d ∷ []) (answer_to m n)
        (λ url e. each_one Ans (answered url d) (answer_in info n url e, refl))) v c))
      where
        Ans : ModuleDemand → Type 0
        Ans (re_exported text) = ⊥
        Ans (answered url e) = Contains (outer_texts k) (serialize url) × (e ≡ d)

        go : (v : ModuleDemand) → Ans v → Each In (re_export_followers k nv m v)
        go (re_exported text) a = absurd a
        go (answered url e) a = in_behind nv (serialize url) e (k.owner (serialize url)) refl a.0 (subst Within (sym a.1) h)

    sets_in : (nv : Nv) (d : NameDemand) → Within d → Each In (flat_map (re_export_followers k nv m) (module_followers m d))
    sets_in nv names_but_default h = in_all nv
    sets_in nv each_name h = in_all nv
    sets_in nv (subset_at []) h = each_nil In
    sets_in nv (subset_at (n ∷ p)) h = in_path nv n (subset_at (n ∷ p)) h
    sets_in nv (whole_at []) h = each_nil In
    sets_in nv (whole_at (n ∷ p)) h = in_path nv n (whole_at (n ∷ p)) h

    in_own : (nv : Nv) → Contains (all_packages k stored roots_in) nv → (found : List SymbolDemand) → Each SymbolIn found →
        Each In (map (to_symbol nv (own_text m)) found)
    in_own nv p found h = each_map In (to_symbol nv (own_text m)) found
        (λ s c. (p, own_text_in k info is, in_demands (all_ids k) (symbol_paths k) s (h s c)))

    in_names : (nv : Nv) → Contains (all_packages k stored roots_in) nv → (d : NameDemand) → Within d → Each In (names_followers k nv d m)
    in_names nv p d h = each_append In (map (to_symbol nv (own_text m)) (roots T d)) (flat_map (re_export_followers k nv m) (module_followers m d))
        (in_own nv p (roots T d) (roots_within k info is d h)) (sets_in nv d h)

    in_symbols : (nv : Nv) → Contains (all_packages k stored roots_in) nv → (s : SymbolDemand) → SymbolIn s →
        Each In (symbol_followers k nv s m)
    in_symbols nv p s h = each_append In (map (to_symbol nv (own_text m)) (names T s)) (flat_map (file_followers k nv m) (files T s))
        (in_own nv p (names T s) (names_in k info is s h))
        (each_flat In (file_followers k nv m) (files T s) (λ f c.
        each_each_of In (λ url. file_at nv (serialize url) (asked_by f.names) (k.owner (serialize url))) (resolved m f.text)
        (λ url e. in_file nv (serialize url) f.names (k.owner (serialize url)) refl (target_in info f.text url e)
        (files_within k info is s h.asked f c))))

  entry_in : (nv : Nv) → Contains (all_packages k stored roots_in) nv → (urls : List Parts) → entrance_at k nv ≡ entered urls →
      (url : Parts) → Contains urls url →
      In (entry_demands nv url)
  entry_in nv i urls e url c = (
    i,
    Contains-append_right (outer_texts k) (entry_texts k (all_packages k stored roots_in)) (serialize url)
        (in_flat (λ (p : Nv). map serialize (urls_in (entrance_at k p))) (all_packages k stored roots_in) nv (serialize url) i
        (subst (λ (x : Entrance). Contains (map serialize (urls_in x)) (serialize url)) (sym e) (in_map serialize urls url c))),
    all_within A (suc L),
  )

  entries_in : (nv : Nv) → Contains (all_packages k stored roots_in) nv → Each In (followers k (of_package nv))
  entries_in nv i = go (entrance_at k nv) refl
    where
      sound : (urls : List Parts) → entrance_at k nv ≡ entered urls → (faults : List (Parts × EntryFault)) →
          Each In (unless_faulty faults (map (entry_demands nv) urls))
      sound urls e [] = each_map In (entry_demands nv) urls (λ url c. entry_in nv i urls e url c)
      sound urls e (f ∷ faults) = each_nil In

      by_item : (urls : List Parts) → entrance_at k nv ≡ entered urls → (item : Option ItemView) → k.used nv urls ≡ item →
          Each In (entered_followers k.graph nv urls item)
      by_item urls e None h = sound urls e (all_faults k.graph urls)
      by_item urls e (Some item) h = each_map In to_package item.0
          (λ p c. Contains-append_right roots_in (owners ++ stored) p
          (Contains-append_right owners stored p (has_all nv urls item h p c)))

      go : (entrance : Entrance) → entrance_at k nv ≡ entrance → Each In (entry_followers k.graph k.used nv entrance)
      go passed_over e = each_nil In
      go (refused text) e = each_nil In
      go (entered urls) e = by_item urls e (k.used nv urls) refl

  closed : (d : Demand) → IsInside (reach k stored roots_in) d → Each In (followers k d)
  closed (of_package nv) i = entries_in nv i
  closed (of_module nv t d) i =
      each_traced In (names_followers k nv d) (info_at k.graph k.root_symbol t) (info_in k t) (λ info is. in_names info is nv i.0 d i.2)
  closed (of_symbol nv t s) i =
      each_traced In (symbol_followers k nv s) (named_at k.root_symbol t) (named_info k t)
      (λ info is. in_symbols info is nv i.0 s (of_demands (all_ids k) (symbol_paths k) s i.2))

  pub universe : IsUniverse (followers k) roots_in (reach k stored roots_in)
  universe = record {
    has_roots = λ p c. Contains-append_left roots_in _ p c;
    default = fits_in A (suc L) (default_name ∷ []) (fits_more A default_name L [] (first_in default_name _) (fits_empty A L));
    empty = empty_in A (suc L);
    closed = λ d w i c. closed d i w c;
    narrowed = λ d x i c. in_demands (all_ids k) (symbol_paths k) x
        (narrowed_among (all_ids k) (symbol_paths k) d x (of_demands (all_ids k) (symbol_paths k) d i) c);
  }
