-- What the yields of a package say of it, but of its modules.
use Rattle.std.proofs.Common.{◌≡◌, ◌∙◌, refl, ap, cond, List, [], ◌∷◌, ◌++◌, map, append-nil, Option, Some, None}
use Rattle.std.specs.Prelude.{ℕ, option_to_list, slice_get}
use Rattle.std.specs.List.{flat_map, AllByRecursion}
use Rattle.std.proofs.lemmas.List.Concat.{flat_map-append, flat_map_single}
use Rattle.std.proofs.lemmas.List.Folds.{flat_map-map}
use Rattle.url.specs.Parts.{Parts, serialize}
use Rattle.fast_check_tree_syntax.specs.declared.source.SourceRange.{SourceRange}
use Rattle.fast_check_tables_packages.specs.Package.{Nv}
use Rattle.fast_check_finder_demands.specs.asked.Demands.{Text}
use Rattle.fast_check_finder_ranges.specs.findings.Faults.{placed_seen}
use Rattle.fast_check_finder_ranges.specs.findings.Findings.{placed_yield}
use Rattle.fast_check_finder_ranges.specs.findings.Found.{source_in, own_text, module_yields, entry_fault_yields, entrance_yields}
use Rattle.fast_check_finder_ranges.specs.findings.Found.{dependency_yields, untyped_yields, package_yields}
use Rattle.fast_check_finder_ranges.specs.findings.Yields.{ModuleFault, Yield, known_package, entry_point, dependency, recorded, public}
use Rattle.fast_check_finder_ranges.specs.findings.Yields.{implementing, faulty, of_demand}
use Rattle.fast_check_finder_ranges.specs.declared.findings.found.EntryFault.{EntryFault}
use Rattle.fast_check_finder_ranges.specs.declared.findings.found.Entrance.{Entrance}
use Rattle.fast_check_finder_ranges.specs.declared.findings.found.Entrance.TheVariants.{Entered, Cached}
use Rattle.fast_check_finder_ranges.specs.declared.findings.found.FoundModule.{FoundModule}
use Rattle.fast_check_finder_ranges.specs.declared.findings.found.FoundPackage.{FoundPackage}
use Rattle.fast_check_finder_ranges.specs.Answers.{entry_points_of, dependencies_of, refused_of, is_filled, items_of, modules_of}
use Rattle.fast_check_finder_ranges.specs.Parts.{urls_at, item_at, named_at}
use Rattle.fast_check_finder_ranges.proofs.Lists.{all_append, all_map, all_flat, none_given}

-- it gives nothing of what is found of modules
pub record IsSilent {X : Type 0} (f : Yield → List X) : Type 0 where
  pub known : (nv : Nv) → f (known_package nv) ≡ []
  pub recorded : (nv : Nv) (t : Text) → f (recorded nv t) ≡ []
  pub public : (nv : Nv) (t : Text) (r : SourceRange) → f (public nv t r) ≡ []
  pub implementing : (nv : Nv) (t : Text) (r : SourceRange) → f (implementing nv t r) ≡ []
  pub faulty : (nv : Nv) (t : Text) (g : ModuleFault) → f (faulty nv t g) ≡ []

module _ {X : Type 0} (f : Yield → List X) (silent : IsSilent f) (packages : List Nv) (nv : Nv) where
  abbrev None_ : Yield → Type 0
  None_ y = f y ≡ []

  of_module : (m : FoundModule) → AllByRecursion None_ (module_yields nv m)
  of_module m = (
    silent.recorded nv (own_text m),
    all_append None_ (map (public nv (own_text m)) m.ranges.items) _
        (all_map None_ (public nv (own_text m)) (silent.public nv (own_text m)) m.ranges.items)
        (all_append None_ (map (implementing nv (own_text m)) m.implementations.items) _
        (all_map None_ (implementing nv (own_text m)) (silent.implementing nv (own_text m)) m.implementations.items)
        (all_map None_ (placed_yield nv (own_text m)) (λ g. silent.faulty nv (own_text m) (of_demand g))
        (flat_map (placed_seen (source_in m.info.now)) m.faults.items))),
  )

  -- nothing but of how the package was entered, and of what it depends on
  pub of_package : (p : FoundPackage) → flat_map f (package_yields packages nv p) ≡
      flat_map f (entrance_yields nv p.entrance) ++ flat_map f (flat_map (dependency_yields packages nv) p.dependencies.items)
  of_package p =
      let e = entrance_yields nv p.entrance in
      let d = flat_map (dependency_yields packages nv) p.dependencies.items in
      let m = flat_map (module_yields nv) p.modules.items in
      let u = flat_map (untyped_yields nv) p.untyped.items in
      let none : flat_map f (m ++ u) ≡ [] = none_given f (m ++ u) (all_append None_ m u
      (all_flat None_ (module_yields nv) of_module p.modules.items)
      (all_flat None_ (untyped_yields nv) (λ url. (silent.recorded nv (serialize url), (silent.faulty nv (serialize url) _, tt))) p.untyped.items)) in
      flat_map-append f e (d ++ (m ++ u)) ∙ ap (λ x. flat_map f e ++ x)
      (flat_map-append f d (m ++ u) ∙ (ap (λ x. flat_map f d ++ x) none ∙ append-nil (flat_map f d)))

  -- where it gives nothing of entry points
  pub of_entered : ((t : Text) → f (entry_point nv t) ≡ []) → (urls : List Parts) (faults : List (Parts × EntryFault)) →
      flat_map f (known_package nv ∷ (map (λ url. entry_point nv (serialize url)) urls ++ flat_map (entry_fault_yields nv) faults)) ≡ []
  of_entered h urls faults =
      let ys : List Yield = known_package nv ∷ (map (λ url. entry_point nv (serialize url)) urls ++ flat_map (entry_fault_yields nv) faults) in
      let none : AllByRecursion None_ ys = (
        silent.known nv,
        all_append None_ (map (λ url. entry_point nv (serialize url)) urls) _
            (all_map None_ (λ url. entry_point nv (serialize url)) (λ url. h (serialize url)) urls)
            (all_flat None_ (entry_fault_yields nv) (λ x. (silent.recorded nv (serialize x.0), (silent.faulty nv (serialize x.0) _, tt))) faults),
      ) in
      none_given f ys none

  -- or of dependencies
  pub of_dependencies : ((d : Nv) → f (dependency nv d) ≡ []) → (places : List ℕ) →
      flat_map f (flat_map (dependency_yields packages nv) places) ≡ []
  of_dependencies h places = none_given f _ (all_flat None_ (dependency_yields packages nv)
      (λ place. all_map None_ (dependency nv) h (option_to_list (slice_get packages place))) places)

module _ (packages : List Nv) (nv : Nv) (p : FoundPackage) where
  -- entry points
  points : (e : Option Entrance) → flat_map entry_points_of (entrance_yields nv e) ≡ map serialize (urls_at e)
  points None = refl
  points (Some (Entered entry_points faults)) =
      flat_map-append entry_points_of (map (λ url. entry_point nv (serialize url)) entry_points.value.keys) _
      ∙ (ap (λ x. flat_map entry_points_of (map (λ url. entry_point nv (serialize url)) entry_points.value.keys) ++ x)
      (none_given entry_points_of (flat_map (entry_fault_yields nv) faults.items)
      (all_flat (λ y. entry_points_of y ≡ []) (entry_fault_yields nv) (λ x. (refl, (refl, tt))) faults.items))
      ∙ (append-nil _ ∙ (flat_map-map entry_points_of (λ url. entry_point nv (serialize url)) entry_points.value.keys
      ∙ flat_map_single serialize entry_points.value.keys)))
  points (Some (Cached entry_points item)) = append-nil (map serialize entry_points.value.keys)

  pub all_points : flat_map entry_points_of (package_yields packages nv p) ≡ map serialize (urls_at p.entrance)
  all_points =
      let silent : IsSilent entry_points_of = record {
        known = λ n. refl;
        recorded = λ n t. refl;
        public = λ n t r. refl;
        implementing = λ n t r. refl;
        faulty = λ n t g. refl;
      } in
      of_package entry_points_of silent packages nv p
      ∙ (ap (λ x. flat_map entry_points_of (entrance_yields nv p.entrance) ++ x)
      (of_dependencies entry_points_of silent packages nv (λ d. refl) p.dependencies.items)
      ∙ (append-nil _ ∙ points p.entrance))

  -- refused export texts
  silent_refused : IsSilent refused_of
  silent_refused = record {
    known = λ n. refl;
    recorded = λ n t. refl;
    public = λ n t r. refl;
    implementing = λ n t r. refl;
    faulty = λ n t g. refl;
  }

  refusals : (e : Option Entrance) → flat_map refused_of (entrance_yields nv e) ≡ []
  refusals None = refl
  refusals (Some (Entered entry_points faults)) = of_entered refused_of silent_refused packages nv (λ t. refl) entry_points.value.keys faults.items
  refusals (Some (Cached entry_points item)) = refl

  pub no_refusals : flat_map refused_of (package_yields packages nv p) ≡ []
  no_refusals = of_package refused_of silent_refused packages nv p
      ∙ (ap (λ x. x ++ flat_map refused_of (flat_map (dependency_yields packages nv) p.dependencies.items)) (refusals p.entrance)
      ∙ of_dependencies refused_of silent_refused packages nv (λ d. refl) p.dependencies.items)

  -- items that are used
  silent_items : IsSilent items_of
  silent_items = record {
    known = λ n. refl;
    recorded = λ n t. refl;
    public = λ n t r. refl;
    implementing = λ n t r. refl;
    faulty = λ n t g. refl;
  }

  items : (e : Option Entrance) → flat_map items_of (entrance_yields nv e) ≡ cond (is_filled (item_at e).1) ((urls_at e, item_at e) ∷ []) []
  items None = refl
  items (Some (Entered entry_points faults)) = of_entered items_of silent_items packages nv (λ t. refl) entry_points.value.keys faults.items
  items (Some (Cached entry_points item)) = append-nil _

  pub all_items : flat_map items_of (package_yields packages nv p) ≡
      cond (is_filled (item_at p.entrance).1) ((urls_at p.entrance, item_at p.entrance) ∷ []) []
  all_items = of_package items_of silent_items packages nv p
      ∙ (ap (λ x. flat_map items_of (entrance_yields nv p.entrance) ++ x)
      (of_dependencies items_of silent_items packages nv (λ d. refl) p.dependencies.items)
      ∙ (append-nil _ ∙ items p.entrance))

  -- dependencies
  silent_dependencies : IsSilent dependencies_of
  silent_dependencies = record {
    known = λ n. refl;
    recorded = λ n t. refl;
    public = λ n t r. refl;
    implementing = λ n t r. refl;
    faulty = λ n t g. refl;
  }

  depends : (e : Option Entrance) → flat_map dependencies_of (entrance_yields nv e) ≡ (item_at e).0
  depends None = refl
  depends (Some (Entered entry_points faults)) =
      of_entered dependencies_of silent_dependencies packages nv (λ t. refl) entry_points.value.keys faults.items
  depends (Some (Cached entry_points item)) = append-nil _

  named : (places : List ℕ) → flat_map dependencies_of (flat_map (dependency_yields packages nv) places) ≡ named_at packages places
  named [] = refl
  named (place ∷ places) =
      flat_map-append dependencies_of (dependency_yields packages nv place) (flat_map (dependency_yields packages nv) places)
      ∙ (ap (λ x. x ++ flat_map dependencies_of (flat_map (dependency_yields packages nv) places)) (one (option_to_list (slice_get packages place)))
      ∙ ap (λ x. option_to_list (slice_get packages place) ++ x) (named places))
    where
      one : (ds : List Nv) → flat_map dependencies_of (map (dependency nv) ds) ≡ ds
      one [] = refl
      one (d ∷ ds) = ap (λ x. d ∷ x) (one ds)

  pub all_dependencies : flat_map dependencies_of (package_yields packages nv p) ≡
      (item_at p.entrance).0 ++ named_at packages p.dependencies.items
  all_dependencies = of_package dependencies_of silent_dependencies packages nv p
      ∙ (ap (λ x. x ++ flat_map dependencies_of (flat_map (dependency_yields packages nv) p.dependencies.items)) (depends p.entrance)
      ∙ ap (λ x. (item_at p.entrance).0 ++ x) (named p.dependencies.items))

  pub silent_of_modules : AllByRecursion (λ y. modules_of y ≡ []) (flat_map (dependency_yields packages nv) p.dependencies.items)
  silent_of_modules = all_flat (λ y. modules_of y ≡ []) (dependency_yields packages nv)
      (λ place. all_map (λ y. modules_of y ≡ []) (dependency nv) (λ d. refl) (option_to_list (slice_get packages place))) p.dependencies.items
