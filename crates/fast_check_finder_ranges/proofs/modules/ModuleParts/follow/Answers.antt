use Rattle.std.proofs.Common.{◌≡◌, ◌∙◌, refl, sym, ap, subst, map, List, [], ◌∷◌, ◌++◌, append-nil}
use Rattle.std.specs.List.{flat_map}
use Rattle.std.proofs.lemmas.List.Concat.{flat_map-append, flat_map_single}
use Rattle.std.proofs.lemmas.List.Folds.{flat_map-map}
use Rattle.std.proofs.lemmas.Result.{on_ok_weaker}
use Rattle.fast_check_tables_packages.specs.Package.{Nv}
use Rattle.fast_check_finder_ranges.specs.findings.Faults.{placed_seen}
use Rattle.fast_check_finder_ranges.specs.findings.Findings.{placed_yield}
use Rattle.fast_check_finder_ranges.specs.findings.Found.{source_in, own_text, module_yields}
use Rattle.fast_check_finder_ranges.specs.findings.Yields.{ModuleFault, Yield, recorded, public, implementing, of_demand}
use Rattle.fast_check_finder_ranges.specs.findings.ModuleFaults.{AreFaultsOf}
use Rattle.fast_check_finder_ranges.specs.declared.findings.found.FoundModule.{FoundModule}
use Rattle.fast_check_finder_ranges.specs.Answers.{ranges_of, implementations_of, faults_of}
use Rattle.fast_check_finder_ranges.proofs.Joined.{parts_more}
use Rattle.fast_check_finder_ranges.proofs.Lists.{all_map, none_given}
use Rattle.fast_check_finder_ranges.proofs.modules.ModuleParts.follow.Goals as goal

module _ {X : Type 0} (f : Yield → List X) (nv : Nv) (m : FoundModule) where
  abbrev R : List Yield
  R = map (public nv (own_text m)) m.ranges.items

  abbrev I : List Yield
  I = map (implementing nv (own_text m)) m.implementations.items

  abbrev F : List Yield
  F = map (placed_yield nv (own_text m)) (flat_map (placed_seen (source_in m.info.now)) m.faults.items)

  parts : f (recorded nv (own_text m)) ≡ [] → flat_map f (module_yields nv m) ≡ flat_map f R ++ (flat_map f I ++ flat_map f F)
  parts h = ap (λ xs. xs ++ flat_map f (R ++ (I ++ F))) h
      ∙ (flat_map-append f R (I ++ F) ∙ ap (λ xs. flat_map f R ++ xs) (flat_map-append f I F))

  silent : {Z : Type 0} (g : Z → Yield) → ((z : Z) → f (g z) ≡ []) → (zs : List Z) → flat_map f (map g zs) ≡ []
  silent g h zs = none_given f (map g zs) (all_map (λ y. f y ≡ []) g h zs)

module _ (nv : Nv) (m : FoundModule) where
  ranges_are : flat_map ranges_of (module_yields nv m) ≡ m.ranges.items
  ranges_are = parts ranges_of nv m refl
      ∙ (ap (λ xs. flat_map ranges_of (R ranges_of nv m) ++ (xs ++ flat_map ranges_of (F ranges_of nv m)))
      (silent ranges_of nv m (implementing nv (own_text m)) (λ r. refl) m.implementations.items)
      ∙ (ap (λ xs. flat_map ranges_of (R ranges_of nv m) ++ xs)
      (silent ranges_of nv m (placed_yield nv (own_text m)) (λ r. refl) (flat_map (placed_seen (source_in m.info.now)) m.faults.items))
      ∙ (append-nil _ ∙ (flat_map-map ranges_of (public nv (own_text m)) m.ranges.items ∙ single m.ranges.items))))
    where
      single : {Z : Type 0} (zs : List Z) → flat_map (λ z. z ∷ []) zs ≡ zs
      single [] = refl
      single (z ∷ zs) = ap (λ xs. z ∷ xs) (single zs)

  implementations_are : flat_map implementations_of (module_yields nv m) ≡ m.implementations.items
  implementations_are = parts implementations_of nv m refl
      ∙ (ap (λ xs. xs ++ (flat_map implementations_of (I implementations_of nv m) ++ flat_map implementations_of (F implementations_of nv m)))
      (silent implementations_of nv m (public nv (own_text m)) (λ r. refl) m.ranges.items)
      ∙ (ap (λ xs. flat_map implementations_of (I implementations_of nv m) ++ xs)
      (silent implementations_of nv m (placed_yield nv (own_text m)) (λ r. refl) (flat_map (placed_seen (source_in m.info.now)) m.faults.items))
      ∙ (append-nil _ ∙ (flat_map-map implementations_of (implementing nv (own_text m)) m.implementations.items ∙ single m.implementations.items))))
    where
      single : {Z : Type 0} (zs : List Z) → flat_map (λ z. z ∷ []) zs ≡ zs
      single [] = refl
      single (z ∷ zs) = ap (λ xs. z ∷ xs) (single zs)

  faults_are : flat_map faults_of (module_yields nv m) ≡ map of_demand (flat_map (placed_seen (source_in m.info.now)) m.faults.items)
  faults_are = parts faults_of nv m refl
      ∙ (ap (λ xs. xs ++ (flat_map faults_of (I faults_of nv m) ++ flat_map faults_of (F faults_of nv m)))
      (silent faults_of nv m (public nv (own_text m)) (λ r. refl) m.ranges.items)
      ∙ (ap (λ xs. xs ++ flat_map faults_of (F faults_of nv m))
      (silent faults_of nv m (implementing nv (own_text m)) (λ r. refl) m.implementations.items)
      ∙ (flat_map-map faults_of (placed_yield nv (own_text m)) (flat_map (placed_seen (source_in m.info.now)) m.faults.items)
      ∙ flat_map_single of_demand (flat_map (placed_seen (source_in m.info.now)) m.faults.items))))

pub returns : goal.returns
returns c = on_ok_weaker c.add_demand_faults.result (λ adds nv ys a.
    let m = c.args.found in
    parts_more ys (module_yields nv m) c.args.self.now _
    (c.in_ok-append.ensures.items ∙ ap (λ xs. c.args.self.now.ranges.items ++ xs) (sym (ranges_are nv m)))
    (c.in_ok-append-2.ensures.items ∙ ap (λ xs. c.args.self.now.implementations.items ++ xs) (sym (implementations_are nv m)))
    (subst (λ (fs : List ModuleFault). AreFaultsOf (flat_map faults_of ys ++ fs) c.add_demand_faults.new.self)
    (ap (λ xs. map of_demand (flat_map (placed_seen (source_in m.info.now)) xs)) c.as_slice.ensures.value ∙ sym (faults_are nv m))
    (adds (flat_map faults_of ys) a.faults)) a)
    c.add_demand_faults.ensures
