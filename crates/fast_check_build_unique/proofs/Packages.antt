-- A package of two inputs that differ by hidden code alone is answered alike.
use Rattle.std.proofs.Common.{◌≡◌, ◌∙◌, sym, ap, refl, subst, Bool, true, false, List, [], ◌∷◌, map, Option, Some, None, if◌then◌else◌, take}
use Rattle.std.specs.List.{Contains, flat_map, list_any}
use Rattle.std.specs.Str.{bytes_eq}
use Rattle.std.specs.Map.{lookup, IsKeyTest}
use Rattle.std.specs.Option.{option_and_then}
use Rattle.std.specs.Ordering.{eq_by_cmp}
use Rattle.std.specs.Cmp.{IsTotalOrder, eq_by_cmp_equiv}
use Rattle.std.specs.Cmp.Lexicographic.{nat_list_eq_equiv}
use Rattle.std.specs.BTreeMap.{BTreeMap, keys, IsOrdered}
use Rattle.std.specs.declared.cmp.Ordering.{Ordering}
use Rattle.std.proofs.lemmas.Bool.{false≢true}
use Rattle.std.proofs.lemmas.Map.Keys.{IsDistinct-from_sorted}
use Rattle.std.proofs.lemmas.Map.Views.{lookup-from_Contains}
use Rattle.url.specs.Parts.{Parts, serialize}
use Rattle.fast_check_tree_syntax.specs.Same.{Each}
use Rattle.fast_check_tables_packages.specs.Package.{Nv, nv_of}
use Rattle.fast_check_tables_packages.specs.PackageOrder.{nv_total}
use Rattle.fast_check_tables_packages.specs.declared.package.PackageNv.{PackageNv}
use Rattle.fast_check_tables_cache.specs.declared.package_ranges.PackagePublicRanges.{PackagePublicRanges}
use Rattle.fast_check_tables_diagnostics.specs.declared.diagnostics.FastCheckDiagnostic.{FastCheckDiagnostic}
use Rattle.fast_check_tables_modules.specs.EsModule.{EsModule}
use Rattle.fast_check_tables_modules.specs.diagnostics.PublicRanges.{PublicRanges}
use Rattle.fast_check_tables_graph.specs.declared.root_symbol.AnyModuleInfo.{AnyModuleInfo}
use Rattle.fast_check_tables_graph.specs.declared.root_symbol.AnyModuleInfo.TheVariants.{Esm, Json}
use Rattle.fast_check_tables_graph.specs.Root.{found_module}
use Rattle.fast_check_meaning_skeleton.specs.Worlds.{SameFault, SameAnswers}
use Rattle.fast_check_transform_module.specs.Transform.{facts_of_module, faults}
use Rattle.fast_check_transform_module.specs.transform_faults.Diagnostics.{diagnosed}
use Rattle.fast_check_transform_pair.proofs.SameSources.{sources_same}
use Rattle.fast_check_finder_demands.specs.asked.Demands.{Text, same_nv, Demand}
use Rattle.fast_check_finder_demands.proofs.Elements.{no_element, first, of_flat, of_filter}
use Rattle.fast_check_finder_ranges.specs.Parts.{is_text, is_package}
use Rattle.fast_check_finder_ranges.specs.Answers.{AreAnswers, StandsFor, IsPackageAnswer, IsAnswerBy, IsFollowedAnswer, IsModuleAnswer}
use Rattle.fast_check_finder_ranges.specs.Answers.{about, about_module, package_of, modules_of, faults_of, items_of, is_filled, lookup_text}
use Rattle.fast_check_finder_ranges.specs.Answers.{lookup_package, module_answer}
use Rattle.fast_check_finder_ranges.specs.findings.Diagnostics.{AreDiagnosed, fault_reported}
use Rattle.fast_check_finder_ranges.specs.findings.Yields.{ModuleFault, Yield, known_package, entry_point, refused_export, dependency}
use Rattle.fast_check_finder_ranges.specs.findings.Yields.{recorded, public, implementing, faulty, cached}
use Rattle.fast_check_finder_ranges.proofs.Maps.{lookup_key, text_one, text_total, package_one, package_total}
use Rattle.fast_check_finder_loop.specs.demands.facts.GraphFacts.{Known}
use Rattle.fast_check_finder_loop.specs.Yields.{demand_yields}
use Rattle.fast_check_build_answers.specs.PackageFaults.{PublicModule, PackageFault, transform_fault, faults_in_tree, found_or, module_faults}
use Rattle.fast_check_build_answers.specs.PackageFaults.{package_faults}
use Rattle.fast_check_build_answers.specs.PackageAnswer.{Answer, with_tree, tree_modules, IsFoundAnswer}
use Rattle.fast_check_build_answers.specs.Answered.{by_text, by_nv, IsAnswered}
use Rattle.fast_check_build.specs.Found.{IsFound}
use Rattle.fast_check_finder_unique.specs.Edits.{SymbolRenaming}
use Rattle.fast_check_finder_unique.proofs.Answered.{none_there}
use Rattle.fast_check_build_unique.specs.Moved.{Renamings}
use Rattle.fast_check_build_unique.specs.Modules.{DifferHidden, Found}
use Rattle.fast_check_build_unique.specs.Builds.{AreVersions, HaveVersions, DifferHiddenly, SameBuilt}
use Rattle.fast_check_build_unique.proofs.Modules.{to_second, to_first, answered_same}
use Rattle.fast_check_build_unique.proofs.Alike.{alike, turned}
use Rattle.fast_check_build_unique.proofs.Keys.{IsShown, same_modules, same_entries}
use Rattle.fast_check_build_unique.proofs.Zipped.{each_map, each_flat, each_first}
use Rattle.fast_check_build_unique.proofs.Reported.{SameFaults, SameTrees, shown_alike, reported_alike, refused_alike}

-- ---- an entry of a map is found by its own key

found_entry : {K X : Type 0} {cmp : K → K → Ordering} (o : IsTotalOrder cmp) (test : K → Bool) → IsKeyTest (eq_by_cmp cmp) test →
    (m : BTreeMap K X) →
    IsOrdered cmp m → (e : K × X) → Contains m.entries e → test e.0 ≡ true → lookup test m.entries ≡ Some e.1
found_entry {K} {X} {cmp} o test one m ordered e h t = lookup_key o test one e.0 m.entries t ∙
    lookup-from_Contains (eq_by_cmp_equiv o) e.0 e.1 m.entries (IsDistinct-from_sorted cmp (keys m) ordered) h

found_package : (m : Found) → IsOrdered by_nv m → (e : PackageNv × PackagePublicRanges) → Contains m.entries e →
    lookup_package (nv_of e.0) m.entries ≡ Some e.1
found_package m ordered e h = found_entry package_total (is_package (nv_of e.0)) (package_one (nv_of e.0)) m ordered e h
    ((eq_by_cmp_equiv nv_total).refl (nv_of e.0))

found_ranges : (m : BTreeMap Parts PublicRanges) → IsOrdered by_text m → (e : PublicModule) → Contains m.entries e →
    lookup_text (serialize e.0) m.entries ≡ Some e.1
found_ranges m ordered e h =
    found_entry text_total (is_text (serialize e.0)) (text_one (serialize e.0)) m ordered e h (nat_list_eq_equiv.refl (serialize e.0))

no_nil : {A : Type 0} (x : A) (xs : List A) → [] ≡ x ∷ xs → ⊥
no_nil x xs e = cc

-- ---- where no error is yielded, none is reported

abbrev IsFaultless : List Yield → Type 0
IsFaultless ys = (y : Yield) → Contains ys y → (f : ModuleFault) → Contains (faults_of y) f → ⊥

none_reported : (t : Text) (ds : List FastCheckDiagnostic) (faults : List ModuleFault) → faults ≡ [] → AreDiagnosed t faults ds → ds ≡ []
none_reported t ds (f ∷ faults) e h = absurd (no_nil f faults (sym e))
none_reported t ds [] e h = go ds h.reports h.tell h.only
  where
    go : (ds : List FastCheckDiagnostic) (reports : List ModuleFault) → map (fault_reported t) ds ≡ map Some reports →
        ((f : ModuleFault) → Contains reports f → Contains [] f) → ds ≡ []
    go [] reports tell only = refl
    go (d ∷ ds) [] tell only = absurd (no_nil (fault_reported t d) (map (fault_reported t) ds) (sym tell))
    go (d ∷ ds) (f ∷ reports) tell only = absurd (no_element f (only f (first f f reports refl)))

no_diagnostics : (ys : List Yield) → IsFaultless ys → (nv : Nv) (t : Text) (m : PublicRanges) →
    IsModuleAnswer t (about_module t (about nv ys)) m → m.diagnostics ≡ []
no_diagnostics ys faultless nv t m h = none_reported t m.diagnostics (flat_map faults_of (about_module t (about nv ys)))
    (none_there (flat_map faults_of (about_module t (about nv ys))) (λ f c.
    let y = of_flat faults_of (about_module t (about nv ys)) f c in
    let in_package = of_filter (λ z. list_any (bytes_eq t) (modules_of z)) (about nv ys) y.0 y.1 in
    let in_ys = of_filter (λ z. same_nv nv (package_of z)) ys y.0 in_package.0 in
    faultless y.0 in_ys.0 f y.2)) h.diagnosed

filled_by : {X : Type 0} (xs : List X) (x : X) → Contains xs x → is_filled xs ≡ true
filled_by [] x c = absurd (no_element x c)
filled_by (y ∷ ys) x c = refl

not_filled : {X : Type 0} (xs : List X) → ((x : X) → Contains xs x → ⊥) → is_filled xs ≡ true → ⊥
not_filled [] h e = false≢true e
not_filled (x ∷ xs) h e = h x (first x x xs refl)

-- ---- packages, as they are followed

-- no cached item is used, as none corresponds to another
no_items : (ys zs : List Yield) → IsShown ys zs → (nv : Nv) → flat_map items_of (about nv ys) ≡ []
no_items ys zs shown nv = none_there (flat_map items_of (about nv ys)) (λ x c.
    let y = of_flat items_of (about nv ys) x c in
    let in_ys = of_filter (λ z. same_nv nv (package_of z)) ys y.0 y.1 in
    let z = shown y.0 in_ys.0 in
    no_element x (subst (λ xs. Contains xs x) z.1.no_items.0 y.2))

followed : (ys : List Yield) (answers : Found) → AreAnswers ys answers → ((nv : Nv) → flat_map items_of (about nv ys) ≡ []) →
    (nv : Nv) (p : PackagePublicRanges) → lookup_package nv answers.entries ≡ Some p → IsFollowedAnswer (about nv ys) p
followed ys answers says no_items nv p e =
    let s = subst (λ (o : Option PackagePublicRanges). StandsFor IsPackageAnswer (about nv ys) o) e (says nv) in
    subst (λ items. IsAnswerBy items (about nv ys) p) (no_items nv) s.1

module_at : (ys : List Yield) (p : PackagePublicRanges) (nv : Nv) → IsFollowedAnswer (about nv ys) p → IsOrdered by_text p.module_ranges →
    (x : PublicModule) → Contains p.module_ranges.entries x → IsModuleAnswer (serialize x.0) (about_module (serialize x.0) (about nv ys)) x.1
module_at ys p nv h ordered x c =
    let t = serialize x.0 in
    (subst (λ (o : Option PublicRanges). StandsFor (IsModuleAnswer t) (about_module t (about nv ys)) o)
    (found_ranges p.module_ranges ordered x c) (h.modules t)).1

each_front : {A : Type 0} (R : A → A → Type 0) (first_alone : Bool) (xs ys : List A) → Each R xs ys →
    Each R (if first_alone then take 1 xs else xs) (if first_alone then take 1 ys else ys)
each_front R true [] [] h = tt
each_front R true (x ∷ xs) (y ∷ ys) h = (h.0, tt)
each_front R true [] (y ∷ ys) h = absurd h
each_front R true (x ∷ xs) [] h = absurd h
each_front R false xs ys h = h

module _ (k l : Known) (roots : List Nv) (renames : SymbolRenaming) (moves : Renamings) (first_alone : Bool) (found_k found_l : Found)
    (differ : DifferHiddenly k l roots renames moves) (in_k : IsFound k roots found_k) (in_l : IsFound l roots found_l)
    (versions : HaveVersions moves k l found_k) (order_k : IsOrdered by_nv found_k) (order_l : IsOrdered by_nv found_l) where
  pub to : IsShown in_k.yields in_l.yields
  to y c =
      let z = to_second k l roots renames moves found_k found_l differ.lockstep differ.settled in_k in_l y c in
      (z.0, alike moves y z.0 z.1, z.2)

  pub from : IsShown in_l.yields in_k.yields
  from z c =
      let y = to_first k l roots renames moves found_k found_l differ.lockstep differ.settled in_k in_l z c in
      (y.0, turned y.0 z (alike moves y.0 z y.1), y.2)

  faultless_k : IsFaultless in_k.yields
  faultless_k y c = go y (in_k.is_yield.sound y c)
    where
      go : (y : Yield) → (d : Demand) × Contains in_k.account d × Contains (demand_yields k d) y → (f : ModuleFault) →
          Contains (faults_of y) f → ⊥
      go (faulty p t g) s f c = differ.has_no_error s.0 (in_k.is_account.chained s.0 s.1) p t g s.2
      go (known_package p) s f c = no_element f c
      go (entry_point p t) s f c = no_element f c
      go (refused_export p t) s f c = no_element f c
      go (dependency p d) s f c = no_element f c
      go (recorded p t) s f c = no_element f c
      go (public p t r) s f c = no_element f c
      go (implementing p t r) s f c = no_element f c
      go (cached p es item) s f c = no_element f c

  faultless_l : IsFaultless in_l.yields
  faultless_l z c f g =
      let y = from z c in
      not_filled (faults_of y.0) (faultless_k y.0 y.2) (sym y.1.faulty ∙ filled_by (faults_of z) f g)

  module _ (nv : Nv) (p q : PackagePublicRanges) (is_p : lookup_package nv found_k.entries ≡ Some p)
      (is_q : lookup_package nv found_l.entries ≡ Some q) (order_p : IsOrdered by_text p.module_ranges)
      (order_q : IsOrdered by_text q.module_ranges) where
    in_p : IsFollowedAnswer (about nv in_k.yields) p
    in_p = followed in_k.yields found_k in_k.says (no_items in_k.yields in_l.yields to) nv p is_p

    in_q : IsFollowedAnswer (about nv in_l.yields) q
    in_q = followed in_l.yields found_l in_l.says (no_items in_l.yields in_k.yields from) nv q is_q

    abbrev modules_p : List PublicModule
    modules_p = p.module_ranges.entries

    abbrev modules_q : List PublicModule
    modules_q = q.module_ranges.entries

    texts_are : map serialize (keys p.module_ranges) ≡ map serialize (keys q.module_ranges)
    texts_are = same_modules in_k.yields in_l.yields to from nv p q in_p in_q order_p order_q

    module _ (x y : PublicModule) (of_p : Contains modules_p x) (of_q : Contains modules_q y) (text : serialize x.0 ≡ serialize y.0) where
      abbrev t : Text
      t = serialize x.0

      has_m : IsModuleAnswer t (about_module t (about nv in_k.yields)) x.1
      has_m = module_at in_k.yields p nv in_p order_p x of_p

      has_n : IsModuleAnswer t (about_module t (about nv in_l.yields)) y.1
      has_n = subst (λ (u : Text). IsModuleAnswer u (about_module u (about nv in_l.yields)) y.1) (sym text)
          (module_at in_l.yields q nv in_q order_q y of_q)

      is_answered : module_answer found_k nv t ≡ Some x.1
      is_answered = ap (option_and_then (λ (z : PackagePublicRanges). lookup_text t z.module_ranges.entries)) is_p
          ∙ found_ranges p.module_ranges order_p x of_p

      are_versions : AreVersions (moves t) k l x.1 (found_module k.root_symbol x.0) (found_module l.root_symbol y.0)
      are_versions = versions nv x.0 y.0 x.1 text is_answered

      same_answers : (a b : EsModule) → DifferHidden (moves t) k l a b x.1 →
          SameAnswers (moves t) (facts_of_module k.graph a x.1) a.source.program a.source.comments (facts_of_module l.graph b y.1)
          b.source.program b.source.comments
      same_answers a b d = answered_same k l roots renames moves found_k found_l differ.lockstep differ.settled in_k in_l nv t x.1 y.1
          has_m has_n a b d

      tree_faults : (o u : Option AnyModuleInfo) → found_module k.root_symbol x.0 ≡ o → AreVersions (moves t) k l x.1 o u →
          Each (SameFaults k l moves) (faults_in_tree first_alone k.graph x.1 o) (faults_in_tree first_alone l.graph y.1 u)
      tree_faults None None e v = tt
      tree_faults (Some (Json a)) (Some (Json b)) e v = tt
      tree_faults (Some (Esm a)) (Some (Esm b)) e v =
          let s = same_answers a b v in
          each_map (SameFault (moves t)) (SameFaults k l moves) (transform_fault a) (transform_fault b)
          (λ f g h. record { name = x.0; is_found = e; specifier = v.specifier; same = h })
          (diagnosed first_alone (faults k.graph a x.1)) (diagnosed first_alone (faults l.graph b y.1))
          (each_front (SameFault (moves t)) first_alone (faults k.graph a x.1) (faults l.graph b y.1) s.faults)
      tree_faults None (Some b) e v = absurd v
      tree_faults (Some (Json a)) None e v = absurd v
      tree_faults (Some (Esm a)) None e v = absurd v
      tree_faults (Some (Json a)) (Some (Esm b)) e v = absurd v
      tree_faults (Some (Esm a)) (Some (Json b)) e v = absurd v

      trees : (o u : Option AnyModuleInfo) → AreVersions (moves t) k l x.1 o u → Each (SameTrees k l moves) (with_tree x o) (with_tree y u)
      trees None None v = tt
      trees (Some (Json a)) (Some (Json b)) v = tt
      trees (Some (Esm a)) (Some (Esm b)) v =
          let s = same_answers a b v in (
            record {
              text = text;
              skeletons = s.skeletons;
              comment = s.comments;
              depends = sources_same (moves t) (differ.lockstep.renaming t) s.skeletons;
            },
            tt,
          )
      trees None (Some b) v = absurd v
      trees (Some (Json a)) None v = absurd v
      trees (Some (Esm a)) None v = absurd v
      trees (Some (Json a)) (Some (Esm b)) v = absurd v
      trees (Some (Esm a)) (Some (Json b)) v = absurd v

      faults_same : Each (SameFaults k l moves) (module_faults first_alone k.graph k.root_symbol x)
          (module_faults first_alone l.graph l.root_symbol y)
      faults_same =
          subst (λ (ds : List FastCheckDiagnostic). Each (SameFaults k l moves)
          (found_or ds (faults_in_tree first_alone k.graph x.1 (found_module k.root_symbol x.0)))
          (module_faults first_alone l.graph l.root_symbol y))
          (sym (no_diagnostics in_k.yields faultless_k nv t x.1 has_m))
          (subst (λ (ds : List FastCheckDiagnostic). Each (SameFaults k l moves)
          (faults_in_tree first_alone k.graph x.1 (found_module k.root_symbol x.0))
          (found_or ds (faults_in_tree first_alone l.graph y.1 (found_module l.root_symbol y.0))))
          (sym (no_diagnostics in_l.yields faultless_l nv t y.1 has_n))
          (tree_faults (found_module k.root_symbol x.0) (found_module l.root_symbol y.0) refl are_versions))

      trees_same : Each (SameTrees k l moves) (with_tree x (found_module k.root_symbol x.0)) (with_tree y (found_module l.root_symbol y.0))
      trees_same = trees (found_module k.root_symbol x.0) (found_module l.root_symbol y.0) are_versions

    all_trees : Each (SameTrees k l moves) (tree_modules k.root_symbol modules_p) (tree_modules l.root_symbol modules_q)
    all_trees = each_flat serialize (SameTrees k l moves) (λ (m : PublicModule). with_tree m (found_module k.root_symbol m.0))
        (λ (m : PublicModule). with_tree m (found_module l.root_symbol m.0)) modules_p modules_q texts_are (λ x y c d e. trees_same x y c d e)

    all_faults : Each (SameFaults k l moves) (package_faults first_alone k.graph k.root_symbol modules_p)
        (package_faults first_alone l.graph l.root_symbol modules_q)
    all_faults = go first_alone refl
      where
        at : (b : Bool) → first_alone ≡ b → (x y : PublicModule) → Contains modules_p x → Contains modules_q y → serialize x.0 ≡ serialize y.0 →
            Each (SameFaults k l moves) (module_faults b k.graph k.root_symbol x) (module_faults b l.graph l.root_symbol y)
        at b is x y c d e = subst (λ (v : Bool). Each (SameFaults k l moves) (module_faults v k.graph k.root_symbol x)
            (module_faults v l.graph l.root_symbol y)) is (faults_same x y c d e)

        go : (b : Bool) → first_alone ≡ b → Each (SameFaults k l moves) (package_faults b k.graph k.root_symbol modules_p)
            (package_faults b l.graph l.root_symbol modules_q)
        go false is = each_flat serialize (SameFaults k l moves) (module_faults false k.graph k.root_symbol)
            (module_faults false l.graph l.root_symbol) modules_p modules_q texts_are (at false is)
        go true is = each_first serialize (SameFaults k l moves) (module_faults true k.graph k.root_symbol)
            (module_faults true l.graph l.root_symbol) modules_p modules_q texts_are (at true is)

    found_alike : (ans bs : List Answer) → map serialize p.entrypoints.keys ≡ map serialize q.entrypoints.keys →
        IsFoundAnswer k.graph k.root_symbol p first_alone ans → IsFoundAnswer l.graph l.root_symbol q first_alone bs →
        Each (SameBuilt k moves) ans bs
    found_alike ans bs entries i j =
        go (package_faults first_alone k.graph k.root_symbol modules_p) (package_faults first_alone l.graph l.root_symbol modules_q) refl refl
        all_faults
      where
        go : (fs gs : List PackageFault) → package_faults first_alone k.graph k.root_symbol modules_p ≡ fs →
            package_faults first_alone l.graph l.root_symbol modules_q ≡ gs → Each (SameFaults k l moves) fs gs → Each (SameBuilt k moves) ans bs
        go [] [] e f h = shown_alike k l moves (tree_modules k.root_symbol modules_p) (tree_modules l.root_symbol modules_q) ans bs all_trees
            (i.shown e) (j.shown f)
        go (x ∷ fs) (y ∷ gs) e f h =
            let a = i.refused (λ n. no_nil x fs (sym n ∙ e)) in
            let b = j.refused (λ n. no_nil y gs (sym n ∙ f)) in
            refused_alike k l moves a.list b.list
            (reported_alike k l moves (package_faults first_alone k.graph k.root_symbol modules_p)
            (package_faults first_alone l.graph l.root_symbol modules_q) a.list b.list all_faults a.diagnoses b.diagnoses)
            p.entrypoints.keys q.entrypoints.keys ans bs entries a.each b.each
        go [] (y ∷ gs) e f h = absurd h
        go (x ∷ fs) [] e f h = absurd h

  pub package_alike : (x y : PackageNv × PackagePublicRanges) → Contains found_k.entries x → Contains found_l.entries y → nv_of x.0 ≡ nv_of y.0 →
      (ans bs : List Answer) → IsAnswered k.graph k.root_symbol first_alone x.1 ans → IsAnswered l.graph l.root_symbol first_alone y.1 bs →
      Each (SameBuilt k moves) ans bs
  package_alike x y c d e ans bs i j =
      let nv = nv_of x.0 in
      let is_p = found_package found_k order_k x c in
      let is_q : lookup_package nv found_l.entries ≡ Some y.1 =
      subst (λ (p : Nv). lookup_package p found_l.entries ≡ Some y.1) (sym e) (found_package found_l order_l y d) in
      let of_p = in_p nv x.1 y.1 is_p is_q i.modules_in_order j.modules_in_order in
      let of_q = in_q nv x.1 y.1 is_p is_q i.modules_in_order j.modules_in_order in
      found_alike nv x.1 y.1 is_p is_q i.modules_in_order j.modules_in_order ans bs
      (same_entries in_k.yields in_l.yields to from nv x.1 y.1 of_p of_q i.entry_points_in_order j.entry_points_in_order)
      (i.answered.found of_p.uncached) (j.answered.found of_q.uncached)
