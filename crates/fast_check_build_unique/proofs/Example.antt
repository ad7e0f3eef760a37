-- Two versions of a package whose only module exports one function differ by hidden code alone.
use Rattle.std.proofs.Common.{◌≡◌, ◌∙◌, refl, sym, ap, subst, Bool, true, false, cond, ◌&&◌, List, [], ◌∷◌, ◌++◌, map, ⊎_elim, inl}
use Rattle.std.specs.Prelude.{IsTrue}
use Rattle.std.specs.List.{Contains, flat_map}
use Rattle.std.specs.Str.{bytes_eq}
use Rattle.std.proofs.lemmas.Bool.{and_from}
use Rattle.std.proofs.lemmas.List.Elements.{Contains-append_left, Contains-append_right, Contains-append_cases}
use Rattle.url.specs.Parts.{Parts, serialize}
use Rattle.fast_check_tree_syntax.specs.declared.source.SourceRange.{SourceRange}
use Rattle.fast_check_tables_packages.specs.Package.{Nv}
use Rattle.fast_check_tables_symbols.specs.declared.symbol.Symbol.{Symbol}
use Rattle.fast_check_tables_symbols.specs.declared.symbol_id.SymbolId.{SymbolId}
use Rattle.fast_check_finder_lattice.specs.Names.{Name}
use Rattle.fast_check_finder_lattice.specs.Imports.{NameDemand, each_name}
use Rattle.fast_check_finder_demands.specs.symbol_demands.Demands.{Demand as SymbolDemand}
use Rattle.fast_check_finder_demands.specs.symbol_demands.Rules.{each_of}
use Rattle.fast_check_finder_demands.specs.Yields.{ranges, implementations, Fault, faults}
use Rattle.fast_check_finder_demands.specs.asked.Demands.{Text, same_nv, asked_by, DemandSet, to_module, to_symbol, Demand, of_package}
use Rattle.fast_check_finder_demands.specs.asked.Demands.{of_module, of_symbol, Includes, Follows}
use Rattle.fast_check_finder_demands.specs.declared.re_exports.modules.GraphModule.{GraphModule}
use Rattle.fast_check_finder_demands.specs.re_exports.Modules.{own_tables}
use Rattle.fast_check_finder_demands.specs.re_exports.Roots.{roots}
use Rattle.fast_check_finder_demands.proofs.Elements.{no_element, cases, only, first as here, later, in_map, of_map}
use Rattle.fast_check_finder_demands.proofs.asked.Taken.{bytes_same}
use Rattle.fast_check_finder_ranges.specs.findings.Findings.{faulty_module}
use Rattle.fast_check_finder_ranges.specs.findings.Yields.{ModuleFault, Yield, known_package, entry_point, recorded, public, implementing, faulty}
use Rattle.fast_check_finder_ranges.specs.findings.Yields.{untyped_module}
use Rattle.fast_check_finder_loop.specs.demands.facts.GraphFacts.{Known, untyped_at}
use Rattle.fast_check_finder_loop.specs.Account.{Chained}
use Rattle.fast_check_finder_loop.specs.Measure.{IsWithin}
use Rattle.fast_check_finder_loop.specs.Rules.{followers, own_text, symbol_followers}
use Rattle.fast_check_finder_loop.specs.Yields.{demand_yields, public_at, implementing_at, faults_at, dependencies, symbol_yields}
use Rattle.fast_check_finder_loop.specs.Yields.{entry_yields, entered_yields, entry_fault_yields}
use Rattle.fast_check_finder_loop.proofs.Accounted.{nv_itself}
use Rattle.fast_check_finder_unique.specs.Edits.{SymbolRenaming, IsRenamedSymbol, IsRenamed, IsHiddenEdit}
use Rattle.fast_check_finder_unique.specs.Example.{ExportsOneFunction, export_demand}
use Rattle.fast_check_finder_unique.proofs.Example.{few, within_all, of_entry, of_names, of_function, roots_starred, star_roots_have, module_yields}
use Rattle.fast_check_finder_unique.proofs.Example.{no_followers, settled}
use Rattle.fast_check_build_unique.specs.Moved.{Renamings, is_moved, corresponds}
use Rattle.fast_check_build_unique.specs.Lockstep.{every}
use Rattle.fast_check_build_unique.specs.Builds.{HasNoError, DifferHiddenly}
use Rattle.fast_check_build_unique.specs.Example.{AreTwoVersions}

demand_is : (d : SymbolDemand) (e : SymbolDemand) → d.symbol ≡ e.symbol → d.asked ≡ e.asked → d.referrer ≡ e.referrer → d ≡ e
demand_is d e a b c = λ i. record { symbol = a i; asked = b i; referrer = c i }

-- what the package yields, in either version
entry_is : (k : Known) (p : Nv) (url : Parts) (m : GraphModule) (root : Symbol) (name : Name) (x : SymbolId) →
    ExportsOneFunction k p url m root name x →
    demand_yields k (of_package p) ≡ known_package p ∷ entry_point p (serialize url) ∷ []
entry_is k p url m root name x e = ap (entry_yields k.graph k.used p) e.entrance
    ∙ (ap (entered_yields k.graph p (url ∷ [])) e.uncached
    ∙ ap (λ fs. known_package p ∷ entry_point p (serialize url) ∷ flat_map (entry_fault_yields p) fs) e.typed)

-- what the function yields
function_is : (k : Known) (p : Nv) (url : Parts) (m : GraphModule) (root : Symbol) (name : Name) (x : SymbolId) →
    ExportsOneFunction k p url m root name x → faults (own_tables m) (export_demand m x) ≡ [] →
    demand_yields k (of_symbol p (serialize url) (export_demand m x)) ≡
    public_at p m (ranges (own_tables m) (export_demand m x)) ++ (implementing_at p m (implementations (own_tables m) (export_demand m x)) ++ [])
function_is k p url m root name x e no_faults =
    let s = export_demand m x in
    let front : List Yield → List Yield = λ ys. public_at p m (ranges (own_tables m) s) ++ (implementing_at p m (implementations (own_tables m) s) ++ ys) in
    ap (each_of (symbol_yields k p s)) e.named
    ∙ (ap (λ (fs : List Fault). front (faults_at p m fs ++ dependencies p (symbol_followers k p s m))) no_faults
    ∙ ap (λ (ws : List DemandSet). front (dependencies p ws)) (no_followers k p url m root name x e))

module _ (k l : Known) (p : Nv) (url : Parts) (m n : GraphModule) (root_m root_n : Symbol) (name : Name) (x y : SymbolId)
    (of_k : ExportsOneFunction k p url m root_m name x) (of_l : ExportsOneFunction l p url n root_n name y)
    (no_faults_k : faults (own_tables m) (export_demand m x) ≡ []) (no_faults_l : faults (own_tables n) (export_demand n y) ≡ [])
    (typed_k : untyped_at k.graph (serialize url) ≡ false) (typed_l : untyped_at l.graph (serialize url) ≡ false)
    (renames : SymbolRenaming) (shows : Yield → Yield → Bool)
    (pair : IsTrue (renames (serialize url) x y)) (only_function : (z : SymbolId) → IsTrue (renames (serialize url) x z) → z ≡ y)
    (module_pair : IsTrue (renames (serialize url) (own_tables m).module_symbol (own_tables n).module_symbol))
    (only_module : (z : SymbolId) → IsTrue (renames (serialize url) (own_tables m).module_symbol z) → z ≡ (own_tables n).module_symbol)
    (shows_known : IsTrue (shows (known_package p) (known_package p)))
    (shows_entry : IsTrue (shows (entry_point p (serialize url)) (entry_point p (serialize url))))
    (shows_recorded : IsTrue (shows (recorded p (serialize url)) (recorded p (serialize url))))
    (shows_public : (a : SourceRange) → Contains (ranges (own_tables m) (export_demand m x)) a →
    (b : SourceRange) × Contains (ranges (own_tables n) (export_demand n y)) b ×
    IsTrue (shows (public p (serialize url) a) (public p (serialize url) b)))
    (shows_implementing : (a : SourceRange) → Contains (implementations (own_tables m) (export_demand m x)) a →
    (b : SourceRange) × Contains (implementations (own_tables n) (export_demand n y)) b ×
    IsTrue (shows (implementing p (serialize url) a) (implementing p (serialize url) b))) where
  abbrev t : Text
  t = serialize url

  abbrev s : SymbolDemand
  s = export_demand m x

  abbrev r : SymbolDemand
  r = export_demand n y

  renamed_function : IsRenamedSymbol (renames t) s r
  renamed_function = record { symbol = pair; asked = refl; referrer = module_pair }

  -- the demand that corresponds to that of the function
  function_of : (f : SymbolDemand) → IsRenamedSymbol (renames t) s f → f ≡ r
  function_of f h = demand_is f r (only_function f.symbol h.symbol) (sym h.asked) (only_module f.referrer h.referrer)

  abbrev Corresponds : Demand → Demand → Type 0
  Corresponds e f = (g : Demand) × IsRenamed renames e g × Follows (followers l) f g

  -- what follows

  by_package : (e : Demand) (w : DemandSet) → Contains (followers k (of_package p)) w → Includes w e → Corresponds e (of_package p)
  by_package e w c i = go e
      (subst (λ (z : DemandSet). Includes z e) (sym (only (to_module p t (asked_by each_name)) w
      (subst (λ (ws : List DemandSet). Contains ws w) (of_entry k p url m root_m name x of_k) c))) i)
    where
      go : (e : Demand) → Includes (to_module p t (asked_by each_name)) e → Corresponds e (of_package p)
      go (of_package q) h = absurd h
      go (of_module q u c) h = (
        of_module q u c,
        (refl, refl, refl),
        record {
          demand_set = to_module p t (asked_by each_name);
          among = subst (λ (ws : List DemandSet). Contains ws (to_module p t (asked_by each_name))) (sym (of_entry l p url n root_n name y of_l))
              (here (to_module p t (asked_by each_name)) (to_module p t (asked_by each_name)) [] refl);
          includes = h;
        },
      )
      go (of_symbol q u z) h = absurd h

  by_module : (c : NameDemand) → IsWithin few c → (e : Demand) (w : DemandSet) → Contains (followers k (of_module p t c)) w → Includes w e →
      Corresponds e (of_module p t c)
  by_module c within e w h i = ⊎_elim
      (λ found.
      let z = of_map (to_symbol p (own_text m)) (roots (own_tables m) c) w found in
      let is = roots_starred k p url m root_m name x of_k c within z.0 z.1 in
      let set = to_symbol p (own_text n) r in
      let there : Contains (followers l (of_module p t c)) set =
      subst (λ (ws : List DemandSet). Contains ws set) (sym (of_names l p url n root_n name y of_l c))
      (Contains-append_left (map (to_symbol p (own_text n)) (roots (own_tables n) c)) [] set
      (in_map (to_symbol p (own_text n)) (roots (own_tables n) c) r (star_roots_have l p url n root_n name y of_l c is.1))) in
      go e there (subst (λ (v : DemandSet). Includes v e) (sym z.2 ∙ ap (to_symbol p (own_text m)) is.0) i))
      (λ none. absurd (no_element w none))
      (Contains-append_cases (map (to_symbol p (own_text m)) (roots (own_tables m) c)) [] w
      (subst (λ (ws : List DemandSet). Contains ws w) (of_names k p url m root_m name x of_k c) h))
    where
      go : (e : Demand) → Contains (followers l (of_module p t c)) (to_symbol p (own_text n) r) → Includes (to_symbol p (own_text m) s) e →
          Corresponds e (of_module p t c)
      go (of_package q) there h = absurd h
      go (of_module q u d) there h = absurd h
      go (of_symbol q u z) there h = (
        of_symbol p t r,
        (
          sym h.0,
          sym h.1 ∙ of_k.own_name,
          subst (λ (d : SymbolDemand). IsRenamedSymbol (renames u) d r) h.2
              (subst (λ (v : Text). IsRenamedSymbol (renames v) s r) (sym of_k.own_name ∙ h.1) renamed_function),
        ),
        record { demand_set = to_symbol p (own_text n) r; among = there; includes = (refl, of_l.own_name, refl) },
      )

  -- what is yielded

  abbrev Shown : Demand → Yield → Type 0
  Shown f v = (z : Yield) × IsTrue (shows v z) × Contains (demand_yields l f) z × IsTrue (every z)

  package_shown : (v : Yield) → Contains (demand_yields k (of_package p)) v → Shown (of_package p) v
  package_shown v c =
      let is = entry_is k p url m root_m name x of_k in
      let also = sym (entry_is l p url n root_n name y of_l) in
      let known : Contains (demand_yields l (of_package p)) (known_package p) =
      subst (λ (ys : List Yield). Contains ys (known_package p)) also (here (known_package p) (known_package p) (entry_point p t ∷ []) refl) in
      let entry : Contains (demand_yields l (of_package p)) (entry_point p t) =
      subst (λ (ys : List Yield). Contains ys (entry_point p t)) also
      (later (known_package p) (entry_point p t ∷ []) (entry_point p t) (here (entry_point p t) (entry_point p t) [] refl)) in
      ⊎_elim
      (λ one. (known_package p, subst (λ (z : Yield). IsTrue (shows z (known_package p))) one shows_known, known, refl))
      (λ more. (entry_point p t, subst (λ (z : Yield). IsTrue (shows z (entry_point p t))) (only (entry_point p t) v more) shows_entry, entry, refl))
      (cases (known_package p) (entry_point p t ∷ []) v (subst (λ (ys : List Yield). Contains ys v) is c))

  module_is : (g : Known) (o : GraphModule) (root : Symbol) (z : SymbolId) → ExportsOneFunction g p url o root name z →
      untyped_at g.graph t ≡ false → (c : NameDemand) → demand_yields g (of_module p t c) ≡ recorded p t ∷ []
  module_is g o root z of_g typed c = module_yields g p url o root name z of_g c
      ∙ (ap (λ b. recorded p (own_text o) ∷ cond b (faulty_module p t untyped_module) []) typed
      ∙ ap (λ (u : Text). recorded p u ∷ []) of_g.own_name)

  module_shown : (c : NameDemand) (v : Yield) → Contains (demand_yields k (of_module p t c)) v → Shown (of_module p t c) v
  module_shown c v h =
      let one = only (recorded p t) v (subst (λ (ys : List Yield). Contains ys v) (module_is k m root_m x of_k typed_k c) h) in (
        recorded p t,
        subst (λ (z : Yield). IsTrue (shows z (recorded p t))) one shows_recorded,
        subst (λ (ys : List Yield). Contains ys (recorded p t)) (sym (module_is l n root_n y of_l typed_l c))
            (here (recorded p t) (recorded p t) [] refl),
        refl,
      )

  function_shown : (v : Yield) → Contains (demand_yields k (of_symbol p t s)) v → Shown (of_symbol p t r) v
  function_shown v c = ⊎_elim
      (λ found.
      let a = of_map (public p (own_text m)) (ranges (own_tables m) s) v found in
      let b = shows_public a.0 a.1 in
      let z = public p (own_text n) b.0 in (
        z,
        as_shown public a.0 b.0 v a.2 b.2,
        all_of z (Contains-append_left (public_at p n (ranges (own_tables n) r)) _ z (in_map (public p (own_text n)) (ranges (own_tables n) r) b.0 b.1)),
        refl,
      ))
      (λ rest. ⊎_elim
      (λ found.
      let a = of_map (implementing p (own_text m)) (implementations (own_tables m) s) v found in
      let b = shows_implementing a.0 a.1 in
      let z = implementing p (own_text n) b.0 in (
        z,
        as_shown implementing a.0 b.0 v a.2 b.2,
        all_of z (Contains-append_right (public_at p n (ranges (own_tables n) r)) _ z
            (Contains-append_left (implementing_at p n (implementations (own_tables n) r)) [] z
            (in_map (implementing p (own_text n)) (implementations (own_tables n) r) b.0 b.1))),
        refl,
      ))
      (λ none. absurd (no_element v none))
      (Contains-append_cases (implementing_at p m (implementations (own_tables m) s)) [] v rest))
      (Contains-append_cases (public_at p m (ranges (own_tables m) s)) _ v
      (subst (λ (ys : List Yield). Contains ys v) (function_is k p url m root_m name x of_k no_faults_k) c))
    where
      all_of : (z : Yield) → Contains (public_at p n (ranges (own_tables n) r) ++ (implementing_at p n (implementations (own_tables n) r) ++ [])) z →
          Contains (demand_yields l (of_symbol p t r)) z
      all_of z h = subst (λ (ys : List Yield). Contains ys z) (sym (function_is l p url n root_n name y of_l no_faults_l)) h

      as_shown : (make : Nv → Text → SourceRange → Yield) (a b : SourceRange) (v : Yield) → make p (own_text m) a ≡ v →
          IsTrue (shows (make p t a) (make p t b)) → IsTrue (shows v (make p (own_text n) b))
      as_shown make a b v is h = subst (λ (z : Yield). IsTrue (shows z (make p (own_text n) b))) is
          (subst (λ (u : Text). IsTrue (shows (make p u a) (make p (own_text n) b))) (sym of_k.own_name)
          (subst (λ (u : Text). IsTrue (shows (make p t a) (make p u b))) (sym of_l.own_name) h))

  -- both, for each chained demand

  abbrev IsStep : Demand → Demand → Type 0
  IsStep d f = ((e : Demand) → Follows (followers k) d e → Corresponds e f) ×
      ((v : Yield) → Contains (demand_yields k d) v → Shown f v)

  package_step : IsStep (of_package p) (of_package p)
  package_step = (λ e h. by_package e h.demand_set h.among h.includes, package_shown)

  module_step : (c : NameDemand) → IsWithin few c → IsStep (of_module p t c) (of_module p t c)
  module_step c w = (λ e h. by_module c w e h.demand_set h.among h.includes, module_shown c)

  function_step : IsStep (of_symbol p t s) (of_symbol p t r)
  function_step = (
    λ e h. absurd (no_element h.demand_set (subst (λ (ws : List DemandSet). Contains ws h.demand_set)
        (of_function k p url m root_m name x of_k) h.among)),
    function_shown,
  )

  steps : (d f : Demand) → Chained (followers k) (p ∷ []) d → IsRenamed renames d f → IsStep d f
  steps (of_package q) (of_package q2) c h =
      let i = within_all k p url m root_m name x of_k (of_package q) c in
      let is : p ≡ q = only p q i in
      subst (λ (z : Nv). IsStep (of_package z) (of_package q2)) is
      (subst (λ (z : Nv). IsStep (of_package p) (of_package z)) (is ∙ h) package_step)
  steps (of_module q u a) (of_module q2 u2 a2) c h =
      let i = within_all k p url m root_m name x of_k (of_module q u a) c in
      let both = module_step a i.2 in
      let second : of_module p t a ≡ of_module q2 u2 a2 =
      ap (λ z. of_module z t a) (only p q i.0 ∙ h.0) ∙ (ap (λ z. of_module q2 z a) (only t u i.1 ∙ h.1) ∙ ap (λ z. of_module q2 u2 z) h.2) in
      let first : of_module p t a ≡ of_module q u a = ap (λ z. of_module z t a) (only p q i.0) ∙ ap (λ z. of_module q z a) (only t u i.1) in
      subst (λ (z : Demand). IsStep z (of_module q2 u2 a2)) first (subst (λ (z : Demand). IsStep (of_module p t a) z) second both)
  steps (of_symbol q u z) (of_symbol q2 u2 z2) c h =
      let i = within_all k p url m root_m name x of_k (of_symbol q u z) c in
      let renamed : IsRenamedSymbol (renames t) s z2 =
      subst (λ (v : Text). IsRenamedSymbol (renames v) s z2) (sym (only t u i.1))
      (subst (λ (v : SymbolDemand). IsRenamedSymbol (renames u) v z2) (sym (only s z i.2)) h.2) in
      let second : of_symbol p t r ≡ of_symbol q2 u2 z2 =
      ap (λ v. of_symbol v t r) (only p q i.0 ∙ h.0) ∙ (ap (λ v. of_symbol q2 v r) (only t u i.1 ∙ h.1)
      ∙ ap (λ v. of_symbol q2 u2 v) (sym (function_of z2 renamed))) in
      let first : of_symbol p t s ≡ of_symbol q u z =
      ap (λ v. of_symbol v t s) (only p q i.0) ∙ (ap (λ v. of_symbol q v s) (only t u i.1) ∙ ap (λ v. of_symbol q u v) (only s z i.2)) in
      subst (λ (v : Demand). IsStep v (of_symbol q2 u2 z2)) first (subst (λ (v : Demand). IsStep (of_symbol p t s) v) second function_step)
  steps (of_package q) (of_module u v w) c h = absurd h
  steps (of_package q) (of_symbol u v w) c h = absurd h
  steps (of_module q u a) (of_package v) c h = absurd h
  steps (of_module q u a) (of_symbol v w z) c h = absurd h
  steps (of_symbol q u z) (of_package v) c h = absurd h
  steps (of_symbol q u z) (of_module v w a) c h = absurd h

  pub one_way : IsHiddenEdit (followers k) (followers l) (demand_yields k) (demand_yields l) (p ∷ []) renames shows every
  one_way = record {
    follows = λ d e f c h g. inl ((steps d f c h).0 e g);
    yields = λ d f v c h g picked. (steps d f c h).1 v g;
  }

moved_at : (p : Nv) (t : Text) (b : Bool) → b ≡ true → (same_nv p p && (bytes_eq t t && b)) ≡ true
moved_at p t b h = and_from (same_nv p p) (bytes_eq t t && b) (nv_itself p) (and_from (bytes_eq t t) b (bytes_same t) h)

named_at : (p : Nv) (t : Text) → (same_nv p p && bytes_eq t t) ≡ true
named_at p t = and_from (same_nv p p) (bytes_eq t t) (nv_itself p) (bytes_same t)

-- no demand of such a package yields an error

package_error : (p q : Nv) (t u : Text) (f : ModuleFault) → Contains (known_package p ∷ entry_point p t ∷ []) (faulty q u f) → ⊥
package_error p q t u f c = ⊎_elim (λ is. no_known is) (λ more. no_entry (only (entry_point p t) (faulty q u f) more))
    (cases (known_package p) (entry_point p t ∷ []) (faulty q u f) c)
  where
    no_known : known_package p ≡ faulty q u f → ⊥
    no_known e = cc

    no_entry : entry_point p t ≡ faulty q u f → ⊥
    no_entry e = cc

module_error : (p q : Nv) (t u : Text) (f : ModuleFault) → Contains (recorded p t ∷ []) (faulty q u f) → ⊥
module_error p q t u f c = no (only (recorded p t) (faulty q u f) c)
  where
    no : recorded p t ≡ faulty q u f → ⊥
    no e = cc

function_error : (p q : Nv) (m : GraphModule) (u : Text) (f : ModuleFault) (rs is : List SourceRange) →
    Contains (public_at p m rs ++ (implementing_at p m is ++ [])) (faulty q u f) → ⊥
function_error p q m u f rs is c = ⊎_elim
    (λ found. let a = of_map (public p (own_text m)) rs (faulty q u f) found in no_public a.0 a.2)
    (λ rest. ⊎_elim
    (λ found. let a = of_map (implementing p (own_text m)) is (faulty q u f) found in no_implementing a.0 a.2)
    (λ none. no_element (faulty q u f) none)
    (Contains-append_cases (implementing_at p m is) [] (faulty q u f) rest))
    (Contains-append_cases (public_at p m rs) (implementing_at p m is ++ []) (faulty q u f) c)
  where
    no_public : (a : SourceRange) → public p (own_text m) a ≡ faulty q u f → ⊥
    no_public a e = cc

    no_implementing : (a : SourceRange) → implementing p (own_text m) a ≡ faulty q u f → ⊥
    no_implementing a e = cc

module _ (k : Known) (p : Nv) (url : Parts) (m : GraphModule) (root : Symbol) (name : Name) (x : SymbolId)
    (e : ExportsOneFunction k p url m root name x) (no_faults : faults (own_tables m) (export_demand m x) ≡ [])
    (typed : untyped_at k.graph (serialize url) ≡ false) where
  module_of_k : (c : NameDemand) → demand_yields k (of_module p (serialize url) c) ≡ recorded p (serialize url) ∷ []
  module_of_k c = module_yields k p url m root name x e c
      ∙ (ap (λ b. recorded p (own_text m) ∷ cond b (faulty_module p (serialize url) untyped_module) []) typed
      ∙ ap (λ (u : Text). recorded p u ∷ []) e.own_name)

  pub no_error : HasNoError k (p ∷ [])
  no_error (of_package q) chained r u f c =
      let i = within_all k p url m root name x e (of_package q) chained in
      package_error p r (serialize url) u f
      (subst (λ (ys : List Yield). Contains ys (faulty r u f)) (entry_is k p url m root name x e)
      (subst (λ (z : Nv). Contains (demand_yields k (of_package z)) (faulty r u f)) (sym (only p q i)) c))
  no_error (of_module q v a) chained r u f c =
      let i = within_all k p url m root name x e (of_module q v a) chained in
      module_error p r (serialize url) u f
      (subst (λ (ys : List Yield). Contains ys (faulty r u f)) (module_of_k a)
      (subst (λ (z : Text). Contains (demand_yields k (of_module p z a)) (faulty r u f)) (sym (only (serialize url) v i.1))
      (subst (λ (z : Nv). Contains (demand_yields k (of_module z v a)) (faulty r u f)) (sym (only p q i.0)) c)))
  no_error (of_symbol q v z) chained r u f c =
      let i = within_all k p url m root name x e (of_symbol q v z) chained in
      let s = export_demand m x in
      function_error p r m u f (ranges (own_tables m) s) (implementations (own_tables m) s)
      (subst (λ (ys : List Yield). Contains ys (faulty r u f)) (function_is k p url m root name x e no_faults)
      (subst (λ (d : SymbolDemand). Contains (demand_yields k (of_symbol p (serialize url) d)) (faulty r u f)) (sym (only s z i.2))
      (subst (λ (w : Text). Contains (demand_yields k (of_symbol p w z)) (faulty r u f)) (sym (only (serialize url) v i.1))
      (subst (λ (w : Nv). Contains (demand_yields k (of_symbol w v z)) (faulty r u f)) (sym (only p q i.0)) c))))

pub two_versions : (k l : Known) (p : Nv) (url : Parts) (m n : GraphModule) (root_m root_n : Symbol) (name : Name) (x y : SymbolId)
    (renames : SymbolRenaming) (moves : Renamings) → AreTwoVersions k l p url m n root_m root_n name x y renames moves →
    DifferHiddenly k l (p ∷ []) renames moves
two_versions k l p url m n root_m root_n name x y renames moves h =
    let t = serialize url in record {
      lockstep = record {
        forth = one_way k l p url m n root_m root_n name x y h.first h.second h.no_faults.0 h.no_faults.1 h.typed.0 h.typed.1 renames
            (corresponds moves) h.function.pair h.function.to h.modules.pair h.modules.to (nv_itself p) (named_at p t) (named_at p t)
            (λ a c. let b = h.ranges.to a c in (b.0, b.1, moved_at p t (is_moved (moves t) a b.0) b.2))
            (λ a c. let b = h.implementations.to a c in (b.0, b.1, moved_at p t (is_moved (moves t) a b.0) b.2));
        back = one_way l k p url n m root_n root_m name y x h.second h.first h.no_faults.1 h.no_faults.0 h.typed.1 h.typed.0
            (λ u a b. renames u b a) (λ v z. corresponds moves z v) h.function.pair h.function.from h.modules.pair h.modules.from
            (nv_itself p) (named_at p t) (named_at p t)
            (λ b c. let a = h.ranges.from b c in (a.0, a.1, moved_at p t (is_moved (moves t) a.0 b) a.2))
            (λ b c. let a = h.implementations.from b c in (a.0, a.1, moved_at p t (is_moved (moves t) a.0 b) a.2));
        renaming = h.renaming;
      };
      settled = record {
        first = settled k p url m root_m name x h.first;
        second = settled l p url n root_n name y h.second;
      };
      has_no_error = no_error k p url m root_m name x h.first h.no_faults.0 h.typed.0;
    }
