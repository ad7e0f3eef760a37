-- What was found grows, where a module is followed further; and what is kept of modules stays right.
use Rattle.std.proofs.Common.{◌≡◌, ◌∙◌, sym, ap, refl, subst, ℕ, zero, suc, ◌<◌, List, [], ◌∷◌, ◌++◌, Some, map}
use Rattle.std.proofs.Common.{slice_get, ⊎_elim, inl, inr, ◌⊎◌, Option, None}
use Rattle.std.specs.List.{flat_map, Contains}
use Rattle.std.proofs.lemmas.List.{map-append}
use Rattle.std.proofs.lemmas.List.Concat.{flat_map-append}
use Rattle.std.proofs.lemmas.List.Elements.{Contains-push_cases}
use Rattle.std.proofs.lemmas.Option.{none-some}
use Rattle.indexmap.specs.IndexMap.{set_value_at}
use Rattle.fast_check_tree_syntax.specs.declared.source.SourceRange.{SourceRange}
use Rattle.fast_check_tables_packages.specs.Package.{Nv}
use Rattle.fast_check_tables_graph.specs.Root.{specifier_of}
use Rattle.fast_check_tables_graph.specs.declared.graph.ModuleGraph.{ModuleGraph}
use Rattle.fast_check_tables_graph.specs.declared.root_symbol.AnyModuleInfo.{AnyModuleInfo}
use Rattle.fast_check_tables_graph.specs.declared.root_symbol.AnyModuleInfo.TheVariants.{Esm, Json}
use Rattle.fast_check_tables_graph.specs.declared.root_symbol.RootSymbol.{RootSymbol}
use Rattle.fast_check_tables_symbols.specs.declared.symbol.Symbol.{Symbol}
use Rattle.fast_check_finder_demands.specs.symbol_demands.Demands.{Demand as SymbolDemand}
use Rattle.fast_check_finder_demands.specs.Yields.{Joins, Fault, fault_seen}
use Rattle.fast_check_finder_demands.specs.declared.fault.SymbolFault.{SymbolFault}
use Rattle.fast_check_finder_demands.proofs.Elements.{in_map, of_map}
use Rattle.fast_check_finder_demands.specs.declared.re_exports.modules.GraphModule.{GraphModule}
use Rattle.fast_check_finder_demands.specs.re_exports.Modules.{tables_in}
use Rattle.fast_check_finder_ranges.specs.findings.Faults.{FaultSource, placed_seen}
use Rattle.fast_check_finder_ranges.specs.findings.Findings.{placed_yield, placed_yields}
use Rattle.fast_check_finder_ranges.specs.findings.Found as found
use Rattle.fast_check_finder_ranges.specs.findings.Found.{module_yields}
use Rattle.fast_check_finder_ranges.specs.declared.findings.found.FoundModule.{FoundModule}
use Rattle.fast_check_finder_ranges.specs.findings.Yields.{Yield, recorded, public, implementing}
use Rattle.fast_check_finder_demands.proofs.asked.Maps.{first_in, rest_in, split_in, some_is}
use Rattle.fast_check_finder_loop.specs.declared.demand.SymbolAt.{SymbolAt}
use Rattle.fast_check_finder_loop.specs.Finder.{seen_at, traced_in, put_at, AsksEach}
use Rattle.fast_check_finder_loop.specs.Rules.{own_text}
use Rattle.fast_check_finder_loop.specs.Yields.{text_of, source_in, public_at, implementing_at, fault_yields, faults_at}
use Rattle.fast_check_finder_loop.proofs.Joins.{joins_last, joins_then, joins_left, joins_right}

-- at a place

module _ {K X : Type 0} where
  pub joins_set : {Y : Type 0} (f : K × X → List Y) (ys : List Y) (es : List (K × X)) (i : ℕ) (e : K × X) (w : X) → slice_get es i ≡ Some e →
      Joins ys (f e) (f (e.0, w)) → Joins ys (flat_map f es) (flat_map f (set_value_at es i w))
  joins_set f ys [] i e w h j = absurd (none-some e h)
  joins_set f ys (x ∷ xs) zero e w h j = joins_left ys (f x) (f (x.0, w)) (flat_map f xs)
      (subst (λ (z : K × X). Joins ys (f z) (f (z.0, w))) (sym (some_is x e h)) j)
  joins_set f ys (x ∷ xs) (suc i) e w h j =
      joins_right ys (flat_map f xs) (flat_map f (set_value_at xs i w)) (f x) (joins_set f ys xs i e w h j)

  pub set_cases : (es : List (K × X)) (i : ℕ) (e : K × X) (w : X) (x : K × X) → slice_get es i ≡ Some e → Contains (set_value_at es i w) x →
      Contains es x ⊎ ((e.0, w) ≡ x)
  set_cases [] i e w x h c = absurd (none-some e h)
  set_cases (y ∷ ys) zero e w x h c = ⊎_elim
      (λ is. inr (ap (λ (z : K × X). (z.0, w)) (sym (some_is y e h)) ∙ is))
      (λ there. inl (rest_in y x ys there)) (split_in (y.0, w) x ys c)
  set_cases (y ∷ ys) (suc i) e w x h c = ⊎_elim
      (λ is. inl (subst (λ (z : K × X). Contains (y ∷ ys) z) is (first_in y ys)))
      (λ there. ⊎_elim (λ old. inl (rest_in y x ys old)) (λ new. inr new) (set_cases ys i e w x h there))
      (split_in y x (set_value_at ys i w) c)

  pub get_in : (es : List (K × X)) (i : ℕ) (e : K × X) → slice_get es i ≡ Some e → Contains es e
  get_in [] i e h = absurd (none-some e h)
  get_in (x ∷ xs) zero e h = subst (λ (z : K × X). Contains (x ∷ xs) z) (some_is x e h) (first_in x xs)
  get_in (x ∷ xs) (suc i) e h = rest_in x e xs (get_in xs i e h)

-- what is found of a module

same_text : (info : AnyModuleInfo) → found.text_of info ≡ text_of info
same_text (Esm info) = refl
same_text (Json info) = refl

same_symbols : (info : AnyModuleInfo) → found.symbols_of info ≡ (tables_in info).symbols
same_symbols (Esm info) = refl
same_symbols (Json info) = refl

same_source : (m : GraphModule) → found.source_in m.info.now ≡ source_in m
same_source m = made (found.text_of m.info.now) (text_of m.info.now) (found.symbols_of m.info.now) (tables_in m.info.now).symbols
    (same_text m.info.now) (same_symbols m.info.now)
  where
    source : List ℕ → List Symbol → FaultSource
    source text symbols = record { specifier = specifier_of m.info.now; text = text; symbols = symbols }

    made : (a b : List ℕ) (c d : List Symbol) → a ≡ b → c ≡ d → source a c ≡ source b d
    made a b c d e f = cc

-- faults as they are seen, at their places
faults_seen : (nv : Nv) (m : GraphModule) (fs : List SymbolFault) →
    placed_yields nv (own_text m) (flat_map (placed_seen (source_in m)) fs) ≡ faults_at nv m (map fault_seen fs)
faults_seen nv m [] = refl
faults_seen nv m (f ∷ fs) =
    map-append (placed_yield nv (own_text m)) (placed_seen (source_in m) f) (flat_map (placed_seen (source_in m)) fs) ∙
    ap (λ (ys : List Yield). placed_yields nv (own_text m) (placed_seen (source_in m) f) ++ ys) (faults_seen nv m fs)

-- what a module gives, by its parts
abbrev pub parts : Nv → GraphModule → List SourceRange → List SourceRange → List Fault → List Yield
parts nv m ranges implementations faults = recorded nv (own_text m) ∷ (public_at nv m ranges ++ (implementing_at nv m implementations ++
    faults_at nv m faults))

pub parts_of : (g : ModuleGraph) (r : RootSymbol) (nv : Nv) (f : FoundModule) → let m = traced_in g r f.info.now in
    module_yields nv f ≡ parts nv m f.ranges.items f.implementations.items (map fault_seen f.faults.items)
parts_of g r nv f =
    let m = traced_in g r f.info.now in
    ap (λ (s : FaultSource). recorded nv (own_text m) ∷ (public_at nv m f.ranges.items ++ (implementing_at nv m f.implementations.items ++
    placed_yields nv (own_text m) (flat_map (placed_seen s) f.faults.items)))) (same_source m) ∙
    ap (λ (ys : List Yield). recorded nv (own_text m) ∷ (public_at nv m f.ranges.items ++ (implementing_at nv m f.implementations.items ++ ys)))
    (faults_seen nv m f.faults.items)

module _ (nv : Nv) (m : GraphModule) where
  joins_record : (ys a b : List Yield) → Joins ys a b → Joins ys (recorded nv (own_text m) ∷ a) (recorded nv (own_text m) ∷ b)
  joins_record ys a b j = joins_right ys a b (recorded nv (own_text m) ∷ []) j

  joins_more : {X : Type 0} (f : List X → List Yield) → ((xs ys : List X) → f (xs ++ ys) ≡ f xs ++ f ys) → (xs ys zs : List X) → zs ≡ xs ++ ys →
      Joins (f ys) (f xs) (f zs)
  joins_more f splits xs ys zs is = subst (λ (l : List Yield). Joins (f ys) (f xs) l) (sym (ap f is ∙ splits xs ys)) (joins_last (f ys) (f xs))

  -- where each part has more behind it
  pub parts_joins : (ranges more_ranges new_ranges implementations more_implementations new_implementations : List SourceRange)
      (faults more_faults new_faults : List Fault) → new_ranges ≡ ranges ++ more_ranges →
      new_implementations ≡ implementations ++ more_implementations → new_faults ≡ faults ++ more_faults →
      Joins (public_at nv m more_ranges ++ (implementing_at nv m more_implementations ++ faults_at nv m more_faults))
      (parts nv m ranges implementations faults) (parts nv m new_ranges new_implementations new_faults)
  parts_joins a x b c y d e z f p q s =
      joins_record (public_at nv m x ++ (implementing_at nv m y ++ faults_at nv m z))
      (public_at nv m a ++ (implementing_at nv m c ++ faults_at nv m e)) (public_at nv m b ++ (implementing_at nv m d ++ faults_at nv m f))
      (joins_then (public_at nv m x) (implementing_at nv m y ++ faults_at nv m z)
      (public_at nv m a ++ (implementing_at nv m c ++ faults_at nv m e)) (public_at nv m b ++ (implementing_at nv m c ++ faults_at nv m e))
      (public_at nv m b ++ (implementing_at nv m d ++ faults_at nv m f))
      (joins_left (public_at nv m x) (public_at nv m a) (public_at nv m b) (implementing_at nv m c ++ faults_at nv m e)
      (joins_more (public_at nv m) (map-append (public nv (own_text m))) a x b p))
      (joins_right (implementing_at nv m y ++ faults_at nv m z) (implementing_at nv m c ++ faults_at nv m e)
      (implementing_at nv m d ++ faults_at nv m f) (public_at nv m b)
      (joins_then (implementing_at nv m y) (faults_at nv m z) (implementing_at nv m c ++ faults_at nv m e)
      (implementing_at nv m d ++ faults_at nv m e) (implementing_at nv m d ++ faults_at nv m f)
      (joins_left (implementing_at nv m y) (implementing_at nv m c) (implementing_at nv m d) (faults_at nv m e)
      (joins_more (implementing_at nv m) (map-append (implementing nv (own_text m))) c y d q))
      (joins_right (faults_at nv m z) (faults_at nv m e) (faults_at nv m f) (implementing_at nv m d)
      (joins_more (faults_at nv m) (flat_map-append (fault_yields nv m)) e z f s)))))

  joins_map : {X Y : Type 0} (f : X → Y) (ys a b : List X) → Joins ys a b → Joins (map f ys) (map f a) (map f b)
  joins_map {X} {Y} f ys a b j = record {
    sound = λ y c. let o = of_map f b y c in
        ⊎_elim (λ l. inl (subst (λ (z : Y). Contains (map f a) z) o.2 (in_map f a o.0 l)))
        (λ n. inr (subst (λ (z : Y). Contains (map f ys) z) o.2 (in_map f ys o.0 n))) (j.sound o.0 o.1);
    kept = λ y c. let o = of_map f a y c in subst (λ (z : Y). Contains (map f b) z) o.2 (in_map f b o.0 (j.kept o.0 o.1));
    whole = λ y c. let o = of_map f ys y c in subst (λ (z : Y). Contains (map f b) z) o.2 (in_map f b o.0 (j.whole o.0 o.1));
  }

  pub ranges_join : (more ranges new_ranges implementations : List SourceRange) (faults : List Fault) → Joins more ranges new_ranges →
      Joins (public_at nv m more) (parts nv m ranges implementations faults) (parts nv m new_ranges implementations faults)
  ranges_join more a b c e j =
      joins_record (public_at nv m more) (public_at nv m a ++ (implementing_at nv m c ++ faults_at nv m e))
      (public_at nv m b ++ (implementing_at nv m c ++ faults_at nv m e))
      (joins_left (public_at nv m more) (public_at nv m a) (public_at nv m b) (implementing_at nv m c ++ faults_at nv m e)
      (joins_map (public nv (own_text m)) more a b j))

-- the places of what waits

module _ (n place : ℕ) (within : place < n) where
  abbrev AreWithin : List SymbolAt → Type 0
  AreWithin xs = (x : SymbolAt) → Contains xs x → x.place < n

  same_within : (old new : List SymbolAt) → map seen_at new ≡ map seen_at old → AreWithin old → AreWithin new
  same_within old new is h x c =
      let o = of_map seen_at old (seen_at x) (subst (λ (l : List (ℕ × SymbolDemand)). Contains l (seen_at x)) is (in_map seen_at new x c)) in
      subst (λ (p : ℕ × SymbolDemand). p.0 < n) o.2 (h o.0 o.1)

  seen_within : (old new : List SymbolAt) (fresh : Option SymbolDemand) → map seen_at new ≡ put_at place fresh (map seen_at old) →
      AreWithin old → AreWithin new
  seen_within old new None is h = same_within old new is h
  seen_within old new (Some d) is h = λ x c. ⊎_elim
      (λ before. let o = of_map seen_at old (seen_at x) before in subst (λ (p : ℕ × SymbolDemand). p.0 < n) o.2 (h o.0 o.1))
      (λ now. subst (λ (p : ℕ × SymbolDemand). p.0 < n) now within)
      (Contains-push_cases (map seen_at old) (place, d) (seen_at x)
      (subst (λ (l : List (ℕ × SymbolDemand)). Contains l (seen_at x)) is (in_map seen_at new x c)))

  pub each_within : (ds a b : List SymbolDemand) (old new : List SymbolAt) → AsksEach place ds a b old new → AreWithin old → AreWithin new
  each_within [] a b old new w h = same_within old new w.1 h
  each_within (d ∷ ds) a b old new w h =
      each_within ds w.0 b w.1 new w.3 (seen_within old w.1 w.2.0 w.2.2 h)
