-- What is asked and found within a module that is followed further.
use Rattle.std.proofs.Common.{◌≡◌, ◌∙◌, sym, ap, subst, ℕ, zero, suc, Bool, List, [], ◌∷◌, ◌++◌, Option, Some, map, slice_get}
use Rattle.std.specs.Prelude.{IfSome, IfOk, OnOk}
use Rattle.std.proofs.Common.{Result, Ok, Err}
use Rattle.std.specs.List.{Contains, IsDistinct}
use Rattle.std.specs.Map.{keys_of, values_of}
use Rattle.std.proofs.lemmas.List.Elements.{Contains-append_left}
use Rattle.std.proofs.lemmas.Option.{none-some}
use Rattle.url.specs.Parts.{serialize}
use Rattle.fast_check_tree_syntax.specs.declared.source.SourceRange.{SourceRange}
use Rattle.fast_check_tables_graph.specs.Root.{specifier_of}
use Rattle.fast_check_tables_graph.specs.declared.graph.ModuleGraph.{ModuleGraph}
use Rattle.fast_check_tables_graph.specs.declared.root_symbol.AnyModuleInfo.{AnyModuleInfo}
use Rattle.fast_check_tables_graph.specs.declared.root_symbol.RootSymbol.{RootSymbol}
use Rattle.fast_check_finder_lattice.specs.Imports.{NameDemand}
use Rattle.fast_check_finder_demands.specs.symbol_demands.Demands.{Demand as SymbolDemand}
use Rattle.fast_check_finder_demands.specs.symbol_demands.Rules.{names}
use Rattle.fast_check_finder_demands.specs.Yields.{Joins, ranges, implementations, faults, fault_seen}
use Rattle.fast_check_finder_demands.specs.declared.fault.SymbolFault.{SymbolFault}
use Rattle.fast_check_finder_demands.specs.declared.re_exports.modules.GraphModule.{GraphModule}
use Rattle.fast_check_finder_demands.specs.re_exports.Modules.{tables_in, own_tables}
use Rattle.fast_check_finder_demands.specs.re_exports.Origins.{IsIndexOf}
use Rattle.fast_check_finder_demands.specs.re_exports.Roots.{roots}
use Rattle.fast_check_finder_demands.specs.re_exports.ReExports.{node_ranges, re_export_ranges}
use Rattle.fast_check_finder_demands.specs.declared.re_exports.origins.ReExportIndex.{ReExportIndex}
use Rattle.fast_check_finder_demands.proofs.asked.Maps.{some_is}
use Rattle.fast_check_finder_ranges.specs.findings.Yields.{Yield}
use Rattle.fast_check_finder_demands.specs.asked.Demands.{Text, to_symbol}
use Rattle.fast_check_finder_loop.specs.declared.demand.Place.{Place}
use Rattle.fast_check_finder_loop.specs.declared.finder.Finder.{Finder}
use Rattle.fast_check_finder_loop.specs.declared.finder.FollowedModule.{FollowedModule}
use Rattle.fast_check_finder_loop.specs.Turn.{AreSame}
use Rattle.fast_check_finder_loop.specs.Finder.{Followed, place_nv, place_text, followed_yields, traced_in, AsksEach, AreAliasesAsked, AreShown, Shows, IsModuleOf, IsSound, Goes}
use Rattle.fast_check_finder_loop.specs.Rules.{own_text}
use Rattle.fast_check_finder_loop.specs.Yields.{public_at, implementing_at, faults_at}
use Rattle.fast_check_finder_loop.proofs.Steps.{same_itself}
use Rattle.fast_check_finder_loop.proofs.SymbolsAsked.{TellsPlaces}
use Rattle.fast_check_finder_loop.proofs.Gained.{get_in, parts, parts_of, parts_joins, ranges_join}
use Rattle.fast_check_finder_loop.proofs.Followed.{IsFurther, further_goes}

-- what holds of the value of a call that went well, by what holds where it goes well
pub with_ok : {T E A B C D : Type 0} (r : Result T E) {P Q : T → Type 0} → IfOk r P → OnOk r A → OnOk r B → OnOk r C → OnOk r D →
    ((x : T) → P x → A → B → C → D → Q x) → IfOk r Q
with_ok (Ok x) p a b c d f = f x p a b c d
with_ok (Err e) p a b c d f = tt

-- and the entry of a value
pub value_in : {K X : Type 0} (es : List (K × X)) (i : ℕ) (x : X) → slice_get (values_of es) i ≡ Some x →
    (k : K) × (slice_get es i ≡ Some (k, x))
value_in [] i x h = absurd (none-some x h)
value_in (y ∷ ys) zero x h = (y.0, ap (λ z. Some (y.0, z)) (some_is y.1 x h))
value_in (y ∷ ys) (suc i) x h = value_in ys i x h

module _ (g : ModuleGraph) (r : RootSymbol) (f b : Finder) (sound : IsSound g r f) (place : ℕ) (e : Followed)
    (here : slice_get f.modules.entries place ≡ Some e) (m : FollowedModule) (further : IsFurther g r f b sound place e here m)
    (eq : Place → Place → Bool) (tells : TellsPlaces eq) (unique : IsDistinct eq (keys_of f.modules.entries))
    (info : m.found.info.now ≡ e.1.found.info.now) where
  abbrev t : GraphModule
  t = traced_in g r e.1.found.info.now

  own : IsModuleOf g r e
  own = sound.modules e (get_in f.modules.entries place e here)

  -- the module is the same
  still : IfSome m.index (IsIndexOf t) → AreShown m → AreAliasesAsked m → IsModuleOf g r (e.0, m)
  still index shown aliases = record {
    named = own.named ∙ ap Some (sym info);
    own = own.own ∙ ap (λ (i : AnyModuleInfo). serialize (specifier_of i)) (sym info);
    index = subst (λ (i : AnyModuleInfo). IfSome m.index (IsIndexOf (traced_in g r i))) (sym info) index;
    shown = shown;
    aliases = aliases;
  }

  -- what it gives is of the same module
  new_parts : followed_yields (e.0, m) ≡ parts (place_nv e) t m.found.ranges.items m.found.implementations.items (map fault_seen m.found.faults.items)
  new_parts = parts_of g r (place_nv e) m.found ∙ ap (λ (i : AnyModuleInfo). parts (place_nv e) (traced_in g r i) m.found.ranges.items
      m.found.implementations.items (map fault_seen m.found.faults.items)) info

  by_own_text : (ds : List SymbolDemand) (ys : List Yield) → Goes g r (map (to_symbol (place_nv e) (place_text e)) ds) ys f b →
      Goes g r (map (to_symbol (place_nv e) (own_text t)) ds) ys f b
  by_own_text ds ys goes = subst (λ (x : Text). Goes g r (map (to_symbol (place_nv e) x) ds) ys f b) own.own goes

  pub symbol_within : (s : SymbolDemand) (ds : List SymbolDemand) → AreSame ds (names (own_tables t) s) →
      AsksEach place ds e.1.asked m.asked f.symbols.items b.symbols.items → m.found.ranges.items ≡ e.1.found.ranges.items ++ ranges (own_tables t) s →
      m.found.implementations.items ≡ e.1.found.implementations.items ++ implementations (own_tables t) s →
      map fault_seen m.found.faults.items ≡ map fault_seen e.1.found.faults.items ++ faults (own_tables t) s →
      m.index ≡ e.1.index → m.shows_all ≡ e.1.shows_all → AreAliasesAsked m →
      Goes g r (map (to_symbol (place_nv e) (own_text t)) (names (own_tables t) s))
      (public_at (place_nv e) t (ranges (own_tables t) s) ++ (implementing_at (place_nv e) t (implementations (own_tables t) s) ++
      faults_at (place_nv e) t (faults (own_tables t) s))) f b
  symbol_within s ds same asks more_ranges more_implementations more_faults index shows aliases = by_own_text (names (own_tables t) s) gained
      (further_goes g r f b sound place e here m further
      (still (subst (λ (o : Option ReExportIndex). IfSome o (IsIndexOf t)) (sym index) own.index) shown aliases)
      eq tells unique ds (names (own_tables t) s) gained same asks joins)
    where
      old : List Yield
      old = parts (place_nv e) t e.1.found.ranges.items e.1.found.implementations.items (map fault_seen e.1.found.faults.items)

      gained : List Yield
      gained = public_at (place_nv e) t (ranges (own_tables t) s) ++ (implementing_at (place_nv e) t (implementations (own_tables t) s) ++
          faults_at (place_nv e) t (faults (own_tables t) s))

      shown : AreShown m
      shown h x c = subst (λ (rs : List SourceRange). Contains rs x) (sym more_ranges)
          (Contains-append_left e.1.found.ranges.items (ranges (own_tables t) s) x
          (own.shown (sym shows ∙ h) x (subst (λ (i : AnyModuleInfo). Contains (node_ranges (tables_in i).re_exports) x) info c)))

      joins : Joins gained (followed_yields e) (followed_yields (e.0, m))
      joins = subst (λ (ys : List Yield). Joins gained ys (followed_yields (e.0, m))) (sym (parts_of g r (place_nv e) e.1.found))
          (subst (λ (ys : List Yield). Joins gained old ys) (sym new_parts)
          (parts_joins (place_nv e) t e.1.found.ranges.items (ranges (own_tables t) s) m.found.ranges.items e.1.found.implementations.items
          (implementations (own_tables t) s) m.found.implementations.items (map fault_seen e.1.found.faults.items) (faults (own_tables t) s)
          (map fault_seen m.found.faults.items) more_ranges more_implementations more_faults))

  pub names_within : (d : NameDemand) → AsksEach place (roots (own_tables t) d) e.1.asked m.asked f.symbols.items b.symbols.items →
      Shows (re_export_ranges t d) e.1 m → IfSome m.index (IsIndexOf t) → AreAliasesAsked m →
      Goes g r (map (to_symbol (place_nv e) (own_text t)) (roots (own_tables t) d)) (public_at (place_nv e) t (re_export_ranges t d)) f b
  names_within d asks shows index aliases = by_own_text (roots (own_tables t) d) (public_at (place_nv e) t (re_export_ranges t d))
      (further_goes g r f b sound place e here m further (still index shows.shown aliases) eq tells unique (roots (own_tables t) d) (roots (own_tables t) d)
      (public_at (place_nv e) t (re_export_ranges t d)) (same_itself (roots (own_tables t) d)) asks joins)
    where
      new_is : followed_yields (e.0, m) ≡ parts (place_nv e) t m.found.ranges.items e.1.found.implementations.items (map fault_seen e.1.found.faults.items)
      new_is = new_parts ∙
          (ap (λ (rs : List SourceRange). parts (place_nv e) t m.found.ranges.items rs (map fault_seen m.found.faults.items)) shows.implementations ∙
          ap (λ (fs : List SymbolFault). parts (place_nv e) t m.found.ranges.items e.1.found.implementations.items (map fault_seen fs)) shows.faults)

      joins : Joins (public_at (place_nv e) t (re_export_ranges t d)) (followed_yields e) (followed_yields (e.0, m))
      joins = subst (λ (ys : List Yield). Joins (public_at (place_nv e) t (re_export_ranges t d)) ys (followed_yields (e.0, m)))
          (sym (parts_of g r (place_nv e) e.1.found))
          (subst (λ (ys : List Yield). Joins (public_at (place_nv e) t (re_export_ranges t d))
          (parts (place_nv e) t e.1.found.ranges.items e.1.found.implementations.items (map fault_seen e.1.found.faults.items)) ys) (sym new_is)
          (ranges_join (place_nv e) t (re_export_ranges t d) e.1.found.ranges.items m.found.ranges.items e.1.found.implementations.items
          (map fault_seen e.1.found.faults.items) shows.ranges))
