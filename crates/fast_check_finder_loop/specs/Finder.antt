-- Inner: no contract of a public call cites what stands here.
-- The state of the loop, as what was asked, what of it waits, and what was found.
use Rattle.std.specs.Prelude.{◌≡◌, ◌⊎◌, ℕ, ◌<◌, Bool, None, true, false, ◌&&◌, List, [], ◌∷◌, ◌++◌, Option, Some, map, length, drop, slice_get, option_to_list, IfSome}
use Rattle.std.specs.List.{list_any, flat_map, Contains}
use Rattle.std.specs.Map.{keys_of}
use Rattle.std.specs.Str.{bytes_eq}
use Rattle.url.specs.Parts.{Parts, serialize}
use Rattle.fast_check_tree_syntax.specs.declared.source.SourceRange.{SourceRange}
use Rattle.fast_check_tables_packages.specs.Package.{Nv, nv_of}
use Rattle.fast_check_tables_packages.specs.declared.package.PackageNv.{PackageNv}
use Rattle.fast_check_tables_graph.specs.Root.{specifier_of}
use Rattle.fast_check_tables_graph.specs.declared.graph.ModuleGraph.{ModuleGraph}
use Rattle.fast_check_tables_graph.specs.declared.root_symbol.AnyModuleInfo.{AnyModuleInfo}
use Rattle.fast_check_tables_graph.specs.declared.root_symbol.RootSymbol.{RootSymbol}
use Rattle.fast_check_finder_lattice.specs.declared.lattice.imported_exports.ImportedExports.{ImportedExports}
use Rattle.fast_check_finder_lattice.specs.Traces.{handled}
use Rattle.fast_check_finder_demands.specs.symbol_demands.Demands.{Demand as SymbolDemand, demand_of}
use Rattle.fast_check_finder_demands.specs.Account.{parts}
use Rattle.fast_check_finder_demands.specs.symbol_demands.Passed.{own_names}
use Rattle.fast_check_finder_demands.specs.Yields.{Joins}
use Rattle.fast_check_finder_demands.specs.name_demands.Files.{names_of}
use Rattle.fast_check_finder_demands.specs.declared.re_exports.modules.GraphModule.{GraphModule}
use Rattle.fast_check_finder_demands.specs.re_exports.Modules.{tables_in}
use Rattle.fast_check_finder_demands.specs.re_exports.Origins.{IsIndexOf}
use Rattle.fast_check_finder_demands.specs.re_exports.ReExports.{node_ranges}
use Rattle.fast_check_finder_ranges.specs.findings.Found.{entrance_yields, module_yields, untyped_yields}
use Rattle.fast_check_finder_ranges.specs.findings.Yields.{Yield, dependency}
use Rattle.fast_check_finder_ranges.specs.declared.findings.found.Entrance.{Entrance}
use Rattle.fast_check_finder_demands.specs.asked.Demands.{Text, same_nv, DemandSet, Demand, of_package, of_module, of_symbol}
use Rattle.fast_check_finder_demands.specs.facts.GraphFacts.{Known, named_at, lent}
use Rattle.fast_check_finder_loop.specs.declared.asked.AskedAlias.{AskedAlias}
use Rattle.fast_check_finder_loop.specs.declared.demand.Place.{Place}
use Rattle.fast_check_finder_loop.specs.declared.demand.NamesAt.{NamesAt}
use Rattle.fast_check_finder_loop.specs.declared.demand.SymbolAt.{SymbolAt}
use Rattle.fast_check_finder_loop.specs.declared.demand.Dependency.{Dependency}
use Rattle.fast_check_finder_loop.specs.declared.finder.FollowedModule.{FollowedModule}
use Rattle.fast_check_finder_loop.specs.declared.finder.Finder.{Finder}
use Rattle.fast_check_finder_loop.specs.Asked.{covers, AddsDemand}
use Rattle.fast_check_finder_loop.specs.Once.{AreOnce}
use Rattle.fast_check_finder_loop.specs.Search.{Search, AsksAll}
use Rattle.fast_check_finder_loop.specs.Turn.{AreSame, IsBegun, IsTurn}
use Rattle.fast_check_finder_loop.specs.Rules.{followers}
use Rattle.fast_check_finder_loop.specs.Yields.{dependencies, demand_yields}

-- modules that are followed, each for a package
abbrev pub Followed : Type 0
Followed = Place × FollowedModule

abbrev pub Modules : Type 0
Modules = List Followed

abbrev pub place_nv : Followed → Nv
place_nv e = nv_of e.0.package

abbrev pub place_text : Followed → Text
place_text e = serialize e.0.specifier.now

-- the symbol was asked of the module
abbrev pub has_symbol : Nv → Text → SymbolDemand → Followed → Bool
has_symbol nv t d e = same_nv nv (place_nv e) && (bytes_eq t (place_text e) && list_any (covers d) e.1.asked)

-- what waits

abbrev pub names_seen : NamesAt → Demand
names_seen x = of_module (nv_of x.package) (serialize x.specifier) (names_of x.names)

abbrev pub place_of : Place → Nv × Text
place_of p = (nv_of p.package, serialize p.specifier.now)

abbrev pub places : Modules → List (Nv × Text)
places ms = map place_of (keys_of ms)

abbrev pub seen_at : SymbolAt → ℕ × SymbolDemand
seen_at x = (x.place, demand_of x.demand)

abbrev pub symbol_at : SymbolDemand → Nv × Text → Demand
symbol_at d p = of_symbol p.0 p.1 d

abbrev pub symbols_at : List (Nv × Text) → ℕ × SymbolDemand → List Demand
symbols_at ps x = map (symbol_at x.1) (option_to_list (slice_get ps x.0))

abbrev pub search_in : List Nv → ℕ → List (Parts × ImportedExports) → List Demand → Modules → List (ℕ × SymbolDemand) → Search
search_in packages entered handled names ms symbols = record {
  packages = packages;
  handled = handled;
  symbols = λ nv t d. list_any (has_symbol nv t d) ms;
  waiting = map of_package (drop entered packages) ++ (names ++ flat_map (symbols_at (places ms)) symbols);
}

abbrev pub search_of : Finder → Search
search_of f = search_in (map nv_of f.packages) f.entered (handled f.handled) (map names_seen f.names.items) f.modules.entries
    (map seen_at f.symbols.items)

-- what was found

abbrev pub entered_yields : PackageNv × Entrance → List Yield
entered_yields e = entrance_yields (nv_of e.0) (Some e.1)

abbrev pub entered_nv : PackageNv × Entrance → Nv
entered_nv e = nv_of e.0

abbrev pub depends : Dependency → Yield
depends d = dependency (nv_of d.package) (nv_of d.on)

abbrev pub followed_yields : Followed → List Yield
followed_yields e = module_yields (place_nv e) e.1.found

abbrev pub untyped_yields_of : PackageNv × Parts → List Yield
untyped_yields_of e = untyped_yields (nv_of e.0) e.1

abbrev pub yields_by : List (PackageNv × Entrance) → List Dependency → Modules → List (PackageNv × Parts) → List Yield
yields_by entrances dependencies ms untyped = flat_map entered_yields entrances ++ (map depends dependencies ++
    (flat_map followed_yields ms ++ flat_map untyped_yields_of untyped))

abbrev pub yields_in : Finder → List Yield
yields_in f = yields_by f.entrances.items f.dependencies.keys f.modules.entries f.untyped.items

-- what waits at a place, last
abbrev pub put_at : ℕ → Option SymbolDemand → List (ℕ × SymbolDemand) → List (ℕ × SymbolDemand)
put_at place None waiting = waiting
put_at place (Some d) waiting = waiting ++ (place, d) ∷ []

-- one demand of a symbol of the module at a place is asked, and what of it is new waits
abbrev pub AsksOne : ℕ → SymbolDemand → List SymbolDemand → List SymbolDemand → List SymbolAt → List SymbolAt → Type 0
AsksOne place d a b old new = (fresh : Option SymbolDemand) × AddsDemand d fresh a b × (map seen_at new ≡ put_at place fresh (map seen_at old))

-- each of these
abbrev pub AsksEach : ℕ → List SymbolDemand → List SymbolDemand → List SymbolDemand → List SymbolAt → List SymbolAt → Type 0
AsksEach place [] a b old new = (b ≡ a) × (map seen_at new ≡ map seen_at old)
AsksEach place (d ∷ ds) a b old new = (mid : List SymbolDemand) × (between : List SymbolAt) × AsksOne place d a mid old between ×
    AsksEach place ds mid b between new

-- where a symbol was asked for a path by another, the names of its aliases' own paths were asked for by that one
abbrev pub AreAliasesAsked : FollowedModule → Type 0
AreAliasesAsked m = (a : AskedAlias) → Contains m.aliases.keys a → (d : SymbolDemand) →
    Contains (own_names (tables_in m.found.info.now) a.symbol a.referrer) d → (x : SymbolDemand) → Contains (parts d) x →
    list_any (covers x) m.asked ≡ true

-- these demands were asked for now or before, and what was asked of aliases is noted
pub record AsksOwn (place : ℕ) (own : List SymbolDemand) (a b : FollowedModule) (old new : List SymbolAt) : Type 0 where
  pub asked : List SymbolDemand
  pub are : AreSame asked own
  pub asks : AsksEach place asked a.asked b.asked old new
  pub aliases : AreAliasesAsked b

-- where all re-exports of all were shown, they are public
abbrev pub AreShown : FollowedModule → Type 0
AreShown m = m.shows_all ≡ true → (r : SourceRange) → Contains (node_ranges (tables_in m.found.info.now).re_exports) r →
    Contains m.found.ranges.items r

abbrev pub traced_in : ModuleGraph → RootSymbol → AnyModuleInfo → GraphModule
traced_in g r info = record { graph = lent g; root_symbol = lent r; info = lent info }

-- what is kept of a module is of the module that goes by its name
pub record IsModuleOf (g : ModuleGraph) (r : RootSymbol) (e : Followed) : Type 0 where
  pub named : named_at r (place_text e) ≡ Some e.1.found.info.now
  pub own : place_text e ≡ serialize (specifier_of e.1.found.info.now)
  pub index : IfSome e.1.index (IsIndexOf (traced_in g r e.1.found.info.now))
  pub shown : AreShown e.1
  pub aliases : AreAliasesAsked e.1

pub record IsSound (g : ModuleGraph) (r : RootSymbol) (f : Finder) : Type 0 where
  pub modules : (e : Followed) → Contains f.modules.entries e → IsModuleOf g r e
  pub symbols : (x : SymbolAt) → Contains f.symbols.items x → x.place < length f.modules.entries
  pub once : AreOnce (map nv_of f.packages) f.entered (map entered_nv f.entrances.items)

-- a package can be entered: it was not entered before
abbrev pub CanEnter : Nv → Finder → Type 0
CanEnter nv f = AreOnce (map nv_of f.packages) f.entered (map entered_nv f.entrances.items ++ nv ∷ [])

-- nothing was asked or found of a module
pub record IsNew (i : AnyModuleInfo) (m : FollowedModule) : Type 0 where
  pub info : m.found.info.now ≡ i
  pub asked : m.asked ≡ []
  pub aliases : m.aliases.keys ≡ []
  pub index : m.index ≡ None
  pub shows_all : m.shows_all ≡ false
  pub ranges : m.found.ranges.items ≡ []
  pub implementations : m.found.implementations.items ≡ []
  pub faults : m.found.faults.items ≡ []

-- what was asked of a module stays
pub record KeepsAsked (a b : FollowedModule) : Type 0 where
  pub asked : b.asked ≡ a.asked
  pub aliases : b.aliases ≡ a.aliases
  pub index : b.index ≡ a.index

-- what was found of a module stays
pub record KeepsFound (a b : FollowedModule) : Type 0 where
  pub found : b.found ≡ a.found
  pub index : b.index ≡ a.index
  pub shows_all : b.shows_all ≡ a.shows_all

-- a module that is followed has a place: its own, or a new last one, of which nothing was asked or found
pub record IsPlaced (nv : Nv) (info : AnyModuleInfo) (place : ℕ) (old new : Modules) : Type 0 where
  pub followed : Followed
  pub here : slice_get new place ≡ Some followed
  pub nv_is : place_nv followed ≡ nv
  pub text_is : place_text followed ≡ serialize (specifier_of info)
  pub by : (new ≡ old) ⊎ ((new ≡ old ++ followed ∷ []) × IsNew info followed.1)

-- these ranges are shown, and nothing else changes
pub record Shows (more : List SourceRange) (a b : FollowedModule) : Type 0 where
  pub info : b.found.info ≡ a.found.info
  pub ranges : Joins more a.found.ranges.items b.found.ranges.items
  pub implementations : b.found.implementations.items ≡ a.found.implementations.items
  pub faults : b.found.faults.items ≡ a.found.faults.items
  pub shown : AreShown b

-- these are asked, and this is found
pub record Goes (g : ModuleGraph) (r : RootSymbol) (demand_sets : List DemandSet) (yields : List Yield) (a b : Finder) : Type 0 where
  pub asked : List DemandSet
  pub are : AreSame asked demand_sets
  pub asks : AsksAll asked (search_of a) (search_of b)
  pub found : Joins yields (yields_in a) (yields_in b)
  pub sound : IsSound g r b

-- these are asked and nothing is found, and a package that could be entered still can
pub record OnlyAsks (demand_sets : List DemandSet) (a b : Finder) : Type 0 where
  pub goes : (g : ModuleGraph) (r : RootSymbol) → IsSound g r a → Goes g r demand_sets [] a b
  pub enters : (nv : Nv) → CanEnter nv a → CanEnter nv b

-- these are asked for a package, and the other packages among them are its dependencies
abbrev pub AsksFor : Known → Nv → List DemandSet → Finder → Finder → Type 0
AsksFor k nv demand_sets a b = IsSound k.graph k.root_symbol a → Goes k.graph k.root_symbol demand_sets (dependencies nv demand_sets) a b

-- a demand is followed
abbrev pub Follows : Known → Demand → Finder → Finder → Type 0
Follows k d a b = Goes k.graph k.root_symbol (followers k d) (demand_yields k d) a b

-- these packages are asked, and nothing else
pub record Begins (g : ModuleGraph) (r : RootSymbol) (roots : List Nv) (f : Finder) : Type 0 where
  pub begun : IsBegun roots (search_of f)
  pub found : yields_in f ≡ []
  pub sound : IsSound g r f

-- a demand that waits is followed; what is kept stays right
pub record Turns (k : Known) (a b : Finder) : Type 0 where
  pub turn : IsTurn (followers k) (demand_yields k) (search_of a) (search_of b) (yields_in a) (yields_in b)
  pub sound : IsSound k.graph k.root_symbol b

-- as much is asked and found as before, and nothing waits
pub record Rests (k : Known) (a b : Finder) : Type 0 where
  pub search : search_of b ≡ search_of a
  pub found : yields_in b ≡ yields_in a
  pub none : (search_of b).waiting ≡ []
  pub sound : IsSound k.graph k.root_symbol b

-- a turn, or a rest
abbrev pub TurnsTo : Known → Bool → Finder → Finder → Type 0
TurnsTo k true a b = Turns k a b
TurnsTo k false a b = Rests k a b
