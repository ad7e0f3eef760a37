-- Inner: no contract of a public call cites what stands here.
-- What was asked so far, and what of it waits.
use Rattle.std.specs.Prelude.{◌≡◌, ◌⊎◌, ◌+◌, ◌++◌, Bool, true, false, List, [], ◌∷◌, Option, Some, None, length, IsTrue, option_map}
use Rattle.std.specs.List.{list_any, Contains}
use Rattle.std.specs.Map.{lookup}
use Rattle.std.specs.Str.{bytes_eq}
use Rattle.url.specs.Parts.{Parts, serialize}
use Rattle.fast_check_finder_lattice.specs.declared.lattice.imported_exports.ImportedExports.{ImportedExports}
use Rattle.fast_check_finder_lattice.specs.declared.lattice.imported_exports.ImportedExports.TheVariants.{Star, StarWithDefault, Subset}
use Rattle.fast_check_finder_lattice.specs.Names.{IsBelow}
use Rattle.fast_check_finder_lattice.specs.Imports.{default_name, imported, NameDemand, names_but_default, each_name, whole_at}
use Rattle.fast_check_tables_packages.specs.Package.{Nv}
use Rattle.fast_check_finder_lattice.specs.Traces.{is_module, Handles}
use Rattle.fast_check_finder_demands.specs.symbol_demands.Demands.{Demand as SymbolDemand}
use Rattle.fast_check_finder_demands.specs.asked.Demands.{Text, same_nv, asked, asked_by, one, DemandSet, to_package, to_module, to_symbol}
use Rattle.fast_check_finder_demands.specs.asked.Demands.{Demand, of_package, of_module, of_symbol}
use Rattle.fast_check_finder_demands.specs.Account.{parts}
use Rattle.fast_check_finder_loop.specs.Account.{meets}
pub use Rattle.fast_check_finder_demands.specs.asked.State.{has_path, was_told}

-- the packages that were asked for, in the order in which they came; what was asked of each module; whether a demand of
-- a symbol in one namespace, or of a path, is met by one that was asked for; and what waits
pub record Search : Type 0 where
  pub packages : List Nv
  pub handled : List (Parts × ImportedExports)
  pub symbols : Nv → Text → SymbolDemand → Bool
  pub waiting : List Demand

-- what was asked so far of the module
abbrev pub handled_at : List (Parts × ImportedExports) → Text → Option ImportedExports
handled_at handled t = lookup (λ k. bytes_eq t (serialize k)) handled

-- the demand was asked
abbrev pub IsAsked : Search → Demand → Type 0
IsAsked s (of_package p) = IsTrue (list_any (same_nv p) s.packages)
IsAsked s (of_module nv t d) = (x : ImportedExports) × (handled_at s.handled t ≡ Some x) × IsBelow (one d) (imported x)
IsAsked s (of_symbol nv t d) = (x : SymbolDemand) → Contains (parts d) x → IsTrue (s.symbols nv t x)

-- the same demands of symbols are met
abbrev pub MeetsSame : Search → Search → Type 0
MeetsSame a b = (nv : Nv) (t : Text) (d : SymbolDemand) → b.symbols nv t d ≡ a.symbols nv t d

-- new is old with one more element, somewhere
pub record IsPut {X : Type 0} (x : X) (old new : List X) : Type 0 where
  pub sound : (y : X) → Contains new y → Contains old y ⊎ (x ≡ y)
  pub kept : (y : X) → Contains old y → Contains new y
  pub here : Contains new x
  pub count : length new ≡ length old + 1

-- a demand that waited waits no more
pub record IsTaken (d : Demand) (a b : Search) : Type 0 where
  pub packages : b.packages ≡ a.packages
  pub handled : b.handled ≡ a.handled
  pub symbols : MeetsSame a b
  pub waits : IsPut d b.waiting a.waiting

-- packages

-- a package was asked for before, or comes last and waits
abbrev pub IsPackagePut : Nv → Search → Search → Type 0
IsPackagePut p a b = (IsTrue (list_any (same_nv p) a.packages) × (b.packages ≡ a.packages) × (b.waiting ≡ a.waiting)) ⊎
    ((list_any (same_nv p) a.packages ≡ false) × (b.packages ≡ a.packages ++ p ∷ []) × IsPut (of_package p) a.waiting b.waiting)

pub record AsksPackage (p : Nv) (a b : Search) : Type 0 where
  pub handled : b.handled ≡ a.handled
  pub symbols : MeetsSame a b
  pub put : IsPackagePut p a b

-- symbols

-- one demand more was asked, of which e was not asked before: it meets what it meets, and nothing else comes to be met
pub record IsMarked (nv : Nv) (t : Text) (d e : SymbolDemand) (a b : Search) : Type 0 where
  pub within : (e ≡ d) ⊎ Contains (parts d) e
  pub was : (x : SymbolDemand) → Contains (parts e) x → a.symbols nv t x ≡ false
  pub now : IsAsked b (of_symbol nv t d)
  pub kept : (p : Nv) (u : Text) (x : SymbolDemand) → IsTrue (a.symbols p u x) → IsTrue (b.symbols p u x)
  pub only : (p : Nv) (u : Text) (x : SymbolDemand) → IsTrue (b.symbols p u x) →
      IsTrue (a.symbols p u x) ⊎ IsTrue (meets p u x (of_symbol nv t e))

-- a demand of a symbol is met by what was asked, or what of it is new waits
abbrev pub IsSymbolPut : Nv → Text → SymbolDemand → Search → Search → Type 0
IsSymbolPut nv t d a b = (IsAsked a (of_symbol nv t d) × MeetsSame a b × (b.waiting ≡ a.waiting)) ⊎
    ((e : SymbolDemand) × IsMarked nv t d e a b × IsPut (of_symbol nv t e) a.waiting b.waiting)

pub record AsksSymbol (nv : Nv) (t : Text) (d : SymbolDemand) (a b : Search) : Type 0 where
  pub packages : b.packages ≡ a.packages
  pub handled : b.handled ≡ a.handled
  pub put : IsSymbolPut nv t d a b

-- names

-- what is new is a star, all names, or `default` beside a star; or the names as they are asked
abbrev pub new_beside : Option ImportedExports → NameDemand → NameDemand
new_beside (Some Star) d = whole_at (default_name ∷ [])
new_beside _ d = d

abbrev pub new_names : Option ImportedExports → NameDemand → ImportedExports → NameDemand
new_names before d Star = names_but_default
new_names before d StarWithDefault = each_name
new_names before d (Subset s) = new_beside before d

-- names that were asked of the module before
pub record WereAsked (url : Parts) (d : NameDemand) (new : Option NameDemand) (old now : List (Parts × ImportedExports)) : Type 0 where
  pub before : was_told (lookup (is_module url) old) d ≡ true
  pub none : new ≡ None
  pub same : now ≡ old

-- names that are added to what was asked of the module, and what of them is new
pub record AreAdded (url : Parts) (d : NameDemand) (new : Option NameDemand) (old now : List (Parts × ImportedExports)) : Type 0 where
  pub exports : ImportedExports
  pub answer : Option ImportedExports
  pub stand : asked exports ≡ asked_by d
  pub handles : Handles old url exports answer now
  pub is : new ≡ option_map (new_names (lookup (is_module url) old) d) answer

abbrev pub AddsNames : Parts → NameDemand → Option NameDemand → List (Parts × ImportedExports) → List (Parts × ImportedExports) →
    Type 0
AddsNames url d new old now = WereAsked url d new old now ⊎ AreAdded url d new old now

-- what is new waits
abbrev pub WaitsFor : Nv → Text → Option NameDemand → List Demand → List Demand → Type 0
WaitsFor nv t None old new = new ≡ old
WaitsFor nv t (Some d) old new = IsPut (of_module nv t d) old new

pub record AsksNames (nv : Nv) (url : Parts) (d : NameDemand) (a b : Search) : Type 0 where
  pub packages : b.packages ≡ a.packages
  pub symbols : MeetsSame a b
  pub new : Option NameDemand
  pub added : AddsNames url d new a.handled b.handled
  pub waits : WaitsFor nv (serialize url) new a.waiting b.waiting

-- all

-- a set of demands is asked for. Names are asked for at once, by the demand that stands for them
abbrev pub Asks : DemandSet → Search → Search → Type 0
Asks (to_package p) a b = AsksPackage p a b
Asks (to_module p t w) a b = (url : Parts) × (d : NameDemand) × (serialize url ≡ t) × (asked_by d ≡ w) × IsTrue (asked_by d d) ×
    AsksNames p url d a b
Asks (to_symbol p t s) a b = AsksSymbol p t s a b

-- each of these sets in turn
abbrev pub AsksAll : List DemandSet → Search → Search → Type 0
AsksAll [] a b = b ≡ a
AsksAll (w ∷ ws) a b = (mid : Search) × Asks w a mid × AsksAll ws mid b

-- nothing was asked
pub record IsFresh (s : Search) : Type 0 where
  pub packages : s.packages ≡ []
  pub handled : s.handled ≡ []
  pub symbols : (nv : Nv) (t : Text) (d : SymbolDemand) → s.symbols nv t d ≡ false
  pub waiting : s.waiting ≡ []
