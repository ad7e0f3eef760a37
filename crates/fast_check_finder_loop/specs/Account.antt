-- A list of demands that is closed under what follows, up to cover, and each of which comes from a handed-in package.
use Rattle.std.specs.Prelude.{Bool, false, ◌&&◌, ◌||◌, List, IsTrue}
use Rattle.std.specs.List.{list_any, Contains}
use Rattle.std.specs.Str.{bytes_eq}
use Rattle.fast_check_tables_packages.specs.Package.{Nv}
use Rattle.fast_check_finder_lattice.specs.Names.{NameSet, IsBelow}
use Rattle.fast_check_finder_lattice.specs.Imports.{NameDemand}
use Rattle.fast_check_finder_demands.specs.symbol_demands.Demands.{Demand as SymbolDemand}
use Rattle.fast_check_finder_demands.specs.Account.{alike, referred, parts}
use Rattle.fast_check_finder_demands.specs.asked.Demands.{Text, same_nv, one, Demand, of_package, of_module}
use Rattle.fast_check_finder_demands.specs.asked.Demands.{of_symbol, Followers, Follows}
pub use Rattle.fast_check_finder_demands.specs.asked.Account.{IsStarred, HasDefault, IsWidening, Chained, root, step, widen, narrow}

abbrev pub Account : Type 0
Account = List Demand

-- the package for which something is demanded
abbrev pub package_of : Demand → Nv
package_of (of_package p) = p
package_of (of_module p t d) = p
package_of (of_symbol p t s) = p

-- the demand is of this package
abbrev pub is_package : Nv → Demand → Bool
is_package p (of_package q) = same_nv p q
is_package p (of_module nv u d) = false
is_package p (of_symbol nv u s) = false

-- the demand asks for names of the module
abbrev pub is_of : Text → Demand → Bool
is_of t (of_package p) = false
is_of t (of_module nv u d) = bytes_eq t u
is_of t (of_symbol nv u s) = false

-- the names of the module for which the demand asks
abbrev pub names_at : Text → Demand → NameSet
names_at t (of_package p) part q = false
names_at t (of_module nv u d) part q = bytes_eq t u && one d part q
names_at t (of_symbol nv u s) part q = false

-- the names of the module for which the demands ask together, for whatever packages
abbrev pub joined : List Demand → Text → NameSet
joined account t part q = list_any (λ x. names_at t x part q) account

-- e asks for what d asks for, or for it by reference where d asks for it as a child
abbrev pub covers : SymbolDemand → SymbolDemand → Bool
covers d e = alike d e || alike (referred d) e

-- the demand asks for this symbol of the module, or for this path below it, in one namespace at least
abbrev pub meets : Nv → Text → SymbolDemand → Demand → Bool
meets nv t s (of_package p) = false
meets nv t s (of_module p u d) = false
meets nv t s (of_symbol p u e) = same_nv nv p && (bytes_eq t u && list_any (covers s) (parts e))

-- A package is covered by itself; a demand of a module by those of its specifier together, if there is one; a demand of
-- a symbol by those of the same package, module and symbol that together have its namespaces.
abbrev pub IsCovered : Account → Demand → Type 0
IsCovered account (of_package p) = IsTrue (list_any (is_package p) account)
IsCovered account (of_module nv t d) = IsTrue (list_any (is_of t) account) × IsBelow (one d) (joined account t)
IsCovered account (of_symbol nv t s) = (x : SymbolDemand) → Contains (parts s) x → IsTrue (list_any (meets nv t x) account)

pub record IsAccount (followers : Followers) (roots : List Nv) (account : Account) : Type 0 where
  pub chained : (d : Demand) → Contains account d → Chained followers roots d
  pub has_roots : (p : Nv) → Contains roots p → IsCovered account (of_package p)
  pub closed : (d e : Demand) → Contains account d → Follows followers d e → IsCovered account e
  pub widened : (p q r : Nv) (t : Text) (a b c : NameDemand) → Contains account (of_module p t a) →
      Contains account (of_module q t b) →
      IsWidening p q a b r c → IsCovered account (of_module r t c)

-- what is demanded is demanded for packages of the account
abbrev pub HasHomes : Account → Type 0
HasHomes account = (d : Demand) → Contains account d → IsTrue (list_any (is_package (package_of d)) account)

-- what was found is what demands of the account give, no more and no less
pub record IsYield {Y : Type 0} (demand_yields : Demand → List Y) (account : Account) (found : List Y) : Type 0 where
  pub sound : (y : Y) → Contains found y → (d : Demand) × Contains account d × Contains (demand_yields d) y
  pub complete : (d : Demand) (y : Y) → Contains account d → Contains (demand_yields d) y → Contains found y
