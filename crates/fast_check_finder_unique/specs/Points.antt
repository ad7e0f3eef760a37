-- Points: the parts of a demand, each of which has to be covered by one demand of an account.
use Rattle.std.specs.Prelude.{Bool, IsTrue}
use Rattle.std.specs.List.{Contains}
use Rattle.fast_check_tables_packages.specs.Package.{Nv}
use Rattle.fast_check_finder_lattice.specs.Names.{Path, Part}
use Rattle.fast_check_finder_lattice.specs.Imports.{NameDemand}
use Rattle.fast_check_finder_demands.specs.symbol_demands.Demands.{Demand as SymbolDemand}
use Rattle.fast_check_finder_demands.specs.Account.{parts}
use Rattle.fast_check_finder_demands.specs.asked.Demands.{Text, one, Demand, of_package, of_module, of_symbol}
use Rattle.fast_check_finder_loop.specs.Account.{is_package, is_of, names_at, meets}

-- a package; a module, whatever its names; a path of names of a module, touched or whole; a symbol in one namespace, or
-- a path below a symbol
pub data Point : Type 0 where
  at_package : Nv → Point
  at_module : Text → Point
  at_name : Text → Part → Path → Point
  at_symbol : Nv → Text → SymbolDemand → Point

-- whether the demand covers the point
abbrev pub has : Point → Demand → Bool
has (at_package p) d = is_package p d
has (at_module t) d = is_of t d
has (at_name t part q) d = names_at t d part q
has (at_symbol nv t s) d = meets nv t s d

-- the points of a demand: an account covers the demand if it covers each of them
pub data IsPointOf : Demand → Point → Type 0 where
  its_package : {p : Nv} → IsPointOf (of_package p) (at_package p)
  its_module : {p : Nv} {t : Text} {d : NameDemand} → IsPointOf (of_module p t d) (at_module t)
  its_name : {p : Nv} {t : Text} {d : NameDemand} {part : Part} {q : Path} → IsTrue (one d part q) →
      IsPointOf (of_module p t d) (at_name t part q)
  its_symbol : {p : Nv} {t : Text} {s x : SymbolDemand} → Contains (parts s) x →
      IsPointOf (of_symbol p t s) (at_symbol p t x)
