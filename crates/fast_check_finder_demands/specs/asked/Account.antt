-- How demands come from the packages that are handed in.
use Rattle.std.specs.Prelude.{◌≡◌, List, [], ◌∷◌, ◌⊎◌, IsTrue}
use Rattle.std.specs.List.{Contains}
use Rattle.std.specs.Str.{bytes_eq}
use Rattle.fast_check_tables_packages.specs.Package.{Nv}
use Rattle.fast_check_finder_lattice.specs.Names.{Path}
use Rattle.fast_check_finder_lattice.specs.Imports.{default_name, NameDemand, names_but_default, each_name, subset_at}
use Rattle.fast_check_finder_lattice.specs.Imports.{whole_at}
use Rattle.fast_check_finder_demands.specs.symbol_demands.Demands.{Demand as SymbolDemand}
use Rattle.fast_check_finder_demands.specs.Account.{parts}
use Rattle.fast_check_finder_demands.specs.asked.Demands.{Text, asked_by, Demand, of_package, of_module, of_symbol}
use Rattle.fast_check_finder_demands.specs.asked.Demands.{Followers, Follows}

abbrev pub IsStarred : NameDemand → Type 0
IsStarred names_but_default = Unit {0}
IsStarred each_name = Unit {0}
IsStarred _ = ⊥

abbrev pub BeginsWithDefault : Path → Type 0
BeginsWithDefault [] = ⊥
BeginsWithDefault (n ∷ q) = IsTrue (bytes_eq default_name n)

abbrev pub HasDefault : NameDemand → Type 0
HasDefault names_but_default = ⊥
HasDefault each_name = Unit {0}
HasDefault (subset_at p) = BeginsWithDefault p
HasDefault (whole_at p) = BeginsWithDefault p

-- beside a star, `default` or something below it gives `default` whole and all names, under the package of either
pub record IsWidening (p q : Nv) (a b : NameDemand) (r : Nv) (c : NameDemand) : Type 0 where
  pub starred : IsStarred a
  pub default : HasDefault b
  pub under : (r ≡ p) ⊎ (r ≡ q)
  pub to : IsTrue (asked_by (whole_at (default_name ∷ [])) c) ⊎ (c ≡ each_name)

-- a finite derivation leads from a handed-in package to the demand
pub data Chained (followers : Followers) (roots : List Nv) : Demand → Type 0 where
  root : {p : Nv} → Contains roots p → Chained followers roots (of_package p)
  step : {d e : Demand} → Chained followers roots d → Follows followers d e → Chained followers roots e
  widen : {p q r : Nv} {t : Text} {a b c : NameDemand} → Chained followers roots (of_module p t a) →
      Chained followers roots (of_module q t b) →
      IsWidening p q a b r c → Chained followers roots (of_module r t c)
  narrow : {p : Nv} {t : Text} {d e : SymbolDemand} → Chained followers roots (of_symbol p t d) → Contains (parts d) e →
      Chained followers roots (of_symbol p t e)
