-- Inner: no contract of a public call cites what stands here.
-- How much can still be asked.
use Rattle.std.specs.Prelude.{ℕ, ◌+◌, IsTrue, List, [], ◌∷◌, length}
use Rattle.std.specs.List.{list_any, Contains}
use Rattle.fast_check_tables_packages.specs.Package.{Nv}
use Rattle.fast_check_finder_lattice.specs.Names.{Path}
use Rattle.fast_check_finder_lattice.specs.Imports.{default_name, NameDemand}
use Rattle.fast_check_finder_demands.specs.symbol_demands.Demands.{Demand as SymbolDemand}
use Rattle.fast_check_finder_demands.specs.Account.{parts}
use Rattle.fast_check_finder_demands.specs.asked.Demands.{Text, same_nv, DemandSet, to_package, to_module, to_symbol, Demand}
use Rattle.fast_check_finder_demands.specs.asked.Demands.{of_package, of_module, of_symbol, Followers}
use Rattle.fast_check_finder_loop.specs.Search.{Search, handled_at}
pub use Rattle.fast_check_finder_demands.specs.asked.Measure.{IsWithin, total, cost, missing, rank}

-- all that can be demanded: packages, specifiers, paths of names below a module, and demands of symbols
pub record Universe : Type 0 where
  pub packages : List Nv
  pub texts : List Text
  pub paths : List Path
  pub own_texts : List Text
  pub symbols : List SymbolDemand

abbrev pub IsInside : Universe → Demand → Type 0
IsInside u (of_package p) = Contains u.packages p
IsInside u (of_module p t d) = Contains u.packages p × Contains u.texts t × IsWithin u.paths d
IsInside u (of_symbol p t s) = Contains u.packages p × Contains u.own_texts t × Contains u.symbols s

-- a set is inside with all its demands
abbrev pub IsSetInside : Universe → DemandSet → Type 0
IsSetInside u (to_package p) = Contains u.packages p
IsSetInside u (to_module p t w) = Contains u.packages p × Contains u.texts t × ((d : NameDemand) → IsTrue (w d) → IsWithin u.paths d)
IsSetInside u (to_symbol p t s) = Contains u.packages p × Contains u.own_texts t × Contains u.symbols s

-- what follows from what is inside is inside
pub record IsUniverse (followers : Followers) (roots : List Nv) (u : Universe) : Type 0 where
  pub has_roots : (p : Nv) → Contains roots p → Contains u.packages p
  pub default : Contains u.paths (default_name ∷ [])
  pub empty : Contains u.paths []
  pub closed : (d : Demand) (w : DemandSet) → IsInside u d → Contains (followers d) w → IsSetInside u w
  pub narrowed : (d x : SymbolDemand) → Contains u.symbols d → Contains (parts d) x → Contains u.symbols x

unfoldable pub ranks : Universe → Search → ℕ
ranks u s = total (λ t. rank u.paths (handled_at s.handled t)) u.texts

-- how many packages were not asked for
unfoldable pub packages_left : Universe → Search → ℕ
packages_left u s = total (λ p. cost (list_any (same_nv p) s.packages)) u.packages

-- how many demands of symbols were not asked for, of each package and module
unfoldable pub symbols_left : Universe → Search → ℕ
symbols_left u s = total (λ p. total (λ t. total (λ d. cost (s.symbols p t d)) u.symbols) u.own_texts) u.packages

-- what can be new, and what waits
unfoldable pub left : Universe → Search → ℕ
left u s = ranks u s + packages_left u s + symbols_left u s + length s.waiting
