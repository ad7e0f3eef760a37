-- Inner: no contract of a public call cites what stands here.
-- What holds between two turns of the loop.
use Rattle.std.specs.Prelude.{◌≡◌, ◌++◌, List, Some, IsTrue}
use Rattle.std.specs.List.{Contains, list_any}
use Rattle.fast_check_tables_packages.specs.Package.{Nv}
use Rattle.fast_check_finder_lattice.specs.declared.lattice.imported_exports.ImportedExports.{ImportedExports}
use Rattle.fast_check_finder_lattice.specs.Names.{IsBelow}
use Rattle.fast_check_finder_lattice.specs.Imports.{imported, is_star, NameDemand}
use Rattle.fast_check_finder_demands.specs.symbol_demands.Demands.{Demand as SymbolDemand}
use Rattle.fast_check_finder_demands.specs.Yields.{Joins}
use Rattle.fast_check_finder_demands.specs.asked.Demands.{Text, same_nv, DemandSet, to_package, Demand, of_package, of_module, Followers, Follows}
use Rattle.fast_check_finder_loop.specs.Account.{is_package, is_of, meets, joined, Chained, IsStarred, IsYield}
use Rattle.fast_check_finder_loop.specs.Search.{Search, handled_at, IsAsked, IsTaken, AsksAll, IsFresh}

-- the same elements, in any order
pub record AreSame {X : Type 0} (these those : List X) : Type 0 where
  pub sound : (x : X) → Contains these x → Contains those x
  pub complete : (x : X) → Contains those x → Contains these x

-- what follows from a demand was asked for, and what it yields was found
pub record IsFollowed {Y : Type 0} (followers : Followers) (demand_yields : Demand → List Y) (d : Demand) (a b : Search) (old new : List Y) : Type 0 where
  pub demand_sets : List DemandSet
  pub are : AreSame demand_sets (followers d)
  pub asks : AsksAll demand_sets a b
  pub yields : Joins (demand_yields d) old new

-- a demand was taken from what waits, and followed
pub record IsTurn {Y : Type 0} (followers : Followers) (demand_yields : Demand → List Y) (a b : Search) (old new : List Y) : Type 0 where
  pub demand : Demand
  pub mid : Search
  pub taken : IsTaken demand a mid
  pub followed : IsFollowed followers demand_yields demand mid b old new

-- the packages that are handed in were asked for, and nothing else
pub record IsBegun (roots : List Nv) (s : Search) : Type 0 where
  pub first : Search
  pub fresh : IsFresh first
  pub demand_sets : List DemandSet
  pub are : (w : DemandSet) → Contains demand_sets w → (p : Nv) × Contains roots p × (w ≡ to_package p)
  pub all : (p : Nv) → Contains roots p → Contains demand_sets (to_package p)
  pub asks : AsksAll demand_sets first s

-- what was asked: these, and what of it waits
abbrev pub members : List Demand → Search → List Demand
members done s = done ++ s.waiting

-- a star is demanded of the module
abbrev pub HasStar : List Demand → Text → Type 0
HasStar account t = (nv : Nv) × (d : NameDemand) × Contains account (of_module nv t d) × IsStarred d

-- what was asked is chained, and covered by the demands that were followed and those that wait; and these were asked
pub record IsAccounted (followers : Followers) (roots : List Nv) (done : List Demand) (s : Search) : Type 0 where
  pub chained : (d : Demand) → Contains (members done s) d → Chained followers roots d
  pub packages : (p : Nv) → IsTrue (list_any (same_nv p) s.packages) → IsTrue (list_any (is_package p) (members done s))
  pub symbols : (nv : Nv) (t : Text) (d : SymbolDemand) → IsTrue (s.symbols nv t d) →
      IsTrue (list_any (meets nv t d) (members done s))
  pub some : (t : Text) (x : ImportedExports) → handled_at s.handled t ≡ Some x → IsTrue (list_any (is_of t) (members done s))
  pub names : (t : Text) (x : ImportedExports) → handled_at s.handled t ≡ Some x →
      IsBelow (imported x) (joined (members done s) t)
  pub stars : (t : Text) (x : ImportedExports) → handled_at s.handled t ≡ Some x → IsTrue (is_star x) →
      HasStar (members done s) t
  pub below : (d : Demand) → Contains (members done s) d → IsAsked s d

-- these demands were followed: what follows from each was asked, and what they give was found
pub record IsOnTheWay {Y : Type 0} (followers : Followers) (demand_yields : Demand → List Y) (roots : List Nv) (done : List Demand) (s : Search)
    (found : List Y) : Type 0 where
  pub accounted : IsAccounted followers roots done s
  pub has_roots : (p : Nv) → Contains roots p → IsAsked s (of_package p)
  pub closed : (d e : Demand) → Contains done d → Follows followers d e → IsAsked s e
  pub yielded : IsYield demand_yields done found
