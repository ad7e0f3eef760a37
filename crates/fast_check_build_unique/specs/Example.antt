-- Two inputs that differ by hidden code alone: two versions of a package whose only module exports one function.
use Rattle.std.specs.Prelude.{◌≡◌, Bool, false, List, [], ◌∷◌, IsTrue}
use Rattle.std.specs.List.{Contains}
use Rattle.url.specs.Parts.{Parts, serialize}
use Rattle.fast_check_tree_syntax.specs.declared.source.SourceRange.{SourceRange}
use Rattle.fast_check_tree_syntax.specs.Moves.{Renaming, IsRenaming}
use Rattle.fast_check_tables_packages.specs.Package.{Nv}
use Rattle.fast_check_tables_symbols.specs.declared.symbol.Symbol.{Symbol}
use Rattle.fast_check_tables_symbols.specs.declared.symbol_id.SymbolId.{SymbolId}
use Rattle.fast_check_finder_lattice.specs.Names.{Name}
use Rattle.fast_check_finder_demands.specs.Yields.{ranges, implementations, faults}
use Rattle.fast_check_finder_demands.specs.asked.Demands.{Text}
use Rattle.fast_check_finder_demands.specs.declared.re_exports.modules.GraphModule.{GraphModule}
use Rattle.fast_check_finder_demands.specs.re_exports.Modules.{own_tables}
use Rattle.fast_check_finder_loop.specs.demands.facts.GraphFacts.{Known, untyped_at}
use Rattle.fast_check_finder_unique.specs.Edits.{SymbolRenaming}
use Rattle.fast_check_finder_unique.specs.Example.{ExportsOneFunction, export_demand}
use Rattle.fast_check_build_unique.specs.Moved.{Renamings, is_moved}
use Rattle.fast_check_build_unique.specs.Builds.{DifferHiddenly}

-- the two ids correspond to each other, and to no other id
pub record IsOnlyPair (renames : SymbolId → SymbolId → Bool) (x y : SymbolId) : Type 0 where
  pub pair : IsTrue (renames x y)
  pub to : (z : SymbolId) → IsTrue (renames x z) → z ≡ y
  pub from : (z : SymbolId) → IsTrue (renames z y) → z ≡ x

-- each range of one list corresponds to one of the other
pub record AreMoved (r : Renaming) (xs ys : List SourceRange) : Type 0 where
  pub to : (a : SourceRange) → Contains xs a → (b : SourceRange) × Contains ys b × IsTrue (is_moved r a b)
  pub from : (b : SourceRange) → Contains ys b → (a : SourceRange) × Contains xs a × IsTrue (is_moved r a b)

-- The function has another id and stands at another position, as behind a private class. All else may differ too.
pub record AreTwoVersions (k l : Known) (p : Nv) (url : Parts) (m n : GraphModule) (root_m root_n : Symbol) (name : Name)
    (x y : SymbolId) (renames : SymbolRenaming) (moves : Renamings) : Type 0 where
  pub first : ExportsOneFunction k p url m root_m name x
  pub second : ExportsOneFunction l p url n root_n name y
  pub function : IsOnlyPair (renames (serialize url)) x y
  pub modules : IsOnlyPair (renames (serialize url)) (own_tables m).module_symbol (own_tables n).module_symbol
  pub ranges : AreMoved (moves (serialize url)) (ranges (own_tables m) (export_demand m x))
      (ranges (own_tables n) (export_demand n y))
  pub implementations : AreMoved (moves (serialize url)) (implementations (own_tables m) (export_demand m x))
      (implementations (own_tables n) (export_demand n y))
  pub no_faults : (faults (own_tables m) (export_demand m x) ≡ []) × (faults (own_tables n) (export_demand n y) ≡ [])
  pub typed : (untyped_at k.graph (serialize url) ≡ false) × (untyped_at l.graph (serialize url) ≡ false)
  pub renaming : (t : Text) → IsRenaming (moves t)

abbrev pub TwoVersions : Type 0
TwoVersions = (k l : Known) (p : Nv) (url : Parts) (m n : GraphModule) (root_m root_n : Symbol) (name : Name) (x y : SymbolId)
    (renames : SymbolRenaming) (moves : Renamings) → AreTwoVersions k l p url m n root_m root_n name x y renames moves →
    DifferHiddenly k l (p ∷ []) renames moves
