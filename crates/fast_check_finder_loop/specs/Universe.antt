-- Inner: no contract of a public call cites what stands here.
-- All demands of symbols that are made of given ids and paths.
use Rattle.std.specs.Prelude.{List, [], ◌∷◌, ◌++◌, map, ⊤}
use Rattle.std.specs.List.{flat_map, Contains}
use Rattle.fast_check_finder_lattice.specs.Names.{Path}
use Rattle.fast_check_tables_symbols.specs.declared.symbol_id.SymbolId.{SymbolId}
use Rattle.fast_check_tables_symbols.specs.declared.symbol.Symbol.{Symbol}
use Rattle.fast_check_tables_symbols.specs.Symbols.{mentioned_by}
use Rattle.fast_check_tables_symbols.specs.Tables.{Tables}
use Rattle.fast_check_finder_demands.specs.declared.symbol_demands.demand.Namespaces.{Namespaces}
use Rattle.fast_check_finder_demands.specs.declared.symbol_demands.demand.Namespaces.TheVariants.{Value, Type_, Both}
use Rattle.fast_check_finder_demands.specs.declared.symbol_demands.demand.Extent.TheVariants.{Touched, Whole}
use Rattle.fast_check_finder_demands.specs.symbol_demands.Demands.{Demand, Asked, by_reference, as_child, by_path}

-- the ids that the tables of a module mention

abbrev pub symbol_ids : Symbol → List SymbolId
symbol_ids s = s.id ∷ mentioned_by s

abbrev pub table_ids : Tables → List SymbolId
table_ids t = t.module_symbol ∷ flat_map symbol_ids t.symbols

-- what may be asked for of a symbol
abbrev pub both_extents : Path → List Asked
both_extents p = by_path p Touched ∷ by_path p Whole ∷ []

abbrev pub in_namespaces : Namespaces → List Asked
in_namespaces n = by_reference n ∷ as_child n ∷ []

abbrev pub without_path : List Asked
without_path = in_namespaces Value ++ (in_namespaces Type_ ++ in_namespaces Both)

abbrev pub asks : List Path → List Asked
asks paths = without_path ++ flat_map both_extents paths

-- by each of these ids
abbrev pub asks_of : SymbolId → List Asked → SymbolId → List Demand
asks_of symbol asked referrer = map (λ a. record { symbol = symbol; asked = a; referrer = referrer }) asked

unfoldable pub demands_among : List SymbolId → List Path → List Demand
demands_among ids paths = flat_map (λ symbol. flat_map (asks_of symbol (asks paths)) ids) ids

-- a demand is one of them
abbrev pub IsAskedAmong : List Path → Asked → Type 0
IsAskedAmong paths (by_reference n) = ⊤
IsAskedAmong paths (as_child n) = ⊤
IsAskedAmong paths (by_path p x) = Contains paths p

pub record IsAmong (ids : List SymbolId) (paths : List Path) (d : Demand) : Type 0 where
  pub symbol : Contains ids d.symbol
  pub referrer : Contains ids d.referrer
  pub asked : IsAskedAmong paths d.asked
