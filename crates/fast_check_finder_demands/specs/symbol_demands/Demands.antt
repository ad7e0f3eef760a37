-- Demands of the symbols of a module.
use Rattle.std.specs.Prelude.{Bool, ◌==◌}
use Rattle.fast_check_finder_lattice.specs.Names.{Path, path_of}
use Rattle.fast_check_tables_symbols.specs.declared.symbol_id.SymbolId.{SymbolId}
use Rattle.fast_check_finder_demands.specs.declared.symbol_demands.demand.Namespaces.{Namespaces}
use Rattle.fast_check_finder_demands.specs.declared.symbol_demands.demand.Extent.{Extent}
use Rattle.fast_check_finder_demands.specs.declared.symbol_demands.demand.Ask.{Ask}
use Rattle.fast_check_finder_demands.specs.declared.symbol_demands.demand.Ask.TheVariants as asks
use Rattle.fast_check_finder_demands.specs.declared.symbol_demands.demand.SymbolDemand.{SymbolDemand}

-- what is demanded of a symbol: it itself in a set of namespaces, by reference or as a child of the symbol that lists it;
-- or what a path of names below it leads to
pub data Asked : Type 0 where
  by_reference : Namespaces → Asked
  as_child : Namespaces → Asked
  by_path : Path → Extent → Asked

-- and of which symbol, by which
pub record Demand : Type 0 where
  pub symbol : SymbolId
  pub asked : Asked
  pub referrer : SymbolId

abbrev pub same_symbol : SymbolId → SymbolId → Bool
same_symbol a b = a.0 == b.0

-- what a value of the code stands for
abbrev pub asked_of : Ask → Asked
asked_of (asks.Reference namespaces) = by_reference namespaces
asked_of (asks.Child namespaces) = as_child namespaces
asked_of (asks.Path names extent) = by_path (path_of names.now) extent

abbrev pub demand_of : SymbolDemand → Demand
demand_of d = record { symbol = d.symbol; asked = asked_of d.ask; referrer = d.referrer }
