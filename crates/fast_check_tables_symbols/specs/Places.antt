-- An index of symbols by the numbers of their ids.
use Rattle.std.specs.Prelude.{◌≡◌, ℕ, List}
use Rattle.std.specs.BTreeMap.{BTreeMap, get}
use Rattle.std.specs.Ordering.{nat_cmp}
use Rattle.fast_check_tables_symbols.specs.declared.symbol_id.SymbolId.{SymbolId}
use Rattle.fast_check_tables_symbols.specs.declared.symbol.Symbol.{Symbol}
use Rattle.fast_check_tables_symbols.specs.Symbols.{place_of}

-- it has the place of each id's symbol, and no other
pub record IsIndexed (symbols : List Symbol) (places : BTreeMap ℕ ℕ) : Type 0 where
  pub says : (id : SymbolId) → get nat_cmp places id.0 ≡ place_of id symbols
