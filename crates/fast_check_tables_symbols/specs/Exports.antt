-- The exports of a symbol, as names with the symbols that they stand for.
use Rattle.std.specs.Prelude.{ℕ, cond, List, [], ◌∷◌, Option}
use Rattle.std.specs.Str.{bytes_eq}
use Rattle.std.specs.Map.{lookup}
use Rattle.std.specs.Borrow.{Bor}
use Rattle.fast_check_tables_symbols.specs.declared.symbol_id.SymbolId.{SymbolId}

-- the symbol of a name
abbrev pub export_named : List ℕ → List (List ℕ × SymbolId) → Option SymbolId
export_named name exports = lookup (bytes_eq name) exports

-- a new name goes last, and one that is there keeps its place
abbrev pub put_export : List ℕ → SymbolId → List (List ℕ × SymbolId) → List (List ℕ × SymbolId)
put_export name id [] = (name, id) ∷ []
put_export name id (e ∷ es) = cond (bytes_eq name e.0) ((e.0, id) ∷ es) (e ∷ put_export name id es)

abbrev pub seen_export : Bor (List ℕ) × SymbolId → List ℕ × SymbolId
seen_export e = (e.0.now, e.1)
