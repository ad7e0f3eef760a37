-- Tests for the faults of tables.
use Rattle.std.specs.Prelude.{ℕ, Bool, false, Option, Some, None, not, ◌&&◌, ◌||◌, ◌==◌, List, length, is_some}
use Rattle.fast_check_tables_symbols.specs.declared.symbol_id.SymbolId.{SymbolId}
use Rattle.fast_check_tables_symbols.specs.declared.symbol.Symbol.{Symbol}
use Rattle.fast_check_tables_symbols.specs.Symbols.{symbol_of}

-- no symbol has an id
abbrev pub is_missing : List Symbol → SymbolId → Bool
is_missing symbols id = not (is_some (symbol_of id symbols))

-- the same of an entry, if there is one
abbrev pub is_missing_entry : List Symbol → Option (List ℕ × SymbolId) → Bool
is_missing_entry symbols None = false
is_missing_entry symbols (Some e) = is_missing symbols e.1

-- a symbol has to have a declaration unless it is the module's, and always where it is a private member
abbrev pub needs_declaration : SymbolId → Symbol → Bool
needs_declaration module_symbol s = not (module_symbol.0 == s.id.0) || s.is_private_member

-- and has none
abbrev pub lacks_declaration : SymbolId → Symbol → Bool
lacks_declaration module_symbol s = (length s.decls.items == 0) && needs_declaration module_symbol s
