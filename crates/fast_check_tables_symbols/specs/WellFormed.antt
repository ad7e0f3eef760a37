-- What tables have to meet, and what is wrong with those that do not.
use Rattle.std.specs.Prelude.{◌≡◌, ◌⊎◌, IsTrue, List, [], ◌∷◌, Option, Some, None, String, string_bytes}
use Rattle.std.specs.declared.alloc.Global.{Global}
use Rattle.std.specs.List.{Contains, flat_map}
use Rattle.std.specs.Option.{option_and_then}
use Rattle.std.specs.Str.{bytes_eq}
use Rattle.fast_check_tree_syntax.specs.declared.atom.Id.{Id}
use Rattle.fast_check_tables_symbols.specs.declared.symbol_id.SymbolId.{SymbolId}
use Rattle.fast_check_tables_symbols.specs.declared.symbol.Symbol.{Symbol}
use Rattle.fast_check_tables_symbols.specs.Entries.{last_value}
use Rattle.fast_check_tables_symbols.specs.Symbols.{last_symbols, symbol_of, mentioned_by}
use Rattle.fast_check_tables_symbols.specs.declared.fault.TableFault.{TableFault}
use Rattle.fast_check_tables_symbols.specs.declared.fault.TableFault.TheVariants.{MissingSymbol, SymbolWithoutDecl}
use Rattle.fast_check_tables_symbols.specs.declared.fault.TableFault.TheVariants.{ModuleNotUnderOwnName, ExpandoWithoutSymbol}
use Rattle.fast_check_tables_symbols.specs.declared.fault.TableFault.TheVariants.{OutOfMemory}
use Rattle.fast_check_tables_symbols.specs.declared.tables.ModuleTables.{ModuleTables}
use Rattle.fast_check_tables_symbols.specs.Faults.{needs_declaration}
use Rattle.fast_check_tables_symbols.specs.Tables.{Tables, same_id, symbol_id_of, resolved_export}

-- the symbols that count
abbrev pub symbols_of : ModuleTables → List Symbol
symbols_of t = last_symbols t.symbols.items

-- an id stands in tables: as the module's symbol, in a symbol that counts, or for an identifier, by the last of its entries
abbrev pub IsMentioned : ModuleTables → SymbolId → Type 0
IsMentioned t id =
    Contains (t.module_symbol ∷ flat_map mentioned_by (symbols_of t)) id ⊎
    ((name : Id) × (last_value (same_id name) t.swc_ids.items ≡ Some id))

-- an id is mentioned, and no symbol has it
pub record MissesSymbol (t : ModuleTables) : Type 0 where
  pub id : SymbolId
  pub mentioned : IsMentioned t id
  pub missing : symbol_of id (symbols_of t) ≡ None

-- a symbol that has to have a declaration has none
pub record LacksDeclaration (t : ModuleTables) : Type 0 where
  pub symbol : Symbol
  pub among : Contains (symbols_of t) symbol
  pub needed : IsTrue (needs_declaration t.module_symbol symbol)
  pub undeclared : symbol.decls.items ≡ []

-- the symbol of an identifier, by the last of its entries
abbrev pub bound_symbol : ModuleTables → Id → Option Symbol
bound_symbol t id = option_and_then (λ s. symbol_of s (symbols_of t)) (last_value (same_id id) t.swc_ids.items)

-- the first fault of tables by themselves
abbrev pub IsTableFault : ModuleTables → TableFault → Type 0
IsTableFault t MissingSymbol = MissesSymbol t
IsTableFault t SymbolWithoutDecl = (MissesSymbol t → ⊥) × LacksDeclaration t
IsTableFault t ModuleNotUnderOwnName = ⊥
IsTableFault t ExpandoWithoutSymbol = ⊥
IsTableFault t OutOfMemory = Unit {0}

-- tables without fault
pub record AreWellFormed (t : ModuleTables) : Type 0 where
  pub mentioned_have_symbols : MissesSymbol t → ⊥
  pub symbols_have_declarations : LacksDeclaration t → ⊥

-- what is found in tables is what was handed in, by the last symbol of an id and the last entry of a key
pub record AreMadeOf (t : ModuleTables) (made : Tables) : Type 0 where
  pub symbols : made.symbols ≡ symbols_of t
  pub module_symbol : made.module_symbol ≡ t.module_symbol
  pub swc_ids : (id : Id) → symbol_id_of made id ≡ last_value (same_id id) t.swc_ids.items
  pub re_exports : made.re_exports ≡ t.re_export_all_nodes.items
  pub resolved : (name : String Global)
      → resolved_export made (string_bytes name) ≡ last_value
      (λ k. bytes_eq (string_bytes name) (string_bytes k)) t.resolved_exports.items
