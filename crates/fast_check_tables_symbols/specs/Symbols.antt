-- What a symbol says of itself, and how it is found among others.
use Rattle.std.specs.Prelude.{ℕ, Bool, List, ◌++◌, Option, ◌==◌, option_to_list}
use Rattle.std.specs.List.{list_any}
use Rattle.std.specs.Map.{values_of}
use Rattle.fast_check_tables_symbols.specs.declared.symbol_id.SymbolId.{SymbolId}
use Rattle.fast_check_tables_symbols.specs.declared.symbol.Symbol.{Symbol}
use Rattle.fast_check_tables_symbols.specs.Decls.{decl_has_export_keyword, decl_is_plain_class}
use Rattle.fast_check_tables_symbols.specs.Entries.{unreplaced, last_that, last_place}

-- a declaration of it stands behind the keyword `export`
abbrev pub has_export_keyword : Symbol → Bool
has_export_keyword s = list_any decl_has_export_keyword s.decls.items

-- a declaration of it is of a class without type parameters
abbrev pub is_plain_class : Symbol → Bool
is_plain_class s = list_any decl_is_plain_class s.decls.items

-- the ids that it mentions: its parent's, its exports' and its members'
abbrev pub mentioned_by : Symbol → List SymbolId
mentioned_by s = option_to_list s.parent_id ++ (values_of s.exports ++ s.members.items)

abbrev pub has_id : SymbolId → Symbol → Bool
has_id id s = id.0 == s.id.0

-- the symbols that no later one of their id replaces
abbrev pub last_symbols : List Symbol → List Symbol
last_symbols = unreplaced (λ s. has_id s.id)

-- the symbol of an id: the last that has it
abbrev pub symbol_of : SymbolId → List Symbol → Option Symbol
symbol_of id symbols = last_that (has_id id) symbols

-- its place
abbrev pub place_of : SymbolId → List Symbol → Option ℕ
place_of id symbols = last_place (has_id id) symbols
