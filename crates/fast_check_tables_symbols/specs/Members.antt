-- The members of a symbol, by their names.
use Rattle.std.specs.Prelude.{◌≡◌, ℕ, Bool, false, ◌==◌, List, length, slice_get, Option, Some, None, String}
use Rattle.std.specs.Prelude.{string_bytes}
use Rattle.std.specs.declared.alloc.Global.{Global}
use Rattle.std.specs.BTreeMap.{BTreeMap, get}
use Rattle.std.specs.List.{find}
use Rattle.std.specs.Option.{option_and_then}
use Rattle.std.specs.Ordering.{nat_cmp}
use Rattle.std.specs.Str.{bytes_eq}
use Rattle.fast_check_tables_symbols.specs.declared.members.MemberIndexes.{MemberIndexes}
use Rattle.fast_check_tables_symbols.specs.declared.symbol_id.SymbolId.{SymbolId}
use Rattle.fast_check_tables_symbols.specs.declared.symbol.Symbol.{Symbol}
use Rattle.fast_check_tables_symbols.specs.Exports.{export_named}
use Rattle.fast_check_tables_symbols.specs.Symbols.{symbol_of, place_of}

-- a symbol has a name
abbrev pub is_named : List ℕ → Option (String Global) → Bool
is_named name None = false
is_named name (Some text) = bytes_eq (string_bytes text) name

abbrev pub symbol_is_named : List ℕ → Option Symbol → Bool
symbol_is_named name None = false
symbol_is_named name (Some s) = is_named name s.maybe_name

-- of the symbols of some ids the first that has a name
abbrev pub first_named : List Symbol → List ℕ → List SymbolId → Option SymbolId
first_named symbols name ids = find (λ id. symbol_is_named name (symbol_of id symbols)) ids

-- the member of a name of a symbol
abbrev pub named_member : List Symbol → List ℕ → Option Symbol → Option SymbolId
named_member symbols name = option_and_then (λ s. first_named symbols name s.members.items)

-- an index has the first of each name among the symbols of some ids
pub record IsNameIndex (symbols : List Symbol) (ids : List SymbolId) (index : List (List ℕ × SymbolId)) : Type 0 where
  pub says : (name : List ℕ) → export_named name index ≡ first_named symbols name ids

-- the first symbol that has the name of a symbol, whose number stands for the name
abbrev pub namesake : List (List ℕ × SymbolId) → Symbol → Option SymbolId
namesake names s = option_and_then (λ text. export_named (string_bytes text) names) s.maybe_name

-- the same of the symbol of an id, where those of all symbols are noted
abbrev pub namesake_of : List Symbol → List (Option SymbolId) → SymbolId → Option SymbolId
namesake_of symbols namesakes id = option_and_then (λ place. option_and_then (λ n. n) (slice_get namesakes place))
    (place_of id symbols)

abbrev pub is_number : ℕ → Option SymbolId → Bool
is_number number None = false
is_number number (Some id) = id.0 == number

-- of the symbols of some ids the first whose name has a number
abbrev pub first_numbered : List Symbol → List (Option SymbolId) → ℕ → List SymbolId → Option SymbolId
first_numbered symbols namesakes number ids = find (λ id. is_number number (namesake_of symbols namesakes id)) ids

-- an index has the first of each name among the symbols of some ids, by the number of the name
pub record IsNumberIndex (symbols : List Symbol) (namesakes : List (Option SymbolId)) (ids : List SymbolId)
    (index : BTreeMap ℕ SymbolId) : Type 0 where
  pub says : (number : ℕ) → get nat_cmp index number ≡ first_numbered symbols namesakes number ids

-- the same of the members of each of some symbols
pub record AreNumberIndexes (symbols : List Symbol) (namesakes : List (Option SymbolId)) (some : List Symbol)
    (indexes : List (BTreeMap ℕ SymbolId)) : Type 0 where
  pub each : length indexes ≡ length some
  pub says : (place number : ℕ)
      → option_and_then (λ index. get nat_cmp index number) (slice_get indexes place)
      ≡ option_and_then (λ s. first_numbered symbols namesakes number s.members.items) (slice_get some place)

-- the member that indexes have at a place, by its name
abbrev pub member_at : MemberIndexes → List ℕ → ℕ → Option SymbolId
member_at m name place = option_and_then
    (λ index. option_and_then (λ id. get nat_cmp index id.0) (export_named name m.names)) (slice_get m.by_symbol.items place)

-- indexes have the members of each symbol by their names
pub record AreMembersOf (symbols : List Symbol) (m : MemberIndexes) : Type 0 where
  pub says : (place : ℕ) (name : List ℕ) → member_at m name place ≡ named_member symbols name (slice_get symbols place)
