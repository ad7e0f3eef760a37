-- An index of exports by their names.
use Rattle.std.specs.Prelude.{◌≡◌, ℕ, suc, cond, List, [], ◌∷◌, Option, Some, None, option_map, map}
use Rattle.std.specs.Prelude.{String, string_bytes}
use Rattle.std.specs.BTreeMap.{BTreeMap, get_by_text}
use Rattle.std.specs.Str.{bytes_eq}
use Rattle.std.specs.declared.alloc.Global.{Global}
use Rattle.fast_check_tables_symbols.specs.declared.symbol_id.SymbolId.{SymbolId}

-- the place at which a name stands first
abbrev pub place_named : List ℕ → List (List ℕ × SymbolId) → Option ℕ
place_named name [] = None
place_named name (e ∷ es) = cond (bytes_eq name e.0) (Some 0) (option_map suc (place_named name es))

-- the index has this place of each name, and no other
pub record HasPlaces (entries : List (String Global × SymbolId)) (places : BTreeMap (String Global) ℕ) : Type 0 where
  pub says : (name : List ℕ) → get_by_text places name ≡ place_named name (map (λ e. (string_bytes e.0, e.1)) entries)
