-- What is known of a module's symbols, re-exports and exports.
use Rattle.std.specs.Prelude.{ℕ, Bool, ◌&&◌, ◌==◌, List, ◌++◌, map, Option, String, string_bytes}
use Rattle.std.specs.declared.alloc.Global.{Global}
use Rattle.std.specs.List.{flat_map}
use Rattle.std.specs.Map.{lookup}
use Rattle.std.specs.Option.{option_and_then}
use Rattle.std.specs.Str.{bytes_eq}
use Rattle.url.specs.Parts.{Parts}
use Rattle.fast_check_tree_syntax.specs.declared.atom.Id.{Id}
use Rattle.fast_check_tree_syntax.specs.declared.source.SourceRange.{SourceRange}
use Rattle.fast_check_tables_symbols.specs.declared.symbol_id.SymbolId.{SymbolId}
use Rattle.fast_check_tables_symbols.specs.declared.symbol.Symbol.{Symbol}
use Rattle.fast_check_tables_symbols.specs.Symbols.{symbol_of}
use Rattle.fast_check_tables_symbols.specs.declared.tables.ReExportAllNode.{ReExportAllNode}

-- the symbols, the one that stands for the module, those of resolved identifiers, the re-exports of all, and the
-- exported names with the modules that answer them
pub record Tables : Type 0 where
  pub symbols : List Symbol
  pub module_symbol : SymbolId
  pub swc_ids : List (Id × SymbolId)
  pub re_exports : List ReExportAllNode
  pub resolved : List (List ℕ × Parts)

-- two identifiers have one text and one scope
abbrev pub same_id : Id → Id → Bool
same_id a b = bytes_eq a.0 b.0 && (a.1.0 == b.1.0)

-- the symbol of an identifier, by its id
abbrev pub symbol_id_of : Tables → Id → Option SymbolId
symbol_id_of t id = lookup (same_id id) t.swc_ids

-- the symbol of an identifier
abbrev pub symbol_of_swc : Tables → Id → Option Symbol
symbol_of_swc t id = option_and_then (λ s. symbol_of s t.symbols) (symbol_id_of t id)

-- the module that answers an exported name
abbrev pub resolved_export : Tables → List ℕ → Option Parts
resolved_export t name = lookup (bytes_eq name) t.resolved

-- exported names by their bytes, each with the module that answers it
abbrev pub answered_names : List (String Global × Parts) → List (List ℕ × Parts)
answered_names = map (λ e. (string_bytes e.0, e.1))

-- the ranges of the declarations and of the re-exports of all
abbrev pub table_ranges : List Symbol → List ReExportAllNode → List SourceRange
table_ranges symbols re_exports = flat_map (λ s. map (λ d. d.range) s.decls.items) symbols ++ map
    (λ n. n.range) re_exports
