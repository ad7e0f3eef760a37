-- What is known of the objects of expando properties.
use Rattle.std.specs.Prelude.{ℕ, Bool, false, List, Option, Some, None, is_some}
use Rattle.fast_check_tree_syntax.specs.declared.atom.Id.{Id}
use Rattle.fast_check_tables_symbols.specs.declared.symbol.Symbol.{Symbol}
use Rattle.fast_check_tables_symbols.specs.Exports.{export_named}
use Rattle.fast_check_tables_symbols.specs.Symbols.{has_export_keyword}

pub record Objects : Type 0 where
  -- whether the symbol of an identifier exports a name
  pub exports : Id → List ℕ → Bool
  -- whether a declaration of its symbol stands behind the keyword `export`
  pub has_export_keyword : Id → Bool

-- objects of which nothing is known
abbrev pub no_objects : Objects
no_objects = record { exports = λ id name. false; has_export_keyword = λ id. false }

-- whether a symbol, if there is one, exports a name
abbrev pub exports_name : Option Symbol → List ℕ → Bool
exports_name None name = false
exports_name (Some s) name = is_some (export_named name s.exports)

-- whether a declaration of it stands behind the keyword
abbrev pub stands_exported : Option Symbol → Bool
stands_exported None = false
stands_exported (Some s) = has_export_keyword s
