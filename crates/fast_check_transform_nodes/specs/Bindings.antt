-- What is known of the names of a module.
use Rattle.std.specs.Prelude.{Bool, false, Option, Some, None}
use Rattle.fast_check_tree_syntax.specs.declared.atom.Id.{Id}
use Rattle.fast_check_tree_syntax.specs.declared.source.SyntaxContext.{SyntaxContext}
use Rattle.fast_check_tables_symbols.specs.declared.symbol.Symbol.{Symbol}
use Rattle.fast_check_tables_symbols.specs.Symbols.{is_plain_class}
use Rattle.fast_check_tables_symbols.specs.Tables.{Tables, symbol_of_swc}
use Rattle.fast_check_tables_modules.specs.EsModule.{EsModule}
use Rattle.fast_check_meaning_signatures.specs.Bindings.{Bindings}
use Rattle.fast_check_transform_nodes.specs.declared.names.Bindings.{Bindings as Lent}

-- whether there is a symbol, and a declaration of it is of a class without type parameters
abbrev pub is_of_plain_class : Option Symbol → Bool
is_of_plain_class (Some s) = is_plain_class s
is_of_plain_class None = false

-- whether a name is of such a class, by the symbols of identifiers
unfoldable pub names_plain_class : Tables → Id → Bool
names_plain_class tables id = is_of_plain_class (symbol_of_swc tables id)

abbrev pub bindings_by : SyntaxContext → Tables → Bindings
bindings_by unresolved tables = record { unresolved = unresolved; is_plain_class = names_plain_class tables }

-- by its source, and by the symbols of its identifiers
unfoldable pub bindings_of : EsModule → Bindings
bindings_of m = bindings_by m.source.unresolved_context m.tables

-- as the code is lent them
abbrev pub names_of : Lent → Bindings
names_of bindings = bindings_by bindings.unresolved bindings.tables.now
