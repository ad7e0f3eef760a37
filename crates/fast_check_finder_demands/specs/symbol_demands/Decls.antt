-- What one declaration says of its symbol, for demands.
use Rattle.std.specs.Prelude.{Bool, ◌||◌}
use Rattle.fast_check_tables_symbols.specs.Decls.{definition_of, node_says}
pub use Rattle.fast_check_tables_symbols.specs.Decls.{is_alias, is_class_decl, is_closed_node, is_closed_decl}
pub use Rattle.fast_check_tables_symbols.specs.Decls.{is_implementation, has_alias, has_class, is_closed, has_implementation}
use Rattle.fast_check_tables_symbols.specs.declared.decl.SymbolDecl.{SymbolDecl}
use Rattle.fast_check_finder_demands.specs.declared.symbol_demands.demand.Namespaces.{Namespaces}
use Rattle.fast_check_finder_demands.specs.declared.symbol_demands.demand.Namespaces.TheVariants.{Value, Type_, Both}

-- it binds its name in one of these namespaces
abbrev pub binds : SymbolDecl → Namespaces → Bool
binds x Value = x.value
binds x Type_ = x.type_
binds x Both = x.value || x.type_

abbrev pub is_function : SymbolDecl → Bool
is_function x = node_says (λ n. n.is_function) (definition_of x.kind)
