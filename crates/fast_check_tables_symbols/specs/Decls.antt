-- What declarations say of their symbol.
use Rattle.std.specs.Prelude.{Bool, true, false, ◌&&◌, ◌||◌, List, Option, Some, None}
use Rattle.std.specs.List.{list_any}
use Rattle.fast_check_tables_symbols.specs.declared.decl.SymbolDecl.{SymbolDecl}
use Rattle.fast_check_tables_symbols.specs.declared.decl.SymbolDeclKind.{SymbolDeclKind}
use Rattle.fast_check_tables_symbols.specs.declared.decl.SymbolDeclKind.TheVariants.{Target, QualifiedTarget, FileRef}
use Rattle.fast_check_tables_symbols.specs.declared.decl.SymbolDeclKind.TheVariants.{Definition}
use Rattle.fast_check_tables_symbols.specs.declared.node.SymbolNode.{SymbolNode}

-- the node of a definition, if it has one
abbrev pub definition_of : SymbolDeclKind → Option SymbolNode
definition_of (Definition node) = node
definition_of _ = None

abbrev pub node_says : (SymbolNode → Bool) → Option SymbolNode → Bool
node_says flag None = false
node_says flag (Some node) = flag node

abbrev pub decl_has_export_keyword : SymbolDecl → Bool
decl_has_export_keyword d = node_says (λ n. n.has_export_keyword) (definition_of d.kind)

abbrev pub decl_is_plain_class : SymbolDecl → Bool
decl_is_plain_class d = node_says (λ n. n.is_plain_class_decl) (definition_of d.kind)

abbrev pub is_class_decl : SymbolDecl → Bool
is_class_decl x = node_says (λ n. n.is_class) (definition_of x.kind)

-- a class or a namespace: it has no more names than it lists
abbrev pub is_closed_node : SymbolNode → Bool
is_closed_node n = n.is_class || (n.is_ts_namespace || n.is_default_class_expr)

abbrev pub is_closed_decl : SymbolDecl → Bool
is_closed_decl x = node_says is_closed_node (definition_of x.kind)

-- it stands for something else: another symbol, a part of one, or what a file exports
abbrev pub is_alias : SymbolDeclKind → Bool
is_alias (Target _) = true
is_alias (QualifiedTarget _ _) = true
is_alias (FileRef _ _) = true
is_alias (Definition _) = false

-- it stands behind the keyword `export`, and binds the name as a value or as a type
abbrev pub is_exported_value : SymbolDecl → Bool
is_exported_value x = decl_has_export_keyword x && x.value

abbrev pub is_exported_type : SymbolDecl → Bool
is_exported_type x = decl_has_export_keyword x && x.type_

-- it implements overloads
abbrev pub is_implementation : SymbolDecl → Bool
is_implementation x = x.has_overloads && x.has_body

-- one of the declarations is so
abbrev pub has_alias : List SymbolDecl → Bool
has_alias decls = list_any (λ x. is_alias x.kind) decls

abbrev pub has_class : List SymbolDecl → Bool
has_class decls = list_any is_class_decl decls

abbrev pub is_closed : List SymbolDecl → Bool
is_closed decls = list_any is_closed_decl decls

abbrev pub has_implementation : List SymbolDecl → Bool
has_implementation decls = list_any is_implementation decls
