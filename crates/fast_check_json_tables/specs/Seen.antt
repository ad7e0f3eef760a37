-- What contracts see of a module's tables: texts by their bytes, URLs by their parts.
use Rattle.std.specs.Prelude.{ℕ, Bool, List, Option, map, option_map, string_bytes}
use Rattle.url.specs.Parts.{Parts}
use Rattle.fast_check_tree_syntax.specs.declared.atom.Id.{Id}
use Rattle.fast_check_tree_syntax.specs.declared.source.SourceRange.{SourceRange}
use Rattle.fast_check_tables_symbols.specs.declared.file_dep_name.FileDepName.{FileDepName}
use Rattle.fast_check_tables_symbols.specs.declared.file_dep_name.FileDepName.TheVariants as file_dep_names
use Rattle.fast_check_tables_symbols.specs.declared.symbol_id.SymbolId.{SymbolId}
use Rattle.fast_check_tables_symbols.specs.declared.node.ReferenceNamespace.{ReferenceNamespace}
use Rattle.fast_check_tables_symbols.specs.declared.node.SymbolDep.{SymbolDep}
use Rattle.fast_check_tables_symbols.specs.declared.node.SymbolDep.TheVariants as deps
use Rattle.fast_check_tables_symbols.specs.declared.node.SymbolNodeDep.{SymbolNodeDep}
use Rattle.fast_check_tables_symbols.specs.declared.node.SymbolNode.{SymbolNode}
use Rattle.fast_check_tables_symbols.specs.declared.decl.SymbolDecl.{SymbolDecl}
use Rattle.fast_check_tables_symbols.specs.declared.decl.SymbolDeclKind.{SymbolDeclKind}
use Rattle.fast_check_tables_symbols.specs.declared.decl.SymbolDeclKind.TheVariants as kinds
use Rattle.fast_check_tables_symbols.specs.declared.symbol.Symbol.{Symbol}
use Rattle.fast_check_tables_modules.specs.symbols.declared.tables.ModuleTables.{ModuleTables}
use Rattle.fast_check_tables_modules.specs.symbols.declared.tables.ReExportAllNode.{ReExportAllNode}

-- what is taken of a file
pub data FileName : Type 0 where
  Star : FileName
  Name : List ℕ → FileName

abbrev pub file_name : FileDepName → FileName
file_name file_dep_names.Star = Star
file_name (file_dep_names.Name name) = Name (string_bytes name)

-- what a declaration refers to
pub data Dep : Type 0 where
  DepId : Id → Dep
  QualifiedId : Id → List (List ℕ) → Dep
  ImportType : List ℕ → List (List ℕ) → Dep

abbrev pub dep : SymbolDep → Dep
dep (deps.Id id) = DepId id
dep (deps.QualifiedId id parts) = QualifiedId id (map string_bytes parts.items)
dep (deps.ImportType specifier parts) = ImportType (string_bytes specifier) (map string_bytes parts.items)

-- with its namespaces
abbrev pub node_dep : SymbolNodeDep → Dep × ReferenceNamespace
node_dep d = (dep d.dep, d.namespace)

-- the node of a definition
pub record Node : Type 0 where
  pub is_class : Bool
  pub is_member : Bool
  pub is_function : Bool
  pub is_ts_namespace : Bool
  pub is_default_class_expr : Bool
  pub is_plain_class_decl : Bool
  pub has_export_keyword : Bool
  pub deps : List (Dep × ReferenceNamespace)

abbrev pub node : SymbolNode → Node
node n = record {
  is_class = n.is_class;
  is_member = n.is_member;
  is_function = n.is_function;
  is_ts_namespace = n.is_ts_namespace;
  is_default_class_expr = n.is_default_class_expr;
  is_plain_class_decl = n.is_plain_class_decl;
  has_export_keyword = n.has_export_keyword;
  deps = map node_dep n.deps.items;
}

-- what a declaration binds its symbol to
pub data DeclKind : Type 0 where
  Target : Id → DeclKind
  QualifiedTarget : Id → List (List ℕ) → DeclKind
  FileRef : List ℕ → FileName → DeclKind
  Definition : Option Node → DeclKind

abbrev pub decl_kind : SymbolDeclKind → DeclKind
decl_kind (kinds.Target id) = Target id
decl_kind (kinds.QualifiedTarget id parts) = QualifiedTarget id (map string_bytes parts.items)
decl_kind (kinds.FileRef specifier name) = FileRef (string_bytes specifier) (file_name name)
decl_kind (kinds.Definition n) = Definition (option_map node n)

pub record Decl : Type 0 where
  pub range : SourceRange
  pub value : Bool
  pub type_ : Bool
  pub has_overloads : Bool
  pub has_body : Bool
  pub kind : DeclKind

abbrev pub decl : SymbolDecl → Decl
decl d = record {
  range = d.range;
  value = d.value;
  type_ = d.type_;
  has_overloads = d.has_overloads;
  has_body = d.has_body;
  kind = decl_kind d.kind;
}

pub record SeenSymbol : Type 0 where
  pub id : SymbolId
  pub parent_id : Option SymbolId
  pub is_private_member : Bool
  pub maybe_name : Option (List ℕ)
  pub qualified_name : Option (List ℕ)
  pub exports : List (List ℕ × SymbolId)
  pub members : List SymbolId
  pub decls : List Decl

abbrev pub symbol : Symbol → SeenSymbol
symbol s = record {
  id = s.id;
  parent_id = s.parent_id;
  is_private_member = s.is_private_member;
  maybe_name = option_map string_bytes s.maybe_name;
  qualified_name = option_map string_bytes s.qualified_name;
  exports = s.exports;
  members = s.members.items;
  decls = map decl s.decls.items;
}

-- a re-export of all: its range and its source text
abbrev pub re_export : ReExportAllNode → SourceRange × List ℕ
re_export n = (n.range, string_bytes n.specifier)

-- the tables of a module, as they are handed in
pub record SeenTables : Type 0 where
  pub symbols : List SeenSymbol
  pub module_symbol : SymbolId
  pub swc_ids : List (Id × SymbolId)
  pub re_export_all_nodes : List (SourceRange × List ℕ)
  pub resolved_exports : List (List ℕ × Parts)

abbrev pub tables : ModuleTables → SeenTables
tables t = record {
  symbols = map symbol t.symbols.items;
  module_symbol = t.module_symbol;
  swc_ids = t.swc_ids.items;
  re_export_all_nodes = map re_export t.re_export_all_nodes.items;
  resolved_exports = map (λ e. (string_bytes e.0, e.1)) t.resolved_exports.items;
}
