-- The symbol that a JSON value stands for.
use Rattle.std.specs.Prelude.{ℕ, List, [], codes, if◌then◌else◌, Option, Some, None, option_map}
use Rattle.std.specs.Option.{option_map_or}
use Rattle.std.specs.Str.{bytes_eq}
use Rattle.serde_json.specs.Data.{Data}
use Rattle.serde_json.specs.Find.{as_object, as_str}
use Rattle.fast_check_tree_syntax.specs.Shape.{none_range}
use Rattle.fast_check_tables_symbols.specs.declared.symbol_id.SymbolId.{SymbolId}
use Rattle.fast_check_tables_symbols.specs.declared.node.ReferenceNamespace.{ReferenceNamespace}
use Rattle.fast_check_tables_symbols.specs.declared.node.ReferenceNamespace.TheVariants.{Value, Type_, Both}
use Rattle.fast_check_tables_symbols.specs.Exports.{put_export}
use Rattle.fast_check_read.specs.Pieces.{range_of_data}
use Rattle.fast_check_json_tables.specs.graph.Reads.{given, list_of, both_of, or_null, member_or, needed, listed, optional}
use Rattle.fast_check_json_tables.specs.graph.Reads.{flagged, variant_of, id_of, symbol_id_of}
use Rattle.fast_check_json_tables.specs.graph.Gathered.{all_gathered}
use Rattle.fast_check_json_tables.specs.Seen as seen
use Rattle.fast_check_json_tables.specs.Seen.{FileName, Dep, Node, DeclKind, Decl, SeenSymbol}

-- the names of `name.part.part` behind the first
abbrev pub names_of : Data → Option (List (List ℕ))
names_of = list_of as_str

-- ---- what a declaration refers to

-- by the name of its variant
abbrev pub dep_named : List ℕ → Data → Option Dep
dep_named name content =
    if bytes_eq name (codes "Id") then option_map seen.DepId (id_of content)
    else if bytes_eq name (codes "QualifiedId") then option_map (λ p. seen.QualifiedId p.0 p.1)
    (both_of id_of names_of content)
    else if bytes_eq name (codes "ImportType") then option_map (λ p. seen.ImportType p.0 p.1)
    (both_of as_str names_of content)
    else None

abbrev pub dep_of : Data → Option Dep
dep_of value = given (variant_of value) (λ v. dep_named v.0 v.1)

-- a namespace by its name
abbrev pub namespace_named : List ℕ → Option ReferenceNamespace
namespace_named name =
    if bytes_eq name (codes "Value") then Some Value
    else if bytes_eq name (codes "Type_") then Some Type_
    else if bytes_eq name (codes "Both") then Some Both
    else None

abbrev pub namespace_of : Data → Option ReferenceNamespace
namespace_of value = given (as_str value) namespace_named

abbrev pub node_dep_of : Data → Option (Dep × ReferenceNamespace)
node_dep_of = both_of dep_of namespace_of

-- ---- declarations

-- the node of a definition: flags, and what it refers to
abbrev pub node_of : Data → Option Node
node_of value =
    given (as_object value) (λ members.
    given (flagged (codes "is_class") value) (λ is_class.
    given (flagged (codes "is_member") value) (λ is_member.
    given (flagged (codes "is_function") value) (λ is_function.
    given (flagged (codes "is_ts_namespace") value) (λ is_ts_namespace.
    given (flagged (codes "is_default_class_expr") value) (λ is_default_class_expr.
    given (flagged (codes "is_plain_class_decl") value) (λ is_plain_class_decl.
    given (flagged (codes "has_export_keyword") value) (λ has_export_keyword.
    given (listed node_dep_of (codes "deps") value) (λ deps.
    Some (record {
      is_class = is_class;
      is_member = is_member;
      is_function = is_function;
      is_ts_namespace = is_ts_namespace;
      is_default_class_expr = is_default_class_expr;
      is_plain_class_decl = is_plain_class_decl;
      has_export_keyword = has_export_keyword;
      deps = deps;
    }))))))))))

-- what is taken of a file: `"Star"`, or a name
abbrev pub file_name_of : Data → Option FileName
file_name_of value =
    option_map_or (λ text. if bytes_eq text (codes "Star") then Some seen.Star else None) (as_str value)
    (given (variant_of value) (λ v. if bytes_eq v.0 (codes "Name") then option_map seen.Name (as_str v.1) else None))

abbrev pub file_ref_of : Data → Option DeclKind
file_ref_of value =
    given (needed as_str (codes "specifier") value) (λ specifier.
    option_map (λ name. seen.FileRef specifier name) (needed file_name_of (codes "name") value))

-- by the name of its variant
abbrev pub decl_kind_named : List ℕ → Data → Option DeclKind
decl_kind_named name content =
    if bytes_eq name (codes "Target") then option_map seen.Target (id_of content)
    else if bytes_eq name (codes "QualifiedTarget") then option_map (λ p. seen.QualifiedTarget p.0 p.1)
    (both_of id_of names_of content)
    else if bytes_eq name (codes "FileRef") then file_ref_of content
    else if bytes_eq name (codes "Definition") then option_map seen.Definition (or_null node_of content)
    else None

abbrev pub decl_kind_of : Data → Option DeclKind
decl_kind_of value = given (variant_of value) (λ v. decl_kind_named v.0 v.1)

abbrev pub decl_of : Data → Option Decl
decl_of value =
    given (member_or none_range range_of_data (codes "range") value) (λ range.
    given (flagged (codes "value") value) (λ is_value.
    given (flagged (codes "type_") value) (λ type_.
    given (flagged (codes "has_overloads") value) (λ has_overloads.
    given (flagged (codes "has_body") value) (λ has_body.
    option_map (λ kind. record {
      range = range;
      value = is_value;
      type_ = type_;
      has_overloads = has_overloads;
      has_body = has_body;
      kind = kind;
    }) (needed decl_kind_of (codes "kind") value))))))

-- ---- symbols

abbrev pub export_of : Data → Option (List ℕ × SymbolId)
export_of = both_of as_str symbol_id_of

-- names with their symbols, put one after another: of entries with one name the last counts
abbrev pub exports_of : Data → Option (List (List ℕ × SymbolId))
exports_of value = option_map (all_gathered (λ exports e. put_export e.0 e.1 exports) []) (list_of export_of value)

abbrev pub symbol_of : Data → Option SeenSymbol
symbol_of value =
    given (needed symbol_id_of (codes "id") value) (λ id.
    given (optional symbol_id_of (codes "parent_id") value) (λ parent_id.
    given (flagged (codes "is_private_member") value) (λ is_private_member.
    given (optional as_str (codes "maybe_name") value) (λ maybe_name.
    given (optional as_str (codes "qualified_name") value) (λ qualified_name.
    given (member_or [] exports_of (codes "exports") value) (λ exports.
    given (listed symbol_id_of (codes "members") value) (λ members.
    option_map (λ decls. record {
      id = id;
      parent_id = parent_id;
      is_private_member = is_private_member;
      maybe_name = maybe_name;
      qualified_name = qualified_name;
      exports = exports;
      members = members;
      decls = decls;
    }) (listed decl_of (codes "decls") value))))))))
