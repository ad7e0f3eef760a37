-- New nodes, which no text stands for: their range is that of no text, their scope number 0, their options empty and
-- their flags false.
use Rattle.std.specs.Prelude.{ℕ, Bool, false, ◌&&◌, List, [], codes}
use Rattle.fast_check_tree_syntax.specs.declared.kind.Word.{Word}
use Rattle.fast_check_tree_syntax.specs.declared.kind.Kind.TheVariants.{TsKeywordType}
use Rattle.fast_check_tree_syntax.specs.declared.kind.Word.TheVariants.{TsAnyKeyword, TsNeverKeyword, TsVoidKeyword}
use Rattle.fast_check_tree_syntax.specs.declared.kind.Word.TheVariants.{ReadOnly, Unique}
use Rattle.fast_check_tree_syntax.specs.declared.tree.Tree as tree
use Rattle.fast_check_tree_syntax.specs.declared.tree.Tree.{Tree, Absent}
use Rattle.fast_check_tree_syntax.specs.Shape.{◌is◌, kind_of, has_word, none_range, list}
use Rattle.fast_check_tree_forms_expressions.specs.Expressions.{object_lit}
use Rattle.fast_check_tree_forms_expressions.specs.Assertions.{ts_as_expr}
use Rattle.fast_check_tree_forms_programs.specs.Names.{ident}
use Rattle.fast_check_tree_forms_types.specs.Types as types
use Rattle.fast_check_tree_forms_types.specs.Types.{TsKeywordType-kind}
use Rattle.fast_check_tree_forms_types.specs.TypeOperators.{ts_type_operator}
use Rattle.fast_check_tree_forms_types.specs.TypeParams.{ts_type_ann}
use Rattle.fast_check_tree_helpers.specs.declared.builders.IdentTypeRef.{IdentTypeRef}

-- a keyword type, as `string`
abbrev pub ts_keyword_type : Word → Tree
ts_keyword_type word = types.ts_keyword_type none_range (tree.Word word)

-- the type of a literal, as `"a"`
abbrev pub ts_lit_type : Tree → Tree
ts_lit_type literal = types.ts_lit_type none_range literal

-- the identifier of a text
abbrev pub new_ident : List ℕ → Tree
new_ident text = ident none_range (record { 0 = 0 }) text false

-- a reference to a type by its name
abbrev pub type_ref : List ℕ → Tree
type_ref name = types.ts_type_ref none_range (new_ident name) Absent

-- the node of such a reference
abbrev pub ident_type_ref : IdentTypeRef → Tree
ident_type_ref ref =
    types.ts_type_ref ref.span
    (ident ref.type_name.span ref.type_name.ctxt ref.type_name.sym ref.type_name.optional) Absent

-- the type of regular expressions
abbrev pub regex_type : Tree
regex_type = type_ref (codes "RegExp")

-- `: type`
abbrev pub type_ann : Tree → Tree
type_ann type = ts_type_ann none_range type

-- `: any`
abbrev pub any_type_ann : Tree
any_type_ann = type_ann (ts_keyword_type TsAnyKeyword)

-- `readonly type`
abbrev pub ts_readonly : Tree → Tree
ts_readonly type = ts_type_operator none_range (tree.Word ReadOnly) type

-- a type in a tuple, without label
abbrev pub ts_tuple_element : Tree → Tree
ts_tuple_element type = types.ts_tuple_element none_range Absent type

-- `unique symbol`, where `symbol` is a reference to a type
abbrev pub unique_symbol : Tree
unique_symbol = ts_type_operator none_range (tree.Word Unique) (type_ref (codes "symbol"))

-- whether a type is the keyword `void`
abbrev pub is_void_type : Tree → Bool
is_void_type type = (kind_of type is TsKeywordType) && has_word TsVoidKeyword (TsKeywordType-kind type)

-- `{} as never`
abbrev pub never_value : Tree
never_value = ts_as_expr none_range (object_lit none_range (list [])) (ts_keyword_type TsNeverKeyword)
