-- The JSON value of a tree that stands at a place of a form.
use Rattle.std.specs.Prelude.{ℕ, zero, suc, List, [], ◌∷◌, map, length, if◌then◌else◌, slice_get, Option, Some, None}
use Rattle.std.specs.Option.{option_map_or}
use Rattle.serde_json.specs.Data.{Data, null, boolean, string, array, object, Members, no_members, put}
use Rattle.serde_json.specs.View.{items_of}
use Rattle.fast_check_tree_syntax.specs.Shape.{◌is◌}
use Rattle.fast_check_tree_syntax.specs.declared.kind.Kind.{Kind}
use Rattle.fast_check_tree_syntax.specs.declared.kind.Kind.TheVariants as kinds
use Rattle.fast_check_tree_syntax.specs.declared.tree.Tree.{Tree}
use Rattle.fast_check_tree_syntax.specs.declared.tree.Tree.TheOpen.{Tree-F}
use Rattle.fast_check_tree_syntax.specs.declared.tree.Tree.TheFolds.{fold-Tree}
use Rattle.fast_check_read.specs.declared.schema.form.Form.{Form}
use Rattle.fast_check_read.specs.declared.schema.form.Form.TheVariants as forms
use Rattle.fast_check_read.specs.schema.Rows.{FieldRow, VariantRow}
use Rattle.fast_check_read.specs.schema.Schema.{fields_of, variants_of}
use Rattle.fast_check_read.specs.schema.Lookup.{variant_by_kind, marked_choice}
use Rattle.fast_check_read.specs.schema.Order.{name_at}
use Rattle.fast_check_print.specs.Pieces.{number_data, range_data, single, text_of_word}

-- what a part is written as, wherever it stands
abbrev pub ByForm : Type 0
ByForm = Form → Data

-- a part where the form stands; null where there is none
abbrev pub part_data : Option ByForm → Form → Data
part_data None form = null
part_data (Some part) form = part form

-- the part of the field at a place
abbrev pub data_at : List FieldRow → List ByForm → ℕ → Data
data_at fields parts place =
    option_map_or (λ field. part_data (slice_get parts place) field.form) (slice_get fields place) null

-- the members of so many first fields, each with its part
abbrev pub members_of_fields : List FieldRow → List ByForm → ℕ → Members
members_of_fields fields parts zero = no_members
members_of_fields fields parts (suc place) = put (name_at fields place) (data_at fields parts place)
    (members_of_fields fields parts place)

-- the object of a form's fields
abbrev pub fields_data : List FieldRow → List ByForm → Data
fields_data fields parts = object (members_of_fields fields parts (length fields))

-- a list is written as an array
abbrev pub list_data : List ByForm → Form → Data
list_data items form = array (items_of (map (λ p. p form) items))

-- a node without the names of its variants: the object of its fields, or what a mark stands round, its first part
abbrev pub content_data : Kind → List ByForm → Data
content_data kind parts =
    option_map_or (λ choice. part_data (slice_get parts 0) (forms.Choice choice)) (marked_choice kind)
    (fields_data (fields_of kind) parts)

abbrev pub names_from : Option VariantRow → (Form → List (List ℕ)) → List (List ℕ)
names_from None inner = []
names_from (Some variant) inner = variant.name ∷ inner variant.form

-- the names of the variants that a node is of where the form stands, outermost first, through at most so many choices
abbrev pub variant_names : ℕ → Kind → Form → List (List ℕ)
variant_names zero kind form = []
variant_names (suc levels) kind (forms.Choice choice) =
    names_from (variant_by_kind kind (variants_of choice)) (variant_names levels kind)
variant_names (suc levels) kind _ = []

-- a value under names, the first outermost
abbrev pub under : List (List ℕ) → Data → Data
under [] value = value
under (name ∷ names) value = single name (under names value)

-- a node under the names of its variants: choices stand within choices at most three deep
abbrev pub node_data : Kind → List ByForm → Form → Data
node_data kind parts form = if kind is kinds.List then list_data parts form else under (variant_names 3 kind form)
    (content_data kind parts)

-- one level of a tree, of what its parts print as: an empty option is null
abbrev pub write_step : Tree-F ByForm → ByForm
write_step Tree-F.Absent form = null
write_step (Tree-F.Flag flag) form = boolean flag
write_step (Tree-F.Context context) form = number_data context.0
write_step (Tree-F.Text text) form = string text
write_step (Tree-F.Range range) form = range_data range
write_step (Tree-F.Word word) form = string (text_of_word word form)
write_step (Tree-F.Node kind parts) form = node_data kind parts form

-- the JSON value of a tree that stands where the form does
abbrev pub json_of : Tree → Form → Data
json_of = fold-Tree ByForm write_step
