-- The tree that a JSON value stands for at a place of a form.
use Rattle.std.specs.Prelude.{ℕ, List, [], ◌∷◌, Bool, true, false, if◌then◌else◌, Option, Some, None, option_map}
use Rattle.std.specs.Prelude.{option_and_then}
use Rattle.std.specs.Option.{option_map_or}
use Rattle.std.specs.Ordering.{nat_cmp, match_ordering}
use Rattle.std.specs.Cmp.Lexicographic.{slice_cmp}
use Rattle.serde_json.specs.Data.{Data, null, boolean, number, string, array, object, Items, no_items, item, Members}
use Rattle.serde_json.specs.Data.{no_members, member}
use Rattle.fast_check_tree_syntax.specs.declared.kind.Kind.{Kind}
use Rattle.fast_check_tree_syntax.specs.declared.tree.Tree.{Tree, Absent, Flag, Context, Text, Range, Word}
use Rattle.fast_check_tree_syntax.specs.Shape.{node, list, none_range}
use Rattle.fast_check_read.specs.declared.schema.form.Choice.{Choice}
use Rattle.fast_check_read.specs.declared.schema.form.Form.{Form}
use Rattle.fast_check_read.specs.declared.schema.form.Form.TheVariants as forms
use Rattle.fast_check_read.specs.declared.schema.form.Count.{Count}
use Rattle.fast_check_read.specs.declared.schema.form.Count.TheVariants as counts
use Rattle.fast_check_read.specs.schema.Rows.{FieldRow}
use Rattle.fast_check_read.specs.schema.Schema.{fields_of, variants_of}
use Rattle.fast_check_read.specs.schema.Lookup.{variant_by_name, marked_choice}
use Rattle.fast_check_read.specs.Each.{each}
use Rattle.fast_check_read.specs.Pieces.{u32_of, range_of_data, word_of}

-- a value as it reads wherever it stands: as one of a form, and, where it is an array, as a list of a form, whose items
-- may be null or not
pub record Reading : Type 0 where
  pub is_null : Bool
  pub one : Form → Option Tree
  pub list_of : Form → Option (List Tree)
  pub list_of_options : Form → Option (List Tree)

-- a flag, a number, a text, a range
abbrev pub flag_leaf : Bool → Form → Option Tree
flag_leaf flag forms.Flag = Some (Flag flag)
flag_leaf flag _ = None

abbrev pub number_leaf : Data → Form → Option Tree
number_leaf value forms.Context = option_map (λ n. Context (record { 0 = n })) (u32_of value)
number_leaf value _ = None

abbrev pub text_leaf : List ℕ → Form → Option Tree
text_leaf text forms.Text = Some (Text text)
text_leaf text (forms.Word words) = option_map Word (word_of (string text) words)
text_leaf text _ = None

abbrev pub range_leaf : Data → Form → Option Tree
range_leaf value forms.Range = option_map Range (range_of_data value)
range_leaf value _ = None

-- null where an option may stand: an empty option
abbrev pub or_absent : Bool → Option Tree → Option Tree
or_absent is_null tree = if is_null then Some Absent else tree

abbrev pub option_tree : Reading → Form → Option Tree
option_tree r form = or_absent r.is_null (r.one form)

-- the items of a list
abbrev pub list_items : Form → List Reading → Option (List Tree)
list_items form rs = each (λ r. r.one form) rs

abbrev pub option_items : Form → List Reading → Option (List Tree)
option_items form rs = each (λ r. option_tree r form) rs

-- what stands so often
abbrev pub counted : Reading → Form → Count → Option Tree
counted r form counts.One = r.one form
counted r form counts.Option = option_tree r form
counted r form counts.List = option_map list (r.list_of form)
counted r form counts.ListOfOptions = option_map list (r.list_of_options form)
counted r form counts.OptionOfList = or_absent r.is_null (option_map list (r.list_of form))

-- what stands where an object lacks a field: an empty option, an empty list, false, scope 0, the range 0 to 0
abbrev pub default_one : Form → Option Tree
default_one forms.Flag = Some (Flag false)
default_one forms.Context = Some (Context (record { 0 = 0 }))
default_one forms.Range = Some (Range none_range)
default_one _ = None

abbrev pub default_tree : Form → Count → Option Tree
default_tree form counts.One = default_one form
default_tree form counts.Option = Some Absent
default_tree form counts.List = Some (list [])
default_tree form counts.ListOfOptions = Some (list [])
default_tree form counts.OptionOfList = Some Absent

-- the member of a name
abbrev pub reading_named : List ℕ → List (List ℕ × Reading) → Option Reading
reading_named name [] = None
reading_named name (m ∷ ms) = match_ordering (slice_cmp nat_cmp name m.0) (reading_named name ms) (Some m.1)
    (reading_named name ms)

abbrev pub field_or_default : Option Reading → FieldRow → Option Tree
field_or_default reading field =
    option_map_or (λ r. counted r field.form field.count) reading (default_tree field.form field.count)

-- a field of an object: other members are passed over
abbrev pub field_tree : List (List ℕ × Reading) → FieldRow → Option Tree
field_tree members field = field_or_default (reading_named field.name members) field

-- the node of an object's fields
abbrev pub node_tree : List (List ℕ × Reading) → Kind → Option Tree
node_tree members kind = option_map (node kind) (each (field_tree members) (fields_of kind))

-- an object of one member, a variant's name and its content
abbrev pub choice_tree : List (List ℕ × Reading) → Choice → Option Tree
choice_tree (m ∷ []) choice = option_and_then (λ v. m.1.one v.form) (variant_by_name m.0 (variants_of choice))
choice_tree _ choice = None

-- a choice under its mark
abbrev pub marked_tree : List (List ℕ × Reading) → Kind → Option Tree
marked_tree members mark = option_and_then (λ choice. option_map (λ t. node mark (t ∷ [])) (choice_tree members choice))
    (marked_choice mark)

abbrev pub object_tree : List (List ℕ × Reading) → Form → Option Tree
object_tree members (forms.Struct kind) = node_tree members kind
object_tree members (forms.Choice choice) = choice_tree members choice
object_tree members (forms.Marked mark) = marked_tree members mark
object_tree members _ = None

-- what is no array has no items
abbrev pub no_array : Bool → (Form → Option Tree) → Reading
no_array is_null one = record { is_null = is_null; one = one; list_of = λ form. None; list_of_options = λ form. None }

abbrev mutual
  pub reading : Data → Reading
  reading null = no_array true (λ form. None)
  reading (boolean flag) = no_array false (flag_leaf flag)
  reading (number n) = no_array false (number_leaf (number n))
  reading (string text) = no_array false (text_leaf text)
  reading (array ds) = record {
    is_null = false;
    one = range_leaf (array ds);
    list_of = λ form. list_items form (item_readings ds);
    list_of_options = λ form. option_items form (item_readings ds);
  }
  reading (object ms) = no_array false (object_tree (member_readings ms))

  pub item_readings : Items → List Reading
  item_readings no_items = []
  item_readings (item d ds) = reading d ∷ item_readings ds

  pub member_readings : Members → List (List ℕ × Reading)
  member_readings no_members = []
  member_readings (member name d ms) = (name, reading d) ∷ member_readings ms

-- the tree of a value that stands where the form does
abbrev pub tree_of : Data → Form → Option Tree
tree_of value form = (reading value).one form
