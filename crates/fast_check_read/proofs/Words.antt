-- What stands at the place of each form, and what is null.
use Rattle.std.proofs.Common.{◌≡◌, ◌∙◌, ℕ, List, [], ◌∷◌, Option, Some, None, Ok, Vec, BTreeMap, String, Global, string_bytes, option_map}
use Rattle.std.proofs.Common.{option_and_then, refl, sym, ap}
use Rattle.std.specs.Option.{is_some, ok_or}
use Rattle.serde_json.specs.Data.{Data, null, boolean, number, string, array, object}
use Rattle.serde_json.specs.Find.{as_array, as_bool, as_null, as_object, as_str}
use Rattle.serde_json.specs.View.{view, items_view, members_view}
use Rattle.serde_json.specs.declared.value.Value.{Value, Array, Object}
use Rattle.serde_json.proofs.Views.{view-Array, view-Object}
use Rattle.fast_check_tree_syntax.specs.declared.kind.Kind.{Kind}
use Rattle.fast_check_tree_syntax.specs.declared.kind.Word.{Word as Word'}
use Rattle.fast_check_tree_syntax.specs.declared.tree.Tree.{Flag, Context, Text, Range, Word}
use Rattle.fast_check_read.specs.schema.Lookup.{variant_by_name}
use Rattle.fast_check_read.specs.schema.Schema.{variants_of}
use Rattle.fast_check_read.specs.declared.schema.form.Choice.{Choice}
use Rattle.fast_check_read.specs.declared.schema.form.Count.{Count}
use Rattle.fast_check_read.specs.declared.schema.form.Form.{Form}
use Rattle.fast_check_read.specs.declared.schema.form.Form.TheVariants as forms
use Rattle.fast_check_read.specs.declared.schema.form.Words.{Words}
use Rattle.fast_check_read.specs.declared.error.ReadError.{ReadError}
use Rattle.fast_check_read.specs.Pieces.{u32_of, range_of_data, word_of}
use Rattle.fast_check_read.specs.Reading.{reading, tree_of, member_readings, node_tree, choice_tree, marked_tree, counted}

-- ---- forms

pub tree_of_flag : (value : Data) → tree_of value forms.Flag ≡ option_map Flag (as_bool value)
tree_of_flag null = refl
tree_of_flag (boolean flag) = refl
tree_of_flag (number n) = refl
tree_of_flag (string text) = refl
tree_of_flag (array ds) = refl
tree_of_flag (object ms) = refl

pub tree_of_context : (value : Data) → tree_of value forms.Context ≡ option_map (λ n. Context (record { 0 = n })) (u32_of value)
tree_of_context null = refl
tree_of_context (boolean flag) = refl
tree_of_context (number n) = refl
tree_of_context (string text) = refl
tree_of_context (array ds) = refl
tree_of_context (object ms) = refl

pub tree_of_text : (value : Data) → tree_of value forms.Text ≡ option_map Text (as_str value)
tree_of_text null = refl
tree_of_text (boolean flag) = refl
tree_of_text (number n) = refl
tree_of_text (string text) = refl
tree_of_text (array ds) = refl
tree_of_text (object ms) = refl

pub tree_of_range : (value : Data) → tree_of value forms.Range ≡ option_map Range (range_of_data value)
tree_of_range null = refl
tree_of_range (boolean flag) = refl
tree_of_range (number n) = refl
tree_of_range (string text) = refl
tree_of_range (array ds) = refl
tree_of_range (object ms) = refl

pub tree_of_word : (value : Data) (words : Words) → tree_of value (forms.Word words) ≡ option_map Word (word_of value words)
tree_of_word null words = refl
tree_of_word (boolean flag) words = refl
tree_of_word (number n) words = refl
tree_of_word (string text) words = refl
tree_of_word (array ds) words = refl
tree_of_word (object ms) words = refl

pub tree_of_struct : (value : Data) (kind : Kind)
    → tree_of value (forms.Struct kind) ≡ option_and_then (λ ms. node_tree (member_readings ms) kind) (as_object value)
tree_of_struct null kind = refl
tree_of_struct (boolean flag) kind = refl
tree_of_struct (number n) kind = refl
tree_of_struct (string text) kind = refl
tree_of_struct (array ds) kind = refl
tree_of_struct (object ms) kind = refl

pub tree_of_choice : (value : Data) (choice : Choice)
    → tree_of value (forms.Choice choice) ≡ option_and_then (λ ms. choice_tree (member_readings ms) choice) (as_object value)
tree_of_choice null choice = refl
tree_of_choice (boolean flag) choice = refl
tree_of_choice (number n) choice = refl
tree_of_choice (string text) choice = refl
tree_of_choice (array ds) choice = refl
tree_of_choice (object ms) choice = refl

pub tree_of_marked : (value : Data) (mark : Kind)
    → tree_of value (forms.Marked mark) ≡ option_and_then (λ ms. marked_tree (member_readings ms) mark) (as_object value)
tree_of_marked null mark = refl
tree_of_marked (boolean flag) mark = refl
tree_of_marked (number n) mark = refl
tree_of_marked (string text) mark = refl
tree_of_marked (array ds) mark = refl
tree_of_marked (object ms) mark = refl

pub word_found : (word : Option Word') (found : Word') (error : ReadError) → ok_or word error ≡ Ok found → word ≡ Some found
word_found None found error e = cc
word_found (Some word) found error e = cc

-- ---- what is an array or an object, and what is not

pub members_there : (value : Value) (m : BTreeMap (String Global) Value) → value ≡ Object m →
    as_object (view value) ≡ Some (members_view m.entries)
members_there value m is = ap (λ v. as_object (view v)) is ∙ ap as_object (view-Object m)

pub array_there : (value : Value) (items : Vec Value Global) (form : Form) (count count' : Count) → value ≡ Array items → count ≡ count'
    → counted (reading (view value)) form count ≡ counted (reading (array (items_view items.items))) form count'
array_there value items form count count' is same =
    ap (λ v. counted (reading (view v)) form count) is
    ∙ (ap (λ d. counted (reading d) form count) (view-Array items) ∙ ap (counted (reading (array (items_view items.items))) form) same)

pub one_member : (entries : List (String Global × Value)) (name : String Global) (content : Value) (choice : Choice) →
    entries ≡ (name, content) ∷ []
    → (text : List ℕ) → text ≡ string_bytes name
    → choice_tree (member_readings (members_view entries)) choice
    ≡ option_and_then (λ v. tree_of (view content) v.form) (variant_by_name text (variants_of choice))
one_member entries name content choice is text same =
    ap (λ es. choice_tree (member_readings (members_view es)) choice) is
    ∙ ap (λ key. option_and_then (λ v. tree_of (view content) v.form) (variant_by_name key (variants_of choice))) (sym same)

pub no_list : (value : Data) (form : Form) → as_array value ≡ None → (reading value).list_of form ≡ None
no_list null form none = refl
no_list (boolean flag) form none = refl
no_list (number n) form none = refl
no_list (string text) form none = refl
no_list (array ds) form none = cc
no_list (object ms) form none = refl

pub no_options : (value : Data) (form : Form) → as_array value ≡ None → (reading value).list_of_options form ≡ None
no_options null form none = refl
no_options (boolean flag) form none = refl
no_options (number n) form none = refl
no_options (string text) form none = refl
no_options (array ds) form none = cc
no_options (object ms) form none = refl

pub reading_is_null : (value : Data) → (reading value).is_null ≡ is_some (as_null value)
reading_is_null null = refl
reading_is_null (boolean flag) = refl
reading_is_null (number n) = refl
reading_is_null (string text) = refl
reading_is_null (array ds) = refl
reading_is_null (object ms) = refl
