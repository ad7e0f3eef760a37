-- The JSON of ranges, words and objects of one member.
use Rattle.std.specs.Prelude.{ℕ, List, []}
use Rattle.std.specs.Option.{option_map_or}
use Rattle.serde_json.specs.Data.{Data, unsigned, number, array, object, no_items, item, no_members, member}
use Rattle.fast_check_tree_syntax.specs.declared.kind.Word.{Word}
use Rattle.fast_check_tree_syntax.specs.declared.source.SourceRange.{SourceRange}
use Rattle.fast_check_read.specs.declared.schema.form.Form.{Form}
use Rattle.fast_check_read.specs.declared.schema.form.Form.TheVariants as forms
use Rattle.fast_check_read.specs.schema.Lookup.{row_of_word}
use Rattle.fast_check_read.specs.schema.Schema.{words_of}

-- a whole number
abbrev pub number_data : ℕ → Data
number_data n = number (unsigned n)

-- an array of two
abbrev pub pair_data : Data → Data → Data
pair_data first second = array (item first (item second no_items))

-- a range is an array of its start and its end
abbrev pub range_data : SourceRange → Data
range_data range = pair_data (number_data range.start.0) (number_data range.end.0)

-- an object of one member
abbrev pub single : List ℕ → Data → Data
single name value = object (member name value no_members)

-- the text of a word that stands where the form does; none where the form has no such word
abbrev pub text_of_word : Word → Form → List ℕ
text_of_word word (forms.Word words) = option_map_or (λ row. row.name) (row_of_word word (words_of words)) []
text_of_word word _ = []
