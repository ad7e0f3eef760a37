-- What the JSON of flags, numbers, texts and ranges stands for.
use Rattle.std.specs.Prelude.{ℕ, ◌^◌, List, [], ◌∷◌, Bool, false, nat_lt, if◌then◌else◌, Option, Some, None, option_map}
use Rattle.std.specs.Prelude.{option_and_then}
use Rattle.std.specs.Option.{option_map_or}
use Rattle.serde_json.specs.Data.{Data, Items, no_items, item}
use Rattle.serde_json.specs.Find.{as_array, as_bool, as_number, as_str, as_u64 as number_as_u64}
use Rattle.fast_check_tree_syntax.specs.declared.source.SourceRange.{SourceRange}
use Rattle.fast_check_tree_syntax.specs.declared.kind.Word.{Word}
use Rattle.fast_check_read.specs.declared.schema.form.Words.{Words}
use Rattle.fast_check_read.specs.schema.Lookup.{word_by_text}
use Rattle.fast_check_read.specs.schema.Schema.{words_of}
use Rattle.fast_check_read.specs.Each.{each}

-- a whole number that is not negative
abbrev pub u64_of : Data → Option ℕ
u64_of value = option_and_then number_as_u64 (as_number value)

-- such a number below 2^32
abbrev pub u32_of : Data → Option ℕ
u32_of value = option_and_then (λ n. if nat_lt n (2 ^ 32) then Some n else None) (u64_of value)

-- the range of two ends
abbrev pub range_of_ends : Option ℕ → Option ℕ → Option SourceRange
range_of_ends start end =
    option_and_then (λ s. option_map (λ e. record { start = record { 0 = s }; end = record { 0 = e } }) end) start

-- the items of an array of two
abbrev pub pair_of_items : Items → Option (Data × Data)
pair_of_items (item first (item second no_items)) = Some (first, second)
pair_of_items _ = None

abbrev pub pair_of : Data → Option (Data × Data)
pair_of value = option_and_then pair_of_items (as_array value)

-- an array of two numbers below 2^32 is a range
abbrev pub range_of_data : Data → Option SourceRange
range_of_data value = option_and_then (λ ends. range_of_ends (u32_of ends.0) (u32_of ends.1)) (pair_of value)

-- the items of an array
abbrev pub items_list : Items → List Data
items_list no_items = []
items_list (item value more) = value ∷ items_list more

-- the word of a text
abbrev pub word_of : Data → Words → Option Word
word_of value words = option_and_then (λ text. option_map (λ row. row.word) (word_by_text text (words_of words)))
    (as_str value)

-- a flag that may be left out
abbrev pub optional_flag_of : Option Data → Option Bool
optional_flag_of value = option_map_or as_bool value (Some false)
