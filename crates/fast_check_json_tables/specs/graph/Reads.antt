-- What a JSON value is read as, and what is left out.
use Rattle.std.specs.Prelude.{◌≡◌, ℕ, List, [], Bool, Option, Some, None, option_map, option_and_then, Result}
use Rattle.std.specs.Prelude.{MatchResult}
use Rattle.std.specs.Option.{option_map_or}
use Rattle.std.specs.Result.{result_ok}
use Rattle.serde_json.specs.Data.{Data, null, Items, no_items, item, Members}
use Rattle.serde_json.specs.Data.{no_members, member}
use Rattle.serde_json.specs.Find.{get, as_array, as_object, as_str}
use Rattle.url.specs.Parser.{parse_url}
use Rattle.url.specs.Parts.{Parts}
use Rattle.fast_check_tree_syntax.specs.declared.atom.Id.{Id}
use Rattle.fast_check_tree_syntax.specs.declared.source.SyntaxContext.{SyntaxContext}
use Rattle.fast_check_tables_symbols.specs.declared.symbol_id.SymbolId.{SymbolId}
use Rattle.fast_check_read.specs.declared.error.ReadError.{ReadError}
use Rattle.fast_check_read.specs.declared.error.ReadError.TheVariants.{BadForm}
use Rattle.fast_check_read.specs.Each.{each}
use Rattle.fast_check_read.specs.Pieces.{u32_of, items_list, pair_of, optional_flag_of}

-- a call makes a value that is seen as what is expected, or answers `BadForm` where nothing is; it may run out of
-- memory
abbrev pub Reads : {A B : Type 0} → (B → A) → Option A → Result B ReadError → Type 0
Reads seen expected result = MatchResult result (λ b. expected ≡ Some (seen b))
    (λ error. error ≡ BadForm → expected ≡ None)

-- with what is there, if it is
abbrev pub given : {A B : Type 0} → Option A → (A → Option B) → Option B
given a f = option_and_then f a

-- ---- lists, pairs and options

-- an array
abbrev pub list_of : {A : Type 0} → (Data → Option A) → Data → Option (List A)
list_of read value = given (as_array value) (λ items. each read (items_list items))

-- an array of two
abbrev pub both_of : {A B : Type 0} → (Data → Option A) → (Data → Option B) → Data → Option (A × B)
both_of first second value = given (pair_of value) (λ p. given (first p.0) (λ a. option_map (λ b. (a, b)) (second p.1)))

-- an array of three
abbrev pub only_three : Items → Option (Data × Data × Data)
only_three (item a (item b (item c no_items))) = Some (a, b, c)
only_three _ = None

abbrev pub three_of : {A B C : Type 0} → (Data → Option A) → (Data → Option B) → (Data → Option C) → Data →
    Option (A × B × C)
three_of first second third value =
    given (given (as_array value) only_three) (λ t.
    given (first t.0) (λ a.
    given (second t.1) (λ b.
    option_map (λ c. (a, b, c)) (third t.2))))

-- null, or a value
abbrev pub or_null : {A : Type 0} → (Data → Option A) → Data → Option (Option A)
or_null read null = Some None
or_null read value = option_map Some (read value)

-- ---- members of an object

-- a member that has to stand
abbrev pub needed : {A : Type 0} → (Data → Option A) → List ℕ → Data → Option A
needed read name value = given (get name value) read

-- a member, or a default where it is left out
abbrev pub member_or : {A : Type 0} → A → (Data → Option A) → List ℕ → Data → Option A
member_or default read name value = option_map_or read (get name value) (Some default)

-- a list: empty where it is left out
abbrev pub listed : {A : Type 0} → (Data → Option A) → List ℕ → Data → Option (List A)
listed read = member_or [] (list_of read)

-- an option: none where it is left out
abbrev pub optional : {A : Type 0} → (Data → Option A) → List ℕ → Data → Option (Option A)
optional read = member_or None (or_null read)

-- a flag: false where it is left out
abbrev pub flagged : List ℕ → Data → Option Bool
flagged name value = optional_flag_of (get name value)

-- the one member of an object: its name and its content
abbrev pub only_member : Members → Option (List ℕ × Data)
only_member (member name content no_members) = Some (name, content)
only_member _ = None

abbrev pub variant_of : Data → Option (List ℕ × Data)
variant_of value = given (as_object value) only_member

-- ---- names

-- a number
abbrev pub symbol_id_of : Data → Option SymbolId
symbol_id_of value = option_map (λ n. record { 0 = n }) (u32_of value)

-- a scope number
abbrev pub context_of : Data → Option SyntaxContext
context_of value = option_map (λ n. record { 0 = n }) (u32_of value)

-- a text and a scope number
abbrev pub id_of : Data → Option Id
id_of value = option_map (λ p. record { 0 = p.0; 1 = record { 0 = p.1 } }) (both_of as_str u32_of value)

-- a text that is a URL
abbrev pub url_of : Data → Option Parts
url_of value = given (as_str value) (λ text. result_ok (parse_url None text))
