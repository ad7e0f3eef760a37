-- Inner: no contract of a public call cites what stands here.
-- An index of texts, in the order of their bytes, each with the place of the first text that begins it.
use Rattle.std.specs.Prelude.{◌≡◌, ℕ, suc, ◌≤◌, ◌<◌, Bool, true, false, ◌==◌, ◌&&◌, cond, List, [], ◌∷◌, map, take}
use Rattle.std.specs.Prelude.{Option, Some, None, length, slice_get, slice_index_or}
use Rattle.std.specs.List.{All, list_any}
use Rattle.std.specs.BTreeMap as btree
use Rattle.std.specs.BTreeMap.{BTreeMap}
use Rattle.std.specs.declared.cmp.Ordering.TheVariants.{Less}
use Rattle.std.specs.Ordering.{is_le, nat_cmp}
use Rattle.std.specs.Cmp.Lexicographic.{slice_cmp}
use Rattle.std.specs.Str.{bytes_eq}
use Rattle.std.specs.declared.alloc.Global.{Global}
use Rattle.std.specs.declared.vec.Vec.{Vec}
use Rattle.fast_check_tables_packages.specs.Listed.{begins_with}
use Rattle.fast_check_tables_packages.specs.First.{first_place}
use Rattle.fast_check_tables_packages.specs.declared.texts.Entry.{Entry}
use Rattle.fast_check_tables_packages.specs.declared.texts.TextIndex.{TextIndex}
use Rattle.fast_check_tables_packages.specs.declared.texts.TextPlaces.{TextPlaces}

-- the place that a map has for a text
abbrev pub place_of : List ℕ → BTreeMap (Vec ℕ Global) ℕ → Option ℕ
place_of text places = btree.get_by (λ k. slice_cmp nat_cmp text k.items) places

-- it has the first place of each text, and of no other
abbrev pub HasTextPlaces : List (List ℕ) → TextPlaces → Type 0
HasTextPlaces texts places = (text : List ℕ) → place_of text places.places ≡ first_place (bytes_eq text) texts

-- the texts of entries
abbrev pub keys_in : List Entry → List (Vec ℕ Global)
keys_in entries = map (λ e. e.text) entries

-- not above
abbrev pub is_up_to : List ℕ → List ℕ → Bool
is_up_to a b = is_le (slice_cmp nat_cmp a b)

-- how many bytes two texts have in common at their beginnings
abbrev pub common : List ℕ → List ℕ → ℕ
common [] ys = 0
common (x ∷ xs) [] = 0
common (x ∷ xs) (y ∷ ys) = cond (x == y) (suc (common xs ys)) 0

-- none is above a later one
abbrev pub IsAscending : List Entry → Type 0
IsAscending entries = (i j : ℕ) (d : Entry) → i ≤ j → j < length entries →
    is_up_to (slice_index_or entries i d).text.items (slice_index_or entries j d).text.items ≡ true

-- the place of the last entry whose text is not above this one
abbrev pub IsLastUpTo : List ℕ → List Entry → Option ℕ → Type 0
IsLastUpTo text entries None = All (λ e. is_up_to e.text.items text ≡ false) entries
IsLastUpTo text entries (Some i) = (k : Entry) × (slice_get entries i ≡ Some k) × (is_up_to k.text.items text ≡ true)
    × All (λ e. is_up_to e.text.items text ≡ true → is_up_to e.text.items k.text.items ≡ true) entries

-- an entry's text begins this one, and each that begins this one begins that
abbrev pub IsLongestAt : List ℕ → List Entry → ℕ → Type 0
IsLongestAt text entries i = (i < length entries) × ((k : Entry) → slice_get entries i ≡ Some k →
    (begins_with k.text.items text ≡ true)
    × All (λ e. begins_with e.text.items text ≡ true → begins_with e.text.items k.text.items ≡ true) entries)

-- the place of the longest of the entries whose texts begin this one, if there is any
pub record IsLongestOf (text : List ℕ) (entries : List Entry) (place : Option ℕ) : Type 0 where
  pub none : place ≡ None → All (λ e. begins_with e.text.items text ≡ false) entries
  pub some : (i : ℕ) → place ≡ Some i → IsLongestAt text entries i

-- each notes the longest of those before it that begins it
abbrev pub AreNoted : List Entry → Type 0
AreNoted entries = (i : ℕ) (e : Entry) → slice_get entries i ≡ Some e
    → IsLongestOf e.text.items (take i entries) e.longest_before

-- one of the entries has this text
abbrev pub is_key : List Entry → List ℕ → Bool
is_key entries text = list_any (λ k. bytes_eq text k.items) (keys_in entries)

-- the place of the first text that begins this one, of those that the entries have
abbrev pub first_among : List Entry → List ℕ → List (List ℕ) → Option ℕ
first_among entries text texts = first_place (λ t. begins_with t text && is_key entries t) texts

-- they ascend, and each has the place of the first text that begins its own, of those that they have, and its note
pub record AreFirsts (texts : List (List ℕ)) (entries : List Entry) : Type 0 where
  pub ascending : IsAscending entries
  pub noted : AreNoted entries
  pub firsts : All (λ e. first_among entries e.text.items texts ≡ Some e.first) entries

-- a text is above all entries
abbrev pub IsAppended : List ℕ → List Entry → Type 0
IsAppended text entries = All (λ e. slice_cmp nat_cmp e.text.items text ≡ Less) entries

-- it has all of these texts
pub record IsTextIndex (texts : List (List ℕ)) (index : TextIndex) : Type 0 where
  pub are_firsts : AreFirsts texts index.entries.items
  pub has_texts : All (λ t. is_key index.entries.items t ≡ true) texts
