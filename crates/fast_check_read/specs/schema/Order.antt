-- The order in which the fields of a form are written: that of their names.
use Rattle.std.specs.Prelude.{ℕ, zero, suc, List, [], ◌∷◌, length, slice_get}
use Rattle.std.specs.Cmp.Lexicographic.{slice_cmp}
use Rattle.std.specs.Option.{option_map_or}
use Rattle.std.specs.Ordering.{nat_cmp, match_ordering}
use Rattle.fast_check_tree_syntax.specs.declared.kind.Kind.{Kind}
use Rattle.fast_check_read.specs.schema.Rows.{FieldRow}
use Rattle.fast_check_read.specs.schema.Schema.{fields_of}

-- the name of the field at a place
abbrev pub name_at : List FieldRow → ℕ → List ℕ
name_at fields place = option_map_or (λ field. field.name) (slice_get fields place) []

-- a place among others that stand in the order of their names; of two of one name the new one stays
abbrev pub insert_place : List FieldRow → ℕ → List ℕ → List ℕ
insert_place fields new [] = new ∷ []
insert_place fields new (place ∷ places) =
    match_ordering (slice_cmp nat_cmp (name_at fields new) (name_at fields place))
    (new ∷ place ∷ places) (new ∷ places) (place ∷ insert_place fields new places)

-- the places of so many first fields, in the order of their names
abbrev pub places_by_name : List FieldRow → ℕ → List ℕ
places_by_name fields zero = []
places_by_name fields (suc place) = insert_place fields place (places_by_name fields place)

-- the places of all fields of a form
abbrev pub written_places : Kind → List ℕ
written_places kind = places_by_name (fields_of kind) (length (fields_of kind))
