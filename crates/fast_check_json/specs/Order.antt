-- What it means that the members of a form are written in the order of their names.
use Rattle.std.specs.Prelude.{◌≡◌, ℕ, ◌<◌, IsTrue, List, length, AllPairs}
use Rattle.std.specs.List.{All, list_any}
use Rattle.std.specs.Str.{bytes_eq}
use Rattle.std.specs.Ordering.{nat_cmp}
use Rattle.std.specs.Cmp.Lexicographic.{slice_cmp}
use Rattle.std.specs.declared.cmp.Ordering.TheVariants.{Less}
use Rattle.fast_check_tree_syntax.specs.declared.kind.Kind.{Kind}
use Rattle.fast_check_read.specs.schema.Rows.{FieldRow}
use Rattle.fast_check_read.specs.schema.Schema.{fields_of}
use Rattle.fast_check_read.specs.schema.Order.{name_at, written_places}

-- each name is below those at all later places, each place has a field, and each field has a place with its name
pub record AreInOrder (fields : List FieldRow) (places : List ℕ) : Type 0 where
  pub rise : AllPairs (λ a b. slice_cmp nat_cmp (name_at fields a) (name_at fields b) ≡ Less) places
  pub within : All (λ place. place < length fields) places
  pub all : (place : ℕ) → place < length fields → IsTrue (list_any (λ other. bytes_eq (name_at fields place) (name_at fields other)) places)

abbrev pub FieldsAreInOrder : Type 0
FieldsAreInOrder = (kind : Kind) → AreInOrder (fields_of kind) (written_places kind)
