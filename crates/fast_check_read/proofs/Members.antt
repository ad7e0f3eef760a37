-- A member that a map finds is the one that a field is read from.
use Rattle.std.proofs.Common.{◌≡◌, ℕ, List, Option, Some, None, option_map, String, BTreeMap, Global, Ordering, Less, Equal, Greater, Bor}
use Rattle.std.proofs.Common.{refl, sym, ap, ◌∙◌}
use Rattle.std.specs.BTreeMap.{get_by_text}
use Rattle.std.specs.Cmp.Lexicographic.{slice_cmp}
use Rattle.std.specs.Option.{option_copied}
use Rattle.std.specs.Ordering.{nat_cmp, match_ordering}
use Rattle.serde_json.specs.Data.{Data, Members, no_members, member}
use Rattle.serde_json.specs.Find.{get_member}
use Rattle.serde_json.specs.View.{view, members_view}
use Rattle.serde_json.specs.declared.value.Value.{Value}
use Rattle.serde_json.proofs.Views.{view-lookup}
use Rattle.fast_check_read.specs.schema.Rows.{FieldRow}
use Rattle.fast_check_read.specs.Reading.{Reading, reading, member_readings, reading_named, field_tree, field_or_default}

found_or : (o : Ordering) (d : Data) (rest : Option Reading) (others : Option Data) → rest ≡ option_map reading others
    → match_ordering o rest (Some (reading d)) rest ≡ option_map reading (match_ordering o others (Some d) others)
found_or Less d rest others e = e
found_or Equal d rest others e = refl
found_or Greater d rest others e = e

pub reading_named-member_readings : (name : List ℕ) (ms : Members) →
    reading_named name (member_readings ms) ≡ option_map reading (get_member name ms)
reading_named-member_readings name no_members = refl
reading_named-member_readings name (member key d ms) = found_or (slice_cmp nat_cmp name key) d _ _ (reading_named-member_readings name ms)

read_twice : (found : Option (Bor Value)) → option_map reading (option_map view (option_copied found)) ≡ option_map
    (λ v. reading (view v.now)) found
read_twice None = refl
read_twice (Some v) = refl

-- what a field gives, by what the map finds under its name
pub field_tree_found : (field : FieldRow) (m : BTreeMap (String Global) Value) (found : Option (Bor Value)) →
    option_copied found ≡ get_by_text m field.name
    → field_tree (member_readings (members_view m.entries)) field ≡ field_or_default (option_map (λ v. reading (view v.now)) found) field
field_tree_found field m found e =
    let named : reading_named field.name (member_readings (members_view m.entries)) ≡ option_map (λ v. reading (view v.now)) found =
    reading_named-member_readings field.name (members_view m.entries)
    ∙ (ap (option_map reading) (sym (view-lookup field.name m.entries) ∙ ap (option_map view) (sym e)) ∙ read_twice found) in
    ap (λ r. field_or_default r field) named
