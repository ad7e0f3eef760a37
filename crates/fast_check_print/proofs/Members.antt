-- The members of an object, in the order in which they are written.
use Rattle.std.proofs.Common.{◌≡◌, ℕ, zero, suc, ◌+◌, ◌<◌, ◌≤◌, List, [], ◌∷◌, ◌++◌, length, drop, get_or, subst, slice_get, Some, Ordering}
use Rattle.std.proofs.Common.{Less, Equal, Greater, nat_cmp, arith, refl, sym, ap, ◌∙◌}
use Rattle.std.proofs.Math.Seq.{drop-cons}
use Rattle.std.proofs.lemmas.Map.Text.{is_eq-slice_cmp}
use Rattle.std.specs.Cmp.Lexicographic.{slice_cmp, same_text}
use Rattle.std.specs.Option.{option_map_or}
use Rattle.std.specs.Ordering.{is_eq, match_ordering}
use Rattle.json.specs.Token.{Token, key}
use Rattle.json.specs.Tree.{members_tokens}
use Rattle.json.specs.Written.{Written}
use Rattle.serde_json.specs.Data.{null, Members, no_members, member, put}
use Rattle.serde_json.specs.Written.{members_outline}
use Rattle.fast_check_read.specs.schema.Order.{name_at, insert_place, places_by_name}
use Rattle.fast_check_read.specs.schema.Rows.{FieldRow}
use Rattle.fast_check_print.specs.Trees.{ByForm, part_data, data_at, members_of_fields}
use Rattle.fast_check_print.specs.Writing.{Adds, tokens_of}
use Rattle.fast_check_print.proofs.Adding.{Remains, remains-next}

-- the members of the fields at these places, in their order
abbrev pub listed : List FieldRow → List ByForm → List ℕ → Members
listed fields parts [] = no_members
listed fields parts (place ∷ places) = member (name_at fields place) (data_at fields parts place) (listed fields parts places)

-- their tokens, with the closing bracket
abbrev pub rest_of_members : List FieldRow → List ByForm → List ℕ → List Token
rest_of_members fields parts places = members_tokens (members_outline (listed fields parts places))

-- each place has a field
abbrev pub Within : List FieldRow → List ℕ → Type 0
Within fields [] = Unit {0}
Within fields (place ∷ places) = (place < length fields) × Within fields places

same_names : (xs ys : List ℕ) → slice_cmp nat_cmp xs ys ≡ Equal → ys ≡ xs
same_names xs ys is = sym (same_text xs ys (sym (sym (is_eq-slice_cmp xs ys) ∙ ap is_eq is)))

put-step : (fields : List FieldRow) (parts : List ByForm) (new place : ℕ) (places : List ℕ) (o : Ordering)
    → slice_cmp nat_cmp (name_at fields new) (name_at fields place) ≡ o
    → put (name_at fields new) (data_at fields parts new) (listed fields parts places) ≡ listed fields parts
    (insert_place fields new places)
    → match_ordering o
    (member (name_at fields new) (data_at fields parts new) (listed fields parts (place ∷ places)))
    (member (name_at fields place) (data_at fields parts new) (listed fields parts places))
    (member (name_at fields place) (data_at fields parts place)
    (put (name_at fields new) (data_at fields parts new) (listed fields parts places)))
    ≡ listed fields parts (match_ordering o (new ∷ place ∷ places) (new ∷ places) (place ∷ insert_place fields new places))
put-step fields parts new place places Less is rest = refl
put-step fields parts new place places Equal is rest =
    ap (λ name. member name (data_at fields parts new) (listed fields parts places))
    (same_names (name_at fields new) (name_at fields place) is)
put-step fields parts new place places Greater is rest = ap (member (name_at fields place) (data_at fields parts place)) rest

put-listed : (fields : List FieldRow) (parts : List ByForm) (new : ℕ) (places : List ℕ)
    → put (name_at fields new) (data_at fields parts new) (listed fields parts places) ≡ listed fields parts
    (insert_place fields new places)
put-listed fields parts new [] = refl
put-listed fields parts new (place ∷ places) =
    put-step fields parts new place places (slice_cmp nat_cmp (name_at fields new) (name_at fields place)) refl
    (put-listed fields parts new places)

pub members-listed : (fields : List FieldRow) (parts : List ByForm) (count : ℕ) →
    members_of_fields fields parts count ≡ listed fields parts (places_by_name fields count)
members-listed fields parts zero = refl
members-listed fields parts (suc place) =
    ap (put (name_at fields place) (data_at fields parts place)) (members-listed fields parts place) ∙
    put-listed fields parts place (places_by_name fields place)

within-step : (fields : List FieldRow) (new place : ℕ) (places : List ℕ) (o : Ordering) → new < length fields →
    Within fields (place ∷ places) →
    Within fields (insert_place fields new places)
    → Within fields (match_ordering o (new ∷ place ∷ places) (new ∷ places) (place ∷ insert_place fields new places))
within-step fields new place places Less is all rest = (is, all)
within-step fields new place places Equal is all rest = (is, all.1)
within-step fields new place places Greater is all rest = (all.0, rest)

within-insert : (fields : List FieldRow) (new : ℕ) (places : List ℕ) → new < length fields → Within fields places →
    Within fields (insert_place fields new places)
within-insert fields new [] is all = (is, tt)
within-insert fields new (place ∷ places) is all =
    within-step fields new place places (slice_cmp nat_cmp (name_at fields new) (name_at fields place)) is all
    (within-insert fields new places is all.1)

pub within-by_name : (fields : List FieldRow) (count : ℕ) → count ≤ length fields → Within fields (places_by_name fields count)
within-by_name fields zero is = tt
within-by_name fields (suc place) is = within-insert fields place (places_by_name fields place) (omega arith)
    (within-by_name fields place (omega arith))

pub name_at-some : (fields : List FieldRow) (place : ℕ) (field : FieldRow) → slice_get fields place ≡ Some field →
    name_at fields place ≡ field.name
name_at-some fields place field is = ap (λ f. option_map_or (λ field. field.name) f []) is

pub data_at-some : (fields : List FieldRow) (parts : List ByForm) (place : ℕ) (field : FieldRow) → slice_get fields place ≡ Some field
    → data_at fields parts place ≡ part_data (slice_get parts place) field.form
data_at-some fields parts place field is = ap (λ f. option_map_or (λ field. part_data (slice_get parts place) field.form) f null) is

-- where the places go on
pub next-place : (places : List ℕ) (i : ℕ) → i < length places → drop i places ≡ get_or places i 0 ∷ drop (i + 1) places
next-place places i is = let one_more : suc i ≡ i + 1 = omega arith in drop-cons places i 0 is ∙
    ap (λ n. get_or places i 0 ∷ drop n places) one_more

pub next-within : (fields : List FieldRow) (places : List ℕ) (i : ℕ) → i < length places → Within fields (drop i places) →
    (get_or places i 0 < length fields) × Within fields (drop (i + 1) places)
next-within fields places i is all = subst (Within fields) (next-place places i is) all

-- the next member is written
pub next-member : (fields : List FieldRow) (parts : List ByForm) (places : List ℕ) (i : ℕ) (field : FieldRow) (whole : List Token)
    (old a b : Written)
    → i < length places → slice_get fields (get_or places i 0) ≡ Some field
    → Remains whole old a (rest_of_members fields parts (drop i places))
    → Adds (key field.name ∷ tokens_of (part_data (slice_get parts (get_or places i 0)) field.form)) a b
    → Remains whole old b (rest_of_members fields parts (drop (i + 1) places))
next-member fields parts places i field whole old a b is found h step =
    let place = get_or places i 0 in
    let rest = rest_of_members fields parts (drop (i + 1) places) in
    let named = ap (λ name. key name ∷ (tokens_of (data_at fields parts place) ++ rest)) (name_at-some fields place field found) in
    let valued = ap (λ d. key field.name ∷ (tokens_of d ++ rest)) (data_at-some fields parts place field found) in
    let next = ap (rest_of_members fields parts) (next-place places i is) ∙ (named ∙ valued) in
    remains-next whole (key field.name ∷ tokens_of (part_data (slice_get parts place) field.form)) rest old a b
    (subst (Remains whole old a) next h) step
