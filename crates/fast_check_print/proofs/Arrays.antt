-- An array that is written item by item.
use Rattle.std.proofs.Common.{◌≡◌, ℕ, ◌+◌, ◌<◌, ◌≤◌, List, [], ◌∷◌, Result, OnOk, length, get_or, drop, map, sym, ap, ◌∙◌, subst}
use Rattle.std.proofs.lemmas.List.{drop_more, drop_all}
use Rattle.std.proofs.lemmas.Result.{on_ok_weaker}
use Rattle.json.specs.Token.{Token, end_array}
use Rattle.json.specs.Written.{Written, Writes}
use Rattle.serde_json.specs.Data.{Data}
use Rattle.fast_check_print.specs.Writing.{Adds, WritesData}
use Rattle.fast_check_print.proofs.Adding.{Remains, remains-next, adds-token}
use Rattle.fast_check_print.proofs.Items.{rest_of_items}

-- the first of the items that still have to come is written
pub one_written : {X : Type 0} (of : X → Data) (x : X) (all rest : List X) {whole : List Token} {old a b : Written} → all ≡ x ∷ rest →
    Remains whole old a (rest_of_items (map of all)) → WritesData (of x) a b → Remains whole old b (rest_of_items (map of rest))
one_written of x all rest {whole} {old} {a} {b} is h step =
    let now : Remains whole old a (rest_of_items (map of (x ∷ rest))) =
    subst (λ xs. Remains whole old a (rest_of_items (map of xs))) is h in
    remains-next whole _ (rest_of_items (map of rest)) old a b now step

pub item_written : {X : Type 0} (of : X → Data) (xs : List X) (i : ℕ) (x : X) {whole : List Token} {old a b : Written} → i < length xs →
    x ≡ get_or xs i x → Remains whole old a (rest_of_items (map of (drop i xs))) → WritesData (of x) a b →
    Remains whole old b (rest_of_items (map of (drop (i + 1) xs)))
item_written of xs i x below is =
    one_written of x (drop i xs) (drop (i + 1) xs) (drop_more xs i x below ∙ ap (λ y. y ∷ drop (i + 1) xs) (sym is))

-- none still has to come, and the array is closed
pub none_left : {X : Type 0} {E : Type 0} (of : X → Data)
    (all : List X) {whole : List Token} {old a b : Written} {r : Result (Unit {0}) E} → all ≡ [] →
    Remains whole old a (rest_of_items (map of all)) → Writes r a b end_array → OnOk r (Adds whole old b)
none_left of all {whole} {old} {a} {b} {r} is h closed = on_ok_weaker r ended (adds-token r a b end_array closed)
  where
    now : Remains whole old a (end_array ∷ [])
    now = subst (λ xs. Remains whole old a (rest_of_items (map of xs))) is h

    ended : Adds (end_array ∷ []) a b → Adds whole old b
    ended last = record { before = last.before ∙ now.before; tokens_now = last.tokens_now ∙ sym now.tokens_whole }

pub items_written : {X : Type 0} {E : Type 0} (of : X → Data) (xs : List X)
    (i : ℕ) {whole : List Token} {old a b : Written} {r : Result (Unit {0}) E} →
    length xs ≤ i → Remains whole old a (rest_of_items (map of (drop i xs))) → Writes r a b end_array → OnOk r (Adds whole old b)
items_written of xs i past = none_left of (drop i xs) (drop_all i xs past)
