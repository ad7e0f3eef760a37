-- An index of texts as it grows, and what is found by it.
use Rattle.std.proofs.Common.{◌≡◌, ◌∙◌, sym, ap, subst, refl, ℕ, true, false, cond, List, [], ◌∷◌, ◌++◌}
use Rattle.std.proofs.Common.{length, Option, Some, None, Vec, Global, bytes_eq, ⊎_elim}
use Rattle.std.proofs.Common.{true≢false, is_some, unwrap_or}
use Rattle.std.specs.Option.{option_or}
use Rattle.std.specs.Ordering.{is_eq, nat_cmp, eq_by_cmp}
use Rattle.std.specs.Cmp.{eq_by_cmp_equiv}
use Rattle.std.specs.Cmp.Lexicographic.{slice_cmp, nat_list_cmp_total, nat_list_eq_equiv, texts_ties}
use Rattle.std.specs.BTreeMap as map
use Rattle.std.specs.BTreeMap.{BTreeMap}
use Rattle.std.specs.Map.{lookup, KeepsOthers}
use Rattle.std.proofs.lemmas.Bool.{cases_Bool, cond-true, cond-false}
use Rattle.std.proofs.lemmas.Slice.Eq.{bytes_eq-Decides}
use Rattle.fast_check_tables_packages.specs.declared.texts.TextPlaces.{TextPlaces}
use Rattle.fast_check_tables_packages.specs.First.{first_place}
use Rattle.fast_check_tables_packages.specs.Texts.{place_of, HasTextPlaces}
use Rattle.fast_check_tables_packages.proofs.First.{first_push}

-- ---- a place that is put

abbrev Places : Type 0
Places = BTreeMap (Vec ℕ Global) ℕ

-- the place that entries have for a text
abbrev pub place_in : List ℕ → List (Vec ℕ Global × ℕ) → Option ℕ
place_in text entries = lookup (λ k. is_eq (slice_cmp nat_cmp text k.items)) entries

apart : (text asked key : List ℕ) → bytes_eq text asked ≡ false → is_eq (slice_cmp nat_cmp text key) ≡ true →
    is_eq (slice_cmp nat_cmp asked key) ≡ false
apart text asked key n y =
    sym (texts_ties asked key) ∙
    (nat_list_eq_equiv.symm asked key ∙ (sym (nat_list_eq_equiv.congr text key asked (texts_ties text key ∙ y)) ∙ n))

others : (text asked : List ℕ) (old new : List (Vec ℕ Global × ℕ))
    → KeepsOthers (eq_by_cmp (λ a b. slice_cmp nat_cmp a.items b.items)) (λ k. is_eq (slice_cmp nat_cmp text k.items)) old new →
    bytes_eq text asked ≡ false
    → lookup (λ k. is_eq (slice_cmp nat_cmp asked k.items)) new ≡ lookup (λ k. is_eq (slice_cmp nat_cmp asked k.items)) old
unfolding KeepsOthers
others text asked old new h n =
    h (λ k. is_eq (slice_cmp nat_cmp asked k.items)) (λ x y. (eq_by_cmp_equiv nat_list_cmp_total).congr asked x.items y.items)
    (λ k y. apart text asked k.items n y)

or_first : (o : Option ℕ) (place : ℕ) → Some (unwrap_or o place) ≡ option_or o (Some place)
or_first None place = refl
or_first (Some x) place = refl

put_here : (text asked : List ℕ) (place : ℕ) (old new : Places) → place_of text new ≡ Some (unwrap_or (place_of text old) place) →
    bytes_eq text asked ≡ true
    → place_of asked new ≡ option_or (place_of asked old) (cond (bytes_eq text asked) (Some place) None)
put_here text asked place old new here y =
    subst (λ (t : List ℕ). place_of t new ≡ Some (unwrap_or (place_of t old) place)) ((bytes_eq-Decides text asked).0 y) here
    ∙ (or_first (place_of asked old) place
    ∙ ap (λ o. option_or (place_of asked old) o) (sym (cond-true (bytes_eq text asked) (Some place) None y)))

pub or_none : (o : Option ℕ) → o ≡ option_or o None
or_none None = refl
or_none (Some x) = refl

put_other : (text asked : List ℕ) (place : ℕ) (old new : Places) → place_of asked new ≡ place_of asked old → bytes_eq text asked ≡ false
    → place_of asked new ≡ option_or (place_of asked old) (cond (bytes_eq text asked) (Some place) None)
put_other text asked place old new e n =
    e ∙ (or_none (place_of asked old) ∙ ap (λ o. option_or (place_of asked old) o)
    (sym (cond-false (bytes_eq text asked) (Some place) None n)))

-- a text that has no place gets it, and one that has its place keeps it
pub put_or : (text asked : List ℕ) (place : ℕ) (old new : Places)
    → map.UpdatesBy (λ a b. slice_cmp nat_cmp a.items b.items) (λ k. slice_cmp nat_cmp text k.items) old new
    (Some (unwrap_or (place_of text old) place))
    → place_of asked new ≡ option_or (place_of asked old) (cond (bytes_eq text asked) (Some place) None)
put_or text asked place old new u =
    ⊎_elim
    (λ y. put_here text asked place old new u.1 y)
    (λ n. put_other text asked place old new (others text asked old.entries new.entries u.3 n) n)
    (cases_Bool (bytes_eq text asked))

pub none_from : (o : Option ℕ) → is_some o ≡ false → o ≡ None
none_from None h = refl
none_from (Some x) h = absurd (true≢false h)

-- ---- one text more

pub texts_more : (texts : List (List ℕ)) (text : List ℕ) (place : ℕ) (old new : TextPlaces) → place ≡ length texts
    → ((asked : List ℕ) → place_of asked new.places ≡ option_or (place_of asked old.places) (cond (bytes_eq text asked) (Some place) None))
    → HasTextPlaces texts old → HasTextPlaces (texts ++ text ∷ []) new
texts_more texts text place old new at put has = λ asked.
    put asked
    ∙ (ap (λ o. option_or o (cond (bytes_eq text asked) (Some place) None)) (has asked)
    ∙ (ap (λ b. option_or (first_place (bytes_eq asked) texts) (cond b (Some place) None)) (nat_list_eq_equiv.symm text asked)
    ∙ (ap (λ n. option_or (first_place (bytes_eq asked) texts) (cond (bytes_eq asked text) (Some n) None)) at
    ∙ sym (first_push (bytes_eq asked) texts text))))
