-- The way from the last text that is not above another to the longest that begins it.
use Rattle.std.proofs.Common.{◌≡◌, ◌∙◌, sym, ap, subst, refl, ℕ, zero, suc, ◌<◌, ◌≤◌, true, false, List, [], ◌∷◌, length, take, arith}
use Rattle.std.proofs.Common.{Option, Some, None, ⊎_elim, true≢false, is_some, slice_index_or, slice_get, All, unwrap_or}
use Rattle.std.proofs.lemmas.Bool.{cases_Bool, cases_lt}
use Rattle.std.proofs.lemmas.List.Elements.{All-head, All-tail}
use Rattle.std.proofs.lemmas.Option.{get_or_from_slice_get, slice_get_within, slice_get-get_or}
use Rattle.fast_check_tables_packages.specs.Listed.{begins_with}
use Rattle.fast_check_tables_packages.specs.declared.texts.Entry.{Entry}
use Rattle.fast_check_tables_packages.specs.Texts.{is_up_to, common, IsAscending, IsLastUpTo, IsLongestAt, IsLongestOf, AreNoted}
use Rattle.fast_check_tables_packages.proofs.Begun.{le_of_beginning, begins_between, begins_trans, begins_itself, begins_both}
use Rattle.fast_check_tables_packages.proofs.Begun.{begins_other, no_shorter, no_place, next_below}

-- ---- the longest that begins a text

pub no_item : {X : Type 0} (xs : List X) (i : ℕ) → slice_get xs i ≡ None → i < length xs → ⊥
no_item [] i e lt = no_place i lt
no_item (x ∷ xs) zero e lt = true≢false (ap is_some e)
no_item (x ∷ xs) (suc i) e lt = no_item xs i e (next_below i (length xs) lt)

pub item : {X : Type 0} (xs : List X) (i : ℕ) → i < length xs → (x : X) × (slice_get xs i ≡ Some x)
item {X = X} xs i lt = got (slice_get xs i) refl
  where
    got : (o : Option X) → slice_get xs i ≡ o → (x : X) × (slice_get xs i ≡ Some x)
    got None e = absurd (no_item xs i e lt)
    got (Some x) e = (x, e)

pub longest_none : (text : List ℕ) (es : List Entry) → All (λ e. begins_with e.text.items text ≡ false) es → IsLongestOf text es None
longest_none text es h = record { none = λ _. h; some = λ i e. absurd (true≢false (sym (ap is_some e))) }

pub longest_some : (text : List ℕ) (es : List Entry) (i : ℕ) (k : Entry) → slice_get es i ≡ Some k → begins_with k.text.items text ≡ true
    → All (λ e. begins_with e.text.items text ≡ true → begins_with e.text.items k.text.items ≡ true) es → IsLongestOf text es (Some i)
longest_some text es i k at begins longest = record {
  none = λ e. absurd (true≢false (ap is_some e));
  some = λ j e. subst (λ (q : ℕ). IsLongestAt text es q) (ap (λ (o : Option ℕ). unwrap_or o j) e) (
    slice_get_within es i k at,
    λ q is. subst (λ (g : Entry). (begins_with g.text.items text ≡ true)
        × All (λ f. begins_with f.text.items text ≡ true → begins_with f.text.items g.text.items ≡ true) es)
        (sym (get_or_from_slice_get es i k q at) ∙ get_or_from_slice_get es i q q is) (begins, longest),
  );
}

pub longest_is : (text : List ℕ) (es : List Entry) (i : ℕ) → IsLongestOf text es (Some i)
    → (k : Entry) × (slice_get es i ≡ Some k) × (begins_with k.text.items text ≡ true)
    × All (λ e. begins_with e.text.items text ≡ true → begins_with e.text.items k.text.items ≡ true) es
longest_is text es i h =
    let inside = h.some i refl in
    let got = item es i inside.0 in (got.0, got.1, (inside.1 got.0 got.1).0, (inside.1 got.0 got.1).1)

-- where all are above a text, none begins it
pub none_begins : (text : List ℕ) (es : List Entry) → IsLastUpTo text es None → IsLongestOf text es None
none_begins text es above =
    longest_none text es (λ k d lt. ⊎_elim
    (λ y. absurd (true≢false (sym (le_of_beginning (slice_index_or es k d).text.items text y) ∙ above k d lt)))
    (λ no. no)
    (cases_Bool (begins_with (slice_index_or es k d).text.items text)))

-- ---- the way

-- the entry at a place stands on the way to the longest that begins a text: what begins the text begins it, too, and is at
-- most n long; and what begins it and is at most n long begins the text
pub record IsOnWay (text : List ℕ) (es : List Entry) (n place : ℕ) (e : Entry) : Type 0 where
  pub found : slice_get es place ≡ Some e
  pub each : All (λ f. begins_with f.text.items text ≡ true → (begins_with f.text.items e.text.items ≡ true) × (length f.text.items ≤ n)) es
  pub only : (t : List ℕ) → begins_with t e.text.items ≡ true → length t ≤ n → begins_with t text ≡ true

-- the way begins at the last that is not above it
pub way_begins : (text : List ℕ) (es : List Entry) (place : ℕ) (k : Entry) → IsLastUpTo text es (Some place) → slice_get es place ≡ Some k
    → IsOnWay text es (common k.text.items text) place k
way_begins text es place k (j, at, up, last) found =
    subst (λ (q : Entry). IsOnWay text es (common q.text.items text) place q) (same (Some j) at) (record {
      found = at;
      each = λ i d lt b.
          let f = slice_index_or es i d in
          let inner = begins_between f.text.items j.text.items text b (last i d lt (le_of_beginning f.text.items text b)) up in
          (inner, begins_both f.text.items j.text.items text inner b);
      only = λ t b le. begins_other t j.text.items text b le;
    })
  where
    same : (o : Option Entry) → slice_get es place ≡ o → j ≡ k
    same o e = sym (get_or_from_slice_get es place j j at) ∙ get_or_from_slice_get es place k j found

pub way_at : (text : List ℕ) (es : List Entry) (n place : ℕ) (e k : Entry) → IsOnWay text es n place e → slice_get es place ≡ Some k
    → IsOnWay text es n place k
way_at text es n place e k way found =
    subst (λ (q : Entry). IsOnWay text es n place q)
    (sym (get_or_from_slice_get es place e e way.found) ∙ get_or_from_slice_get es place k e found) way

-- it ends at one that is not longer
pub way_ends : (text : List ℕ) (es : List Entry) (n place : ℕ) (e : Entry) → IsOnWay text es n place e → length e.text.items ≤ n
    → IsLongestOf text es (Some place)
way_ends text es n place e way le =
    longest_some text es place e way.found (way.only e.text.items (begins_itself e.text.items) le) (λ i d lt b. (way.each i d lt b).0)

-- ---- the entries before a place

got_before : (es : List Entry) (p i : ℕ) (e : Entry) → slice_get (take p es) i ≡ Some e → (i < p) × (slice_get es i ≡ Some e)
got_before es zero i e at = absurd (true≢false (sym (ap is_some at)))
got_before [] (suc p) i e at = absurd (true≢false (sym (ap is_some at)))
got_before (x ∷ es) (suc p) zero e at = (under p, at)
  where
    under : (m : ℕ) → 0 < suc m
    under m = omega arith
got_before (x ∷ es) (suc p) (suc i) e at = let h = got_before es p i e at in (over i p h.0, h.1)
  where
    over : (m n : ℕ) → m < n → suc m < suc n
    over m n h = omega arith

all_before : (P : Entry → Type 0) (es : List Entry) (p i : ℕ) (e : Entry) → All P (take p es) → slice_get es i ≡ Some e → i < p → P e
all_before P es zero i e a at lt = absurd (no_place i lt)
all_before P [] (suc p) i e a at lt = absurd (true≢false (sym (ap is_some at)))
all_before P (x ∷ es) (suc p) zero e a at lt =
    subst P (get_or_from_slice_get (x ∷ es) zero e e at) (All-head P x (take p es) a)
all_before P (x ∷ es) (suc p) (suc i) e a at lt = all_before P es p i e (All-tail P x (take p es) a) at (next_below i p lt)

-- what begins the text stands before an entry that is too long
stands_before : (text : List ℕ) (es : List Entry) (n p : ℕ) (e : Entry) → IsAscending es → IsOnWay text es n p e
    → n < length e.text.items → (k : ℕ) (d : Entry) → k < length es
    → begins_with (slice_index_or es k d).text.items text ≡ true → k < p
stands_before text es n p e s way long k d lt b =
    ⊎_elim
    (λ below. below)
    (λ from. let f = slice_index_or es k d in
    absurd (apart (length f.text.items) n (length e.text.items) (way.each k d lt b).1 long
    (no_shorter f.text.items e.text.items (way.each k d lt b).0
    (subst (λ (q : Entry). is_up_to q.text.items f.text.items ≡ true) (get_or_from_slice_get es p e d way.found) (s p k d from lt)))))
    (cases_lt k p)
  where
    apart : (a b c : ℕ) → a ≤ b → b < c → c ≤ a → ⊥
    apart a b c h f g = omega arith

-- where there is no note, nothing begins the text
pub way_fails : (text : List ℕ) (es : List Entry) (n p : ℕ) (e : Entry) → IsAscending es → AreNoted es → IsOnWay text es n p e
    → n < length e.text.items → e.longest_before ≡ None → IsLongestOf text es None
way_fails text es n p e s noted way long none =
    let note = (noted p e way.found).none none in
    longest_none text es (λ k d lt. ⊎_elim
    (λ y. absurd (true≢false (sym (way.each k d lt y).0
    ∙ all_before (λ f. begins_with f.text.items e.text.items ≡ false) es p k (slice_index_or es k d) note (slice_get-get_or es k d lt)
    (stands_before text es n p e s way long k d lt y))))
    (λ no. no)
    (cases_Bool (begins_with (slice_index_or es k d).text.items text)))

-- what is noted
noted_at : (es : List Entry) (p q : ℕ) (e : Entry) → AreNoted es → slice_get es p ≡ Some e → e.longest_before ≡ Some q
    → (k : Entry) × (slice_get (take p es) q ≡ Some k) × (begins_with k.text.items e.text.items ≡ true)
    × All (λ f. begins_with f.text.items e.text.items ≡ true → begins_with f.text.items k.text.items ≡ true) (take p es)
noted_at es p q e noted at some =
    longest_is e.text.items (take p es) q
    (subst (λ (o : Option ℕ). IsLongestOf e.text.items (take p es) o) some (noted p e at))

-- the noted one stands before
pub note_before : (text : List ℕ) (es : List Entry) (n p q : ℕ) (e : Entry) → AreNoted es → IsOnWay text es n p e
    → e.longest_before ≡ Some q → q < p
note_before text es n p q e noted way some =
    let note = noted_at es p q e noted way.found some in
    (got_before es p q note.0 note.1).0

-- and on the way
pub way_goes_on : (text : List ℕ) (es : List Entry) (n p q : ℕ) (e : Entry) → IsAscending es → AreNoted es → IsOnWay text es n p e
    → n < length e.text.items → e.longest_before ≡ Some q → (g : Entry) × IsOnWay text es n q g
way_goes_on text es n p q e s noted way long some =
    let note = noted_at es p q e noted way.found some in
    let g = note.0 in (
      g,
      record {
        found = (got_before es p q g note.1).1;
        each = λ k d lt b. (
          all_before (λ f. begins_with f.text.items e.text.items ≡ true → begins_with f.text.items g.text.items ≡ true) es p k
              (slice_index_or es k d) note.3 (slice_get-get_or es k d lt) (stands_before text es n p e s way long k d lt b)
              (way.each k d lt b).0,
          (way.each k d lt b).1,
        );
        only = λ t b le. way.only t (begins_trans t g.text.items e.text.items b note.2) le;
      },
    )
