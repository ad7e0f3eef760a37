-- An index of texts in the order of their bytes: how it is made, and what is found by it.
use Rattle.std.proofs.Common.{◌≡◌, ◌∙◌, sym, ap, subst, refl, ℕ, zero, suc, ◌<◌, ◌≤◌, ◌-◌, Bool, true, false, ◌&&◌, ◌||◌, cond, List}
use Rattle.std.proofs.Common.{[], ◌∷◌, ◌++◌, length, take, arith, Option, Some, None, Vec, Global, bytes_eq, inl, inr, ⊎_elim, true≢false}
use Rattle.std.proofs.Common.{is_some, slice_index_or, slice_get, option_and_then, All, unwrap_or, ◌⊎◌}
use Rattle.std.specs.Bool.{⊤}
use Rattle.std.specs.Prelude.{SomeIff}
use Rattle.std.specs.Option.{option_map}
use Rattle.std.specs.List.{list_any}
use Rattle.std.specs.List.Sorted.{IsPartitionedBy, IsPartitionPoint, IsStrictlySortedBy}
use Rattle.std.specs.Ordering.{nat_cmp, is_le, is_eq}
use Rattle.std.specs.declared.cmp.Ordering.TheVariants.{Less}
use Rattle.std.specs.Cmp.Lexicographic.{slice_cmp, nat_list_eq_equiv, texts_ties}
use Rattle.std.specs.Map.{keys_of, lookup}
use Rattle.std.proofs.lemmas.Bool.{cases_Bool, cases_lt, cond-true, cond-false, or_right}
use Rattle.std.proofs.lemmas.List.Elements.{All-append, All-cons, All-nil, All-weaker, All-head, All-tail}
use Rattle.std.proofs.lemmas.Option.{get_or_from_slice_get, slice_get_within}
use Rattle.std.proofs.lemmas.Slice.Eq.{bytes_eq-Decides}
use Rattle.std.proofs.lemmas.Map.Keys.{sorted_tail}
use Rattle.std.proofs.lemmas.Map.Views.{All-after_first}
use Rattle.fast_check_tables_packages.specs.Listed.{begins_with}
use Rattle.fast_check_tables_packages.specs.declared.texts.Entry.{Entry}
use Rattle.fast_check_tables_packages.specs.declared.texts.TextIndex.{TextIndex}
use Rattle.fast_check_tables_packages.specs.declared.texts.TextPlaces.{TextPlaces}
use Rattle.fast_check_tables_packages.specs.First.{first_place, earlier}
use Rattle.fast_check_tables_packages.specs.Texts.{is_up_to, IsAscending, IsLastUpTo, IsLongestOf, AreNoted, is_key, keys_in, first_among}
use Rattle.fast_check_tables_packages.specs.Texts.{AreFirsts, IsAppended, HasTextPlaces, IsTextIndex}
use Rattle.fast_check_tables_packages.proofs.First.{first_same, first_same_of, first_none, first_of_either}
use Rattle.fast_check_tables_packages.proofs.Longest.{no_item, longest_is}
use Rattle.fast_check_tables_packages.proofs.Begun.{le_of_beginning, begins_trans, begins_itself, up_to_trans, up_to_itself, not_up_to}
use Rattle.fast_check_tables_packages.proofs.Begun.{no_place, next_below, unlike as not_under}

-- ---- the order of entries

next_up_to : (m n : ℕ) → suc m ≤ suc n → m ≤ n
next_up_to m n h = omega arith

pub parted : (es : List Entry) (text : List ℕ) → IsAscending es → IsPartitionedBy (λ e. is_up_to e.text.items text) es
parted es text s = λ i j d le lt u. up_to_trans (slice_index_or es i d).text.items (slice_index_or es j d).text.items text (s i j d le lt) u

-- the same, entry by entry
abbrev Rises : List Entry → Type 0
Rises [] = ⊤
Rises (e ∷ es) = All (λ f. is_up_to e.text.items f.text.items ≡ true) es × Rises es

rises : (es : List Entry) → IsAscending es → Rises es
rises [] s = tt
rises (e ∷ es) s = (
  (λ k d lt. s 0 (suc k) d (zero_le (suc k)) (next k (length es) lt)),
  rises es (λ i j d le lt. s (suc i) (suc j) d (next_le i j le) (next j (length es) lt)),
)
  where
    zero_le : (n : ℕ) → 0 ≤ n
    zero_le n = omega arith

    next : (m n : ℕ) → m < n → suc m < suc n
    next m n h = omega arith

    next_le : (m n : ℕ) → m ≤ n → suc m ≤ suc n
    next_le m n h = omega arith

ordered_at : (es : List Entry) → Rises es → IsAscending es
ordered_at [] s i j d le lt = absurd (no_place j lt)
ordered_at (e ∷ es) s zero zero d le lt = up_to_itself e.text.items
ordered_at (e ∷ es) s zero (suc j) d le lt = s.0 j d (next_below j (length es) lt)
ordered_at (e ∷ es) s (suc i) zero d le lt = absurd (not_under i le)
ordered_at (e ∷ es) s (suc i) (suc j) d le lt = ordered_at es s.1 i j d (next_up_to i j le) (next_below j (length es) lt)

rises_more : (es : List Entry) (e : Entry) → Rises es → All (λ f. is_up_to f.text.items e.text.items ≡ true) es → Rises (es ++ e ∷ [])
rises_more [] e s h = (All-nil (λ f. is_up_to e.text.items f.text.items ≡ true), tt)
rises_more (f ∷ es) e s h = (
  All-append (λ g. is_up_to f.text.items g.text.items ≡ true) es (e ∷ []) s.0
      (All-cons (λ g. is_up_to f.text.items g.text.items ≡ true) e [] (All-head (λ g. is_up_to g.text.items e.text.items ≡ true) f es h)
      (All-nil (λ g. is_up_to f.text.items g.text.items ≡ true))),
  rises_more es e s.1 (All-tail (λ g. is_up_to g.text.items e.text.items ≡ true) f es h),
)

ascending_more : (es : List Entry) (e : Entry) → IsAscending es → All (λ f. is_up_to f.text.items e.text.items ≡ true) es →
    IsAscending (es ++ e ∷ [])
ascending_more es e s h = ordered_at (es ++ e ∷ []) (rises_more es e (rises es s) h)

-- ---- the last that is not above a text

before : (i n : ℕ) → 1 ≤ n → i ≡ n - 1 → i < n
before i n h e = omega arith

inside : (i n m : ℕ) → 1 ≤ n → i ≡ n - 1 → n ≤ m → i < m
inside i n m h e le = omega arith

pub none_up_to : (es : List Entry) (text : List ℕ) (n : ℕ) → (1 ≤ n → ⊥)
    → IsPartitionPoint (λ e. is_up_to e.text.items text ≡ true) (λ e. is_up_to e.text.items text ≡ false) es n → IsLastUpTo text es None
none_up_to es text n none h = λ k d lt. h.1 k d (under k n none) lt
  where
    under : (k m : ℕ) → (1 ≤ m → ⊥) → m ≤ k
    under k zero f = omega arith
    under k (suc m) f = absurd (f (omega arith))

pub last_up_to : (es : List Entry) (text : List ℕ) (n i : ℕ) (e : Entry) → IsAscending es → 1 ≤ n → i ≡ n - 1 → i < length es →
    slice_get es i ≡ Some e
    → IsPartitionPoint (λ f. is_up_to f.text.items text ≡ true) (λ f. is_up_to f.text.items text ≡ false) es n → IsLastUpTo text es (Some i)
last_up_to es text n i e s one at lt is h = (
  e,
  is,
  subst (λ (f : Entry). is_up_to f.text.items text ≡ true) (same_at e) (h.0 i e (zero_le i) (before i n one at)),
  λ k d under u. ⊎_elim
      (λ below. subst (λ (f : Entry). is_up_to (slice_index_or es k d).text.items f.text.items ≡ true) (same_at d)
      (s k i d (up_to_last k i n at below) lt))
      (λ from. absurd (true≢false (sym u ∙ h.1 k d from under)))
      (cases_lt k n),
)
  where
    zero_le : (m : ℕ) → 0 ≤ m
    zero_le m = omega arith

    up_to_last : (k j m : ℕ) → j ≡ m - 1 → k < m → k ≤ j
    up_to_last k j m f g = omega arith

    same_at : (d : Entry) → slice_index_or es i d ≡ e
    same_at d = get_or_from_slice_get es i e d is

pub last_at : (es : List Entry) (text : List ℕ) (n i : ℕ) → IsAscending es → 1 ≤ n → i ≡ n - 1 → n ≤ length es
    → IsPartitionPoint (λ f. is_up_to f.text.items text ≡ true) (λ f. is_up_to f.text.items text ≡ false) es n → IsLastUpTo text es (Some i)
last_at es text n i s one at le h =
    last_at_got (slice_get es i) refl
  where
    last_at_got : (o : Option Entry) → slice_get es i ≡ o → IsLastUpTo text es (Some i)
    last_at_got None e = absurd (no_item es i e (inside i n (length es) one at le))
    last_at_got (Some k) e = last_up_to es text n i k s one at (inside i n (length es) one at le) e h

pub last_place : (es : List Entry) (text : List ℕ) (n : ℕ) (place : Option ℕ) → IsAscending es → n ≤ length es
    → IsPartitionPoint (λ f. is_up_to f.text.items text ≡ true) (λ f. is_up_to f.text.items text ≡ false) es n
    → SomeIff place (1 ≤ n) (n - 1) → IsLastUpTo text es place
last_place es text n None s le h is = none_up_to es text n is h
last_place es text n (Some i) s le h is = last_at es text n i s is.0 is.1 le h

-- ---- what is found

or_false : (b c : Bool) → b ≡ false → (b || c) ≡ true → c ≡ true
or_false true c n h = absurd (true≢false n)
or_false false c n h = h

at_key : (P : List ℕ → Type 0) (es : List Entry) (t : List ℕ) → All (λ e. P e.text.items) es → is_key es t ≡ true → P t
at_key P [] t a h = absurd (true≢false (sym h))
at_key P (e ∷ es) t a h =
    ⊎_elim
    (λ y. subst P (sym ((bytes_eq-Decides t e.text.items).0 y)) (All-head (λ f. P f.text.items) e es a))
    (λ n. at_key P es t (All-tail (λ f. P f.text.items) e es a) (or_false (bytes_eq t e.text.items) (is_key es t) n h))
    (cases_Bool (bytes_eq t e.text.items))

same_tests : (p q k : Bool) → (k ≡ true → p ≡ true → q ≡ true) → (k ≡ true → q ≡ true → p ≡ true) → (p && k) ≡ (q && k)
same_tests true true k f g = refl
same_tests true false true f g = absurd (true≢false (sym (f refl refl)))
same_tests true false false f g = refl
same_tests false true true f g = absurd (true≢false (sym (g refl refl)))
same_tests false true false f g = refl
same_tests false false k f g = refl

never : (p k : Bool) → (k ≡ true → p ≡ true → ⊥) → (p && k) ≡ false
never true true f = absurd (f refl refl)
never true false f = refl
never false k f = refl

-- what is true of all entries is true of one that is got
all_got : {X : Type 0} (P : X → Type 0) (xs : List X) (i : ℕ) (x : X) → All P xs → slice_get xs i ≡ Some x → P x
all_got P xs i x a e =
    subst P (get_or_from_slice_get xs i x x e) (a i x (slice_get_within xs i x e))

pub found_longest : (texts : List (List ℕ)) (es : List Entry) (text : List ℕ) (place : Option ℕ) → AreFirsts texts es
    → IsLongestOf text es place → option_map (λ e. e.first) (option_and_then (slice_get es) place) ≡ first_among es text texts
found_longest texts es text None are longest =
    sym (first_same (λ t. begins_with t text && is_key es t) (λ _. false)
    (λ t. never (begins_with t text) (is_key es t)
    (λ h b. true≢false (sym b ∙ at_key (λ q. begins_with q text ≡ false) es t (longest.none refl) h))) texts
    ∙ first_none texts)
found_longest texts es text (Some i) are h =
    let is = longest_is text es i h in
    let k = is.0 in
    ap (λ (o : Option Entry). option_map (λ e. e.first) o) is.1
    ∙ (sym (all_got (λ e. first_among es e.text.items texts ≡ Some e.first) es i k are.firsts is.1)
    ∙ first_same (λ t. begins_with t k.text.items && is_key es t) (λ t. begins_with t text && is_key es t)
    (λ t. same_tests (begins_with t k.text.items) (begins_with t text) (is_key es t)
    (λ h b. begins_trans t k.text.items text b is.2)
    (λ h b. at_key (λ q. begins_with q text ≡ true → begins_with q k.text.items ≡ true) es t is.3 h b)) texts)

-- ---- one text more

pub or_none : (b : Bool) → (b || false) ≡ b
or_none true = refl
or_none false = refl

or_assoc : (a b c : Bool) → (a || (b || c)) ≡ ((a || b) || c)
or_assoc true b c = refl
or_assoc false b c = refl

key_more : (es : List Entry) (e : Entry) (t : List ℕ) → is_key (es ++ e ∷ []) t ≡ (is_key es t || bytes_eq t e.text.items)
key_more [] e t = or_none (bytes_eq t e.text.items)
key_more (f ∷ es) e t =
    ap (λ b. bytes_eq t f.text.items || b) (key_more es e t) ∙ or_assoc (bytes_eq t f.text.items) (is_key es t) (bytes_eq t e.text.items)

-- where the new text does not begin a text, nothing changes
not_more : (p k n : Bool) → (n ≡ true → p ≡ true → ⊥) → (p && (k || n)) ≡ (p && k)
not_more false k n f = refl
not_more true true n f = refl
not_more true false true f = absurd (f refl refl)
not_more true false false f = refl

same_as_before : (es : List Entry) (e : Entry) (text : List ℕ) → slice_cmp nat_cmp text e.text.items ≡ Less → (t : List ℕ)
    → (begins_with t text && is_key (es ++ e ∷ []) t) ≡ (begins_with t text && is_key es t)
same_as_before es e text below t =
    ap (λ b. begins_with t text && b) (key_more es e t)
    ∙ not_more (begins_with t text) (is_key es t) (bytes_eq t e.text.items)
    (λ y b. true≢false (sym (subst (λ (q : List ℕ). is_up_to q text ≡ true) ((bytes_eq-Decides t e.text.items).0 y)
    (le_of_beginning t text b))
    ∙ not_up_to text e.text.items below))

as_before : (texts : List (List ℕ)) (es : List Entry) (e : Entry) (text : List ℕ) → slice_cmp nat_cmp text e.text.items ≡ Less
    → first_among (es ++ e ∷ []) text texts ≡ first_among es text texts
as_before texts es e text below =
    first_same (λ t. begins_with t text && is_key (es ++ e ∷ []) t) (λ t. begins_with t text && is_key es t)
    (λ t. same_as_before es e text below t) texts

own_more : (p k n m : Bool) → n ≡ m → (n ≡ true → p ≡ true) → (p && (k || n)) ≡ ((p && k) || m)
own_more true true n m e f = refl
own_more true false n m e f = e
own_more false k true m e f = absurd (true≢false (sym (f refl)))
own_more false k false m e f = e

own_first : (texts : List (List ℕ)) (es : List Entry) (e : Entry)
    → first_among (es ++ e ∷ []) e.text.items texts
    ≡ earlier (first_among es e.text.items texts) (first_place (bytes_eq e.text.items) texts)
own_first texts es e =
    let text = e.text.items in
    first_same (λ t. begins_with t text && is_key (es ++ e ∷ []) t) (λ t. (begins_with t text && is_key es t) || bytes_eq text t)
    (λ t. ap (λ b. begins_with t text && b) (key_more es e t)
    ∙ own_more (begins_with t text) (is_key es t) (bytes_eq t text) (bytes_eq text t) (nat_list_eq_equiv.symm t text)
    (λ y. subst (λ (q : List ℕ). begins_with q text ≡ true) (sym ((bytes_eq-Decides t text).0 y)) (begins_itself text))) texts
    ∙ first_of_either (λ t. begins_with t text && is_key es t) (bytes_eq text) texts

-- the entries before a place of one more
more_at : (es : List Entry) (e : Entry) (i : ℕ) (f : Entry) → slice_get (es ++ e ∷ []) i ≡ Some f
    → ((slice_get es i ≡ Some f) × (take i (es ++ e ∷ []) ≡ take i es)) ⊎ ((e ≡ f) × (take i (es ++ e ∷ []) ≡ es))
more_at [] e zero f at = inr (ap (λ (o : Option Entry). unwrap_or o e) at, refl)
more_at [] e (suc i) f at = absurd (true≢false (sym (ap is_some at)))
more_at (x ∷ es) e zero f at = inl (at, refl)
more_at (x ∷ es) e (suc i) f at =
    ⊎_elim
    (λ h. inl (h.0, ap (λ (xs : List Entry). x ∷ xs) h.1))
    (λ h. inr (h.0, ap (λ (xs : List Entry). x ∷ xs) h.1))
    (more_at es e i f at)

noted_more : (es : List Entry) (e : Entry) → AreNoted es → IsLongestOf e.text.items es e.longest_before → AreNoted (es ++ e ∷ [])
noted_more es e noted longest i f at =
    ⊎_elim
    (λ h. subst (λ (xs : List Entry). IsLongestOf f.text.items xs f.longest_before) (sym h.1) (noted i f h.0))
    (λ h. subst (λ (xs : List Entry). IsLongestOf f.text.items xs f.longest_before) (sym h.1)
    (subst (λ (g : Entry). IsLongestOf g.text.items es g.longest_before) h.0 longest))
    (more_at es e i f at)

pub firsts_more : (texts : List (List ℕ)) (es : List Entry) (e : Entry) (place : ℕ) → first_place (bytes_eq e.text.items) texts ≡ Some place
    → IsAppended e.text.items es → AreFirsts texts es → IsLongestOf e.text.items es e.longest_before
    → earlier (first_among es e.text.items texts) (Some place) ≡ Some e.first → AreFirsts texts (es ++ e ∷ [])
firsts_more texts es e place own above are longest is = record {
  ascending = ascending_more es e are.ascending
      (All-weaker (λ f. slice_cmp nat_cmp f.text.items e.text.items ≡ Less) (λ f. is_up_to f.text.items e.text.items ≡ true)
      (λ f h. ap is_le h) es above);
  noted = noted_more es e are.noted longest;
  firsts =
      All-append (λ f. first_among (es ++ e ∷ []) f.text.items texts ≡ Some f.first) es (e ∷ [])
      (λ k d lt. as_before texts es e (slice_index_or es k d).text.items (above k d lt) ∙ are.firsts k d lt)
      (All-cons (λ f. first_among (es ++ e ∷ []) f.text.items texts ≡ Some f.first) e []
      (own_first texts es e ∙ (ap (λ (o : Option ℕ). earlier (first_among es e.text.items texts) o) own ∙ is))
      (All-nil (λ f. first_among (es ++ e ∷ []) f.text.items texts ≡ Some f.first)));
}

pub some_earlier : (o : Option ℕ) (place : ℕ) → earlier o (Some place) ≡ Some (unwrap_or (earlier o (Some place)) place)
some_earlier None place = refl
some_earlier (Some p) place = refl

-- ---- all texts of a map

sorted_before : (xs : List (Vec ℕ Global)) (k : Vec ℕ Global) (ys : List (Vec ℕ Global))
    → IsStrictlySortedBy (λ a b. slice_cmp nat_cmp a.items b.items) (xs ++ k ∷ ys) → All (λ x. slice_cmp nat_cmp x.items k.items ≡ Less) xs
sorted_before [] k ys s = All-nil (λ x. slice_cmp nat_cmp x.items k.items ≡ Less)
sorted_before (x ∷ xs) k ys s =
    All-cons (λ y. slice_cmp nat_cmp y.items k.items ≡ Less) x xs
    (among xs (All-after_first (λ a b. slice_cmp nat_cmp a.items b.items) x (xs ++ k ∷ ys) s))
    (sorted_before xs k ys (sorted_tail (λ a b. slice_cmp nat_cmp a.items b.items) x (xs ++ k ∷ ys) s))
  where
    among : (zs : List (Vec ℕ Global)) → All (λ q. slice_cmp nat_cmp x.items q.items ≡ Less) (zs ++ k ∷ ys)
        → slice_cmp nat_cmp x.items k.items ≡ Less
    among [] h = All-head (λ q. slice_cmp nat_cmp x.items q.items ≡ Less) k ys h
    among (z ∷ zs) h = among zs (All-tail (λ q. slice_cmp nat_cmp x.items q.items ≡ Less) z (zs ++ k ∷ ys) h)

All-of_keys : (P : Vec ℕ Global → Type 0) (es : List Entry) → All P (keys_in es) → All (λ e. P e.text) es
All-of_keys P [] h = All-nil (λ e. P e.text)
All-of_keys P (e ∷ es) h =
    All-cons (λ f. P f.text) e es (All-head P e.text (keys_in es) h) (All-of_keys P es (All-tail P e.text (keys_in es) h))

-- the next of the map is above all before
pub is_appended : (es : List Entry) (k : Vec ℕ Global) (ys all : List (Vec ℕ Global))
    → IsStrictlySortedBy (λ a b. slice_cmp nat_cmp a.items b.items) all → keys_in es ++ k ∷ ys ≡ all → IsAppended k.items es
is_appended es k ys all s e =
    All-of_keys (λ x. slice_cmp nat_cmp x.items k.items ≡ Less) es
    (sorted_before (keys_in es) k ys
    (subst (λ (ks : List (Vec ℕ Global)). IsStrictlySortedBy (λ a b. slice_cmp nat_cmp a.items b.items) ks) (sym e) s))

pub keys_more : (es : List Entry) (e : Entry) → keys_in (es ++ e ∷ []) ≡ keys_in es ++ e.text ∷ []
keys_more [] e = refl
keys_more (f ∷ es) e = ap (λ ks. f.text ∷ ks) (keys_more es e)

pub keys_over : (ks : List (Vec ℕ Global)) (k : Vec ℕ Global) (ys : List (Vec ℕ Global)) → (ks ++ k ∷ []) ++ ys ≡ ks ++ k ∷ ys
keys_over [] k ys = refl
keys_over (x ∷ ks) k ys = ap (λ xs. x ∷ xs) (keys_over ks k ys)

pub keys_done : (ks : List (Vec ℕ Global)) → ks ++ [] ≡ ks
keys_done [] = refl
keys_done (k ∷ ks) = ap (λ xs. k ∷ xs) (keys_done ks)

later : (b : Bool) (o : Option ℕ) → is_some o ≡ true → is_some (cond b (Some 0) (option_map suc o)) ≡ true
later true o h = refl
later false None h = h
later false (Some x) h = refl

-- each of some texts has a first place among them
each_found : (texts : List (List ℕ)) → All (λ t. is_some (first_place (bytes_eq t) texts) ≡ true) texts
each_found [] = All-nil (λ t. is_some (first_place (bytes_eq t) []) ≡ true)
each_found (x ∷ xs) =
    All-cons (λ t. is_some (first_place (bytes_eq t) (x ∷ xs)) ≡ true) x xs
    (ap is_some (cond-true (bytes_eq x x) (Some 0) (option_map suc (first_place (bytes_eq x) xs)) (nat_list_eq_equiv.refl x)))
    (All-weaker (λ t. is_some (first_place (bytes_eq t) xs) ≡ true) (λ t. is_some (first_place (bytes_eq t) (x ∷ xs)) ≡ true)
    (λ t h. later (bytes_eq t x) (first_place (bytes_eq t) xs) h) xs (each_found xs))

-- a text that is looked up is a key
looked_up : (es : List (Vec ℕ Global × ℕ)) (t : List ℕ) → is_some (lookup (λ k. is_eq (slice_cmp nat_cmp t k.items)) es) ≡ true →
    list_any (λ k. bytes_eq t k.items) (keys_of es) ≡ true
looked_up [] t h = h
looked_up (e ∷ es) t h =
    ⊎_elim
    (λ y. or_first (bytes_eq t e.0.items) (list_any (λ k. bytes_eq t k.items) (keys_of es)) y)
    (λ n. or_right (bytes_eq t e.0.items) (list_any (λ k. bytes_eq t k.items) (keys_of es)) (looked_up es t
    (subst (λ (o : Option ℕ). is_some o ≡ true)
    (cond-false (is_eq (slice_cmp nat_cmp t e.0.items)) (Some e.1) (lookup (λ k. is_eq (slice_cmp nat_cmp t k.items)) es)
    (sym (texts_ties t e.0.items) ∙ n)) h)))
    (cases_Bool (bytes_eq t e.0.items))
  where
    or_first : (b c : Bool) → b ≡ true → (b || c) ≡ true
    or_first true c h = refl
    or_first false c h = absurd (true≢false (sym h))

pub all_indexed : (texts : List (List ℕ)) (places : TextPlaces) (index : TextIndex) → HasTextPlaces texts places
    → keys_in index.entries.items ≡ keys_of places.places.entries → AreFirsts texts index.entries.items → IsTextIndex texts index
all_indexed texts places index has same are = record {
  are_firsts = are;
  has_texts =
      All-weaker (λ t. is_some (first_place (bytes_eq t) texts) ≡ true) (λ t. is_key index.entries.items t ≡ true)
      (λ t h. subst (λ (ks : List (Vec ℕ Global)). list_any (λ k. bytes_eq t k.items) ks ≡ true) (sym same)
      (looked_up places.places.entries t (ap is_some (has t) ∙ h))) texts (each_found texts);
}

pub firsts_none : (texts : List (List ℕ)) → AreFirsts texts []
firsts_none texts = record {
  ascending = ordered_at [] tt;
  noted = λ i e at. absurd (true≢false (sym (ap is_some at)));
  firsts = All-nil (λ e. first_among [] e.text.items texts ≡ Some e.first);
}

pub none_more : (texts : List (List ℕ)) (index : TextIndex) (text : List ℕ) → IsTextIndex texts index
    → first_among index.entries.items text texts ≡ first_place (λ t. begins_with t text) texts
none_more texts index text h =
    first_same_of (λ t. begins_with t text && is_key index.entries.items t) (λ t. begins_with t text) texts
    (All-weaker (λ t. is_key index.entries.items t ≡ true) (λ t. (begins_with t text && is_key index.entries.items t) ≡ begins_with t text)
    (λ t e. kept (begins_with t text) (is_key index.entries.items t) e) texts h.has_texts)
  where
    kept : (b c : Bool) → c ≡ true → (b && c) ≡ b
    kept true c h = h
    kept false c h = refl
