-- Places sorted by the names that stand there.
use Rattle.std.proofs.Common.{◌≡◌, ◌∙◌, sym, ap, refl, subst, ⊎_elim, ℕ, zero, suc, ◌+◌, ◌-◌, ◌<◌, ◌≤◌, List, [], ◌∷◌, ◌++◌}
use Rattle.std.proofs.Common.{arith, length, get_or, Ordering, string_bytes, Bool, true, false, eqb, AllPairs, ◌≢◌, Bor}
use Rattle.std.specs.List.{insert}
use Rattle.std.specs.List.Sorted.{IsPermutation, IsSortedBy}
use Rattle.std.specs.Fn.{Called, ComparesAs, Mut}
use Rattle.std.proofs.lemmas.Fn.{always_returns_same}
use Rattle.std.proofs.lemmas.List.Sorted.{IsPermutation-sym, Contains-permutation, sorted_far, ranks_by}
use Rattle.std.proofs.lemmas.Map.Made.{AllPairs-from_IsDistinct, IsDistinct-from_AllPairs}
use Rattle.std.proofs.lemmas.Map.Keys.{IsDistinct-IsPermutation}
use Rattle.std.proofs.lemmas.List.Elements.{Contains-get_or}
use Rattle.std.proofs.lemmas.Bool.Decides.{eqb_tells, Decides-eqb}
use Rattle.std.specs.Cmp.{IsStrictWeakOrder}
use Rattle.std.specs.Cmp.Lexicographic.{slice_cmp}
use Rattle.std.specs.Ordering.{nat_cmp, is_eq, is_lt, ordering_reverse}
use Rattle.std.specs.declared.cmp.Ordering.TheVariants.{Less, Equal, Greater}
use Rattle.std.proofs.lemmas.Cmp.{nat_list_cmp_total, tied_itself}
use Rattle.std.proofs.lemmas.Map.Text.{is_eq-slice_cmp}
use Rattle.std.proofs.lemmas.Slice.Eq.{bytes_eq-Decides}
use Rattle.std.proofs.lemmas.Bool.{false≢true, cases_lt, cases_order, eq-eqb, ne_eqb}
use Rattle.std.proofs.lemmas.List.{get_or-map, length-map, length-append, get_or_append_left, get_or_at, get_or_default, map_push}
use Rattle.std.proofs.lemmas.List.Edits.{length-insert, get_or-insert_below, get_or-insert_at, get_or-insert_above}
use Rattle.fast_check_finder_lattice.specs.declared.lattice.node.Node.{Node}
use Rattle.fast_check_finder_lattice.specs.Order.{ArePlaces, Name, Entry, names_in, name_at, keys, IsRising, IsSorted, IsGap, IsAbsent, IsOnce, IsCount}

less_greater : (o : Ordering) → Less ≡ ordering_reverse o → o ≡ Greater
less_greater Less h = cc
less_greater Equal h = cc
less_greater Greater h = refl

greater_less : (o : Ordering) → Greater ≡ ordering_reverse o → o ≡ Less
greater_less Less h = refl
greater_less Equal h = cc
greater_less Greater h = cc

back : (n m : Name) → slice_cmp nat_cmp n m ≡ Less → slice_cmp nat_cmp m n ≡ Greater
back n m h = less_greater (slice_cmp nat_cmp m n) (sym h ∙ nat_list_cmp_total.antisymm n m)

forth : (n m : Name) → slice_cmp nat_cmp n m ≡ Greater → slice_cmp nat_cmp m n ≡ Less
forth n m h = greater_less (slice_cmp nat_cmp m n) (sym h ∙ nat_list_cmp_total.antisymm n m)

less_differ : (n m : Name) → slice_cmp nat_cmp n m ≡ Less → n ≡ m → ⊥
less_differ n m h e = let s : slice_cmp nat_cmp n m ≡ Equal = subst (λ (k : Name). slice_cmp nat_cmp n k ≡ Equal) e
    (tied_itself nat_list_cmp_total n) in cc

greater_differ : (n m : Name) → slice_cmp nat_cmp n m ≡ Greater → n ≡ m → ⊥
greater_differ n m h e = let s : slice_cmp nat_cmp n m ≡ Equal =
    subst (λ (k : Name). slice_cmp nat_cmp n k ≡ Equal) e (tied_itself nat_list_cmp_total n) in cc

pub equal_same : (n m : Name) → slice_cmp nat_cmp n m ≡ Equal → n ≡ m
equal_same n m h = (bytes_eq-Decides n m).0 (sym (is_eq-slice_cmp n m) ∙ ap is_eq h)

-- its neighbours tell that a place is where the name would stand
pub gap_from : (ms : List Name) (n : Name) (p : ℕ) → IsRising ms → p ≤ length ms → (0 < p → slice_cmp nat_cmp (get_or ms (p - 1) []) n ≡ Less) →
    (p < length ms → slice_cmp nat_cmp (get_or ms p []) n ≡ Greater) → IsGap ms n p
gap_from ms n p rising within low high = record {
  within = within;
  before = λ k h. ⊎_elim
      (λ (l : k < p - 1). nat_list_cmp_total.trans (get_or ms k []) (get_or ms (p - 1) []) n (rising k (p - 1) l (omega (arith, h, within)))
      (low (omega (arith, h))))
      (λ (l : p - 1 ≤ k). let e : k ≡ p - 1 = omega (arith, l, h) in
      subst (λ (m : ℕ). slice_cmp nat_cmp (get_or ms m []) n ≡ Less) (sym e) (low (omega (arith, h))))
      (cases_lt k (p - 1));
  behind = λ k h w. ⊎_elim
      (λ (l : p < k). back n (get_or ms k [])
      (nat_list_cmp_total.trans n (get_or ms p []) (get_or ms k []) (forth (get_or ms p []) n (high (omega (arith, l, w))))
      (rising p k l w)))
      (λ (l : k ≤ p). let e : k ≡ p = omega (arith, l, h) in
      subst (λ (m : ℕ). slice_cmp nat_cmp (get_or ms m []) n ≡ Greater) (sym e) (high (subst (λ (m : ℕ). m < length ms) e w)))
      (cases_lt p k);
}

pub rising_insert : (ns : List Name) (i : ℕ) (n : Name) → IsRising ns → IsGap ns n i → IsRising (insert ns i n)
rising_insert ns i n rising gap j k l w =
    let len = length-insert ns i n gap.within in
    let fits = gap.within in
    let P : Name → Name → Type 0 = λ a b. slice_cmp nat_cmp a b ≡ Less in
    let below : (q : ℕ) → q < i → get_or (insert ns i n) q [] ≡ get_or ns q [] = λ q h. get_or-insert_below ns i n [] q h fits in
    let here : get_or (insert ns i n) i [] ≡ n = get_or-insert_at ns i n [] fits in
    let above : (q : ℕ) → i ≤ q → get_or (insert ns i n) (q + 1) [] ≡ get_or ns q [] = λ q h. get_or-insert_above ns i n [] q h fits in
    ⊎_elim
    (λ (jk : k ≡ i). subst (λ (q : ℕ). P (get_or (insert ns i n) j []) (get_or (insert ns i n) q [])) (sym jk)
    (subst (λ (x : Name). P x (get_or (insert ns i n) i [])) (sym (below j (omega (arith, jk, l))))
    (subst (λ (x : Name). P (get_or ns j []) x) (sym here) (gap.before j (omega (arith, jk, l))))))
    (⊎_elim
    (λ (kb : k < i).
    subst (λ (x : Name). P x (get_or (insert ns i n) k [])) (sym (below j (omega (arith, kb, l))))
    (subst (λ (x : Name). P (get_or ns j []) x) (sym (below k kb)) (rising j k l (omega (arith, kb, gap.within)))))
    (λ (ka : i < k).
    let up : k ≡ (k - 1) + 1 = omega (arith, ka) in
    let at_k : get_or (insert ns i n) k [] ≡ get_or ns (k - 1) [] =
    subst (λ (q : ℕ). get_or (insert ns i n) q [] ≡ get_or ns (k - 1) []) (sym up) (above (k - 1) (omega (arith, ka))) in
    subst (λ (x : Name). P (get_or (insert ns i n) j []) x) (sym at_k)
    (⊎_elim
    (λ (ji : j ≡ i). subst (λ (q : ℕ). P (get_or (insert ns i n) q []) (get_or ns (k - 1) [])) (sym ji)
    (subst (λ (x : Name). P x (get_or ns (k - 1) [])) (sym here)
    (forth (get_or ns (k - 1) []) n (gap.behind (k - 1) (omega (arith, ka)) (omega (arith, w, len, ka))))))
    (⊎_elim
    (λ (jb : j < i). subst (λ (x : Name). P x (get_or ns (k - 1) [])) (sym (below j jb))
    (rising j (k - 1) (omega (arith, jb, ka)) (omega (arith, w, len, ka))))
    (λ (ja : i < j).
    let uj : j ≡ (j - 1) + 1 = omega (arith, ja) in
    subst (λ (x : Name). P x (get_or ns (k - 1) []))
    (sym (subst (λ (q : ℕ). get_or (insert ns i n) q [] ≡ get_or ns (j - 1) []) (sym uj) (above (j - 1) (omega (arith, ja)))))
    (rising (j - 1) (k - 1) (omega (arith, ja, l)) (omega (arith, w, len, ka)))))
    (cases_order j i))))
    (cases_order k i)

pub key_at : (ns : List Name) (ks : List ℕ) (p : ℕ) → p < length ks → get_or (keys ns ks) p [] ≡ get_or ns (get_or ks p 0) []
key_at ns ks p h = get_or-map (λ k. get_or ns k []) ks p 0 [] h

keys_insert : (ns : List Name) (ks : List ℕ) (i k : ℕ) → keys ns (insert ks i k) ≡ insert (keys ns ks) i (get_or ns k [])
keys_insert ns ks zero k = refl
keys_insert ns [] (suc i) k = refl
keys_insert ns (x ∷ ks) (suc i) k = ap (λ (ms : List Name). get_or ns x [] ∷ ms) (keys_insert ns ks i k)

count_is : (ns : List Name) (ks : List ℕ) → length (keys ns ks) ≡ length ks
count_is ns ks = length-map ks (λ k. get_or ns k [])

names_count : (es : List Entry) → length (names_in es) ≡ length es
names_count es = length-map es (λ (e : Entry). string_bytes e.0)

-- the name of a place of the order
pub equal_at : (es : List Entry) (ks : List ℕ) (n : Name) (p k : ℕ) → p < length ks → k ≡ get_or ks p 0 →
    slice_cmp nat_cmp (get_or (keys (names_in es) ks) p []) n ≡ Equal → name_at es k ≡ n
equal_at es ks n p k w is same =
    ap (λ m. name_at es m) is ∙ (sym (key_at (names_in es) ks p w) ∙ equal_same (get_or (keys (names_in es) ks) p []) n same)

-- a place of the order is one of a name
pub place_within : (es : List Entry) (ks : List ℕ) → IsSorted (names_in es) ks → (p k : ℕ) → p < length ks → k ≡ get_or ks p 0 → k < length es
place_within es ks order p k w is = omega (arith, order.within p w, is, names_count es)

-- where both neighbours are known
pub gap_at : (es : List Entry) (ks : List ℕ) (n : Name) (low high : ℕ) → IsSorted (names_in es) ks → low ≤ high → high ≤ low → high ≤ length ks →
    (0 < low → slice_cmp nat_cmp (get_or (keys (names_in es) ks) (low - 1) []) n ≡ Less) →
    (high < length ks → slice_cmp nat_cmp (get_or (keys (names_in es) ks) high []) n ≡ Greater) →
    IsGap (keys (names_in es) ks) n low
gap_at es ks n low high order up down fits before behind =
    let long = count_is (names_in es) ks in
    let same : high ≡ low = omega (arith, up, down) in
    gap_from (keys (names_in es) ks) n low order.rising (omega (arith, long, fits, same)) before
    (λ w. subst (λ (m : ℕ). slice_cmp nat_cmp (get_or (keys (names_in es) ks) m []) n ≡ Greater) same
    (behind (omega (arith, w, long, same))))

-- a name that has a gap in the order is none of the names
pub gap_lacks : (es : List Entry) (ks : List ℕ) (n : Name) (p : ℕ) → IsSorted (names_in es) ks → IsGap (keys (names_in es) ks) n p → IsAbsent es n
gap_lacks es ks n p order gap k h e =
    let long = count_is (names_in es) ks in
    order.each k (omega (arith, h, names_count es)) (λ q w is.
    let name : get_or (keys (names_in es) ks) q [] ≡ n = key_at (names_in es) ks q w ∙ (ap (λ m. name_at es m) is ∙ e) in
    ⊎_elim
    (λ (l : q < p). less_differ (get_or (keys (names_in es) ks) q []) n (gap.before q l) name)
    (λ (l : p ≤ q). greater_differ (get_or (keys (names_in es) ks) q []) n (gap.behind q l (omega (arith, w, long))) name)
    (cases_lt q p))

-- the names at places that all stand before a further name
keys_more : (ns : List Name) (n : Name) (ks : List ℕ) → ((p : ℕ) → p < length ks → get_or ks p 0 < length ns) → keys (ns ++ n ∷ []) ks ≡ keys ns ks
keys_more ns n [] h = refl
keys_more ns n (k ∷ ks) h =
    ap (λ (m : Name). m ∷ keys (ns ++ n ∷ []) ks) (get_or_append_left ns (n ∷ []) [] k (h 0 (omega arith))) ∙
    ap (λ (zs : List Name). get_or ns k [] ∷ zs) (keys_more ns n ks (λ p w. h (suc p) (omega (arith, w))))

-- a name comes behind the others, and its place into the order
pub sorted_put : (ns : List Name) (ks : List ℕ) (n : Name) (p : ℕ) → IsSorted ns ks → IsGap (keys ns ks) n p →
    IsSorted (ns ++ n ∷ []) (insert ks p (length ns))
sorted_put ns ks n p order gap = record {
  rising = subst (λ (ms : List Name). IsRising ms) (sym put) (rising_insert (keys ns ks) p n order.rising gap);
  within = inside;
  each = all;
}
  where
    count : ℕ
    count = length ns

    fits : p ≤ length ks
    fits = omega (arith, gap.within, count_is ns ks)

    len : length (insert ks p count) ≡ length ks + 1
    len = length-insert ks p count fits

    more : length (ns ++ n ∷ []) ≡ count + 1
    more = length-append ns (n ∷ [])

    put : keys (ns ++ n ∷ []) (insert ks p count) ≡ insert (keys ns ks) p n
    put =
        keys_insert (ns ++ n ∷ []) ks p count ∙
        (ap (λ (ms : List Name). insert ms p (get_or (ns ++ n ∷ []) count [])) (keys_more ns n ks order.within) ∙
        ap (λ (m : Name). insert (keys ns ks) p m) (get_or_at ns n [] [] count refl))

    inside : (q : ℕ) → q < length (insert ks p count) → get_or (insert ks p count) q 0 < length (ns ++ n ∷ [])
    inside q w = ⊎_elim
        (λ (e : q ≡ p). subst (λ (m : ℕ). get_or (insert ks p count) m 0 < length (ns ++ n ∷ [])) (sym e)
        (omega (arith, more, get_or-insert_at ks p count 0 fits)))
        (⊎_elim
        (λ (l : q < p). omega (arith, more, get_or-insert_below ks p count 0 q l fits, order.within q (omega (arith, l, fits))))
        (λ (l : p < q).
        let up : q ≡ (q - 1) + 1 = omega (arith, l) in
        subst (λ (m : ℕ). get_or (insert ks p count) m 0 < length (ns ++ n ∷ [])) (sym up)
        (omega (arith, more, get_or-insert_above ks p count 0 (q - 1) (omega (arith, l)) fits, order.within (q - 1) (omega (arith, l, w, len))))))
        (cases_order q p)

    all : (k : ℕ) → k < length (ns ++ n ∷ []) → ((q : ℕ) → q < length (insert ks p count) → get_or (insert ks p count) q 0 ≡ k → ⊥) → ⊥
    all k w none = ⊎_elim
        (λ (l : k < count). order.each k l (λ q h e. ⊎_elim
        (λ (b : q < p). none q (omega (arith, h, len)) (get_or-insert_below ks p count 0 q b fits ∙ e))
        (λ (b : p ≤ q). none (q + 1) (omega (arith, h, len)) (get_or-insert_above ks p count 0 q b fits ∙ e))
        (cases_lt q p)))
        (λ (l : count ≤ k). none p (omega (arith, len, fits))
        (get_or-insert_at ks p count 0 fits ∙ (let e : count ≡ k = omega (arith, l, w, more) in e)))
        (cases_lt k count)

-- the same for entries
pub entry_put : (es fs : List Entry) (ks js : List ℕ) (e : Entry) (p k : ℕ) → IsSorted (names_in es) ks →
    IsGap (keys (names_in es) ks) (string_bytes e.0) p → fs ≡ es ++ e ∷ [] → js ≡ insert ks p k → k ≡ length es → IsSorted (names_in fs) js
entry_put es fs ks js e p k order gap is put at =
    let names : names_in es ++ string_bytes e.0 ∷ [] ≡ names_in fs =
    sym (map_push (λ (x : Entry). string_bytes x.0) es e) ∙ ap names_in (sym is) in
    let places : insert ks p (length (names_in es)) ≡ js = ap (λ m. insert ks p m) (names_count es ∙ sym at) ∙ sym put in
    subst (λ (zs : List ℕ). IsSorted (names_in fs) zs) places
    (subst (λ (ns : List Name). IsSorted ns (insert ks p (length (names_in es)))) names
    (sorted_put (names_in es) ks (string_bytes e.0) p order gap))

-- a gap among what is seen
pub gap_seen : (es fs : List Entry) (ks js : List ℕ) (n m : Name) (p : ℕ) → fs ≡ es → js ≡ ks → m ≡ n → IsGap (keys (names_in fs) js) m p →
    IsGap (keys (names_in es) ks) n p
gap_seen es fs ks js n m p same places name gap =
    subst (λ (o : Name). IsGap (keys (names_in es) ks) o p) name
    (subst (λ (zs : List ℕ). IsGap (keys (names_in es) zs) m p) places
    (subst (λ (xs : List Entry). IsGap (keys (names_in xs) js) m p) same gap))

-- each name stands once
pub sorted_once : (es : List Entry) (ks : List ℕ) → IsSorted (names_in es) ks → IsOnce es
sorted_once es ks order i j l w same =
    order.each i (omega (arith, l, w, names_count es)) (λ p pw pi. order.each j (omega (arith, w, names_count es)) (λ q qw qj.
    let long = count_is (names_in es) ks in
    let first : get_or (keys (names_in es) ks) p [] ≡ name_at es i = key_at (names_in es) ks p pw ∙ ap (λ m. name_at es m) pi in
    let second : get_or (keys (names_in es) ks) q [] ≡ name_at es j = key_at (names_in es) ks q qw ∙ ap (λ m. name_at es m) qj in
    let alike : get_or (keys (names_in es) ks) p [] ≡ get_or (keys (names_in es) ks) q [] = first ∙ (same ∙ sym second) in
    ⊎_elim
    (λ (e : p ≡ q). omega (arith, l, sym pi ∙ (ap (λ m. get_or ks m 0) e ∙ qj)))
    (⊎_elim
    (λ (h : p < q). less_differ (get_or (keys (names_in es) ks) p []) (get_or (keys (names_in es) ks) q [])
    (order.rising p q h (omega (arith, qw, long))) alike)
    (λ (h : q < p). less_differ (get_or (keys (names_in es) ks) q []) (get_or (keys (names_in es) ks) p [])
    (order.rising q p h (omega (arith, pw, long))) (sym alike)))
    (cases_order p q)))

pub node_once : (node : Node) → IsOnce node.names.items
node_once node = sorted_once node.names.items node.sorted.items node.order

-- the names stay
pub order_along : (ns ms : List Name) (ks : List ℕ) → ns ≡ ms → IsSorted ms ks → IsSorted ns ks
order_along ns ms ks e order = subst (λ (xs : List Name). IsSorted xs ks) (sym e) order

pub order_places : (es : List Entry) (ks : List ℕ) → IsSorted (names_in es) ks → ArePlaces es ks
order_places es ks order = record {
  within = λ p h. omega (arith, order.within p h, names_count es);
  each = λ k h. order.each k (omega (arith, h, names_count es));
  once = λ p q l h e.
      let wide = count_is (names_in es) ks in
      less_differ (get_or (keys (names_in es) ks) p []) (get_or (keys (names_in es) ks) q [])
      (order.rising p q l (omega (arith, h, wide)))
      (key_at (names_in es) ks p (omega (arith, l, h)) ∙
      (ap (λ k. get_or (names_in es) k []) e ∙ sym (key_at (names_in es) ks q h)));
}

-- the numbers below a count, and one more
pub count_more : (ks : List ℕ) (i : ℕ) → IsCount ks i → IsCount (ks ++ i ∷ []) (i + 1)
count_more ks i counted = (
  omega (arith, length-append ks (i ∷ []), counted.0),
  λ p h. ⊎_elim
      (λ (l : p < i). get_or_append_left ks (i ∷ []) 0 p (omega (arith, l, counted.0)) ∙ counted.1 p l)
      (λ (l : i ≤ p). let e : p ≡ i = omega (arith, l, h) in ap (λ m. get_or (ks ++ i ∷ []) m 0) e ∙
      (get_or_at ks i [] 0 i counted.0 ∙ sym e))
      (cases_lt p i),
)

greater_less_from : (o : Ordering) → is_lt o ≡ false → (o ≡ Equal → ⊥) → ordering_reverse o ≡ Less
greater_less_from Less h d = absurd (false≢true (sym h))
greater_less_from Equal h d = absurd (d refl)
greater_less_from Greater h d = refl

less_from : (n m : Name) → is_lt (slice_cmp nat_cmp m n) ≡ false → (n ≡ m → ⊥) → slice_cmp nat_cmp n m ≡ Less
less_from n m h d = nat_list_cmp_total.antisymm n m ∙ greater_less_from (slice_cmp nat_cmp m n) h (λ e. d (sym (equal_same m n e)))

flips : (x y : ℕ) → eqb x y ≡ eqb y x
flips x y = ⊎_elim
    (λ (t : (eqb x y ≡ true) × (x ≡ y)). t.0 ∙ sym (eq-eqb y x (sym t.1)))
    (λ (t : (eqb x y ≡ false) × (x ≡ y → ⊥)). t.0 ∙ sym (ne_eqb y x (λ e. t.1 (sym e))))
    (eqb_tells x y)

-- a sort of the places of some names
module _ (es : List Entry) (ks js : List ℕ) (once : IsOnce es) (counted : IsCount ks (length es)) (moved : IsPermutation ks js) where
  number_is : (p x : ℕ) → p < length ks → get_or ks p x ≡ p
  number_is p x w = get_or_default ks p x 0 w ∙ counted.1 p (omega (arith, w, counted.0))

  apart : AllPairs (λ x y. x ≢ y) js
  apart = AllPairs-from_IsDistinct Decides-eqb js (IsDistinct-IsPermutation eqb flips ks js moved (IsDistinct-from_AllPairs Decides-eqb ks
      (λ i j d l w e. omega (arith, l, sym (number_is i d (omega (arith, l, w))) ∙ (e ∙ number_is j d w)))))

  place_in : (p : ℕ) → p < length js → get_or js p 0 < length es
  place_in p w =
      let there = Contains-permutation js ks (get_or js p 0) (IsPermutation-sym ks js moved) (Contains-get_or js p 0 w) in
      omega (arith, there.1, sym (number_is there.0 (get_or js p 0) there.1) ∙ there.2, counted.0)

  names_apart : (i j : ℕ) → i < j → j < length js → name_at es (get_or js i 0) ≡ name_at es (get_or js j 0) → ⊥
  names_apart i j l w e = ⊎_elim
      (λ (h : get_or js i 0 ≡ get_or js j 0). apart i j 0 l w h)
      (⊎_elim
      (λ (h : get_or js i 0 < get_or js j 0). once (get_or js i 0) (get_or js j 0) h (place_in j w) e)
      (λ (h : get_or js j 0 < get_or js i 0). once (get_or js j 0) (get_or js i 0) h (place_in i (omega (arith, l, w))) (sym e)))
      (cases_order (get_or js i 0) (get_or js j 0))

  abbrev lt : ℕ → ℕ → Bool
  lt x y = is_lt (slice_cmp nat_cmp (name_at es x) (name_at es y))

  order_from : IsSortedBy lt js → IsSorted (names_in es) js
  order_from up = record {
    rising = λ i j l w.
        let inside : j < length js = omega (arith, w, count_is (names_in es) js) in
        let far = sorted_far lt (ranks_by nat_list_cmp_total (λ x. name_at es x)) js up i j 0 (omega (arith, l)) inside in
        let P : Name → Name → Type 0 = λ n m. slice_cmp nat_cmp n m ≡ Less in
        subst (λ (n : Name). P n (get_or (keys (names_in es) js) j [])) (sym (key_at (names_in es) js i (omega (arith, l, inside))))
        (subst (λ (m : Name). P (name_at es (get_or js i 0)) m) (sym (key_at (names_in es) js j inside))
        (less_from (name_at es (get_or js i 0)) (name_at es (get_or js j 0)) far (names_apart i j l inside)));
    within = λ p w. omega (arith, place_in p w, names_count es);
    each = λ k w none.
        let here : k < length ks = omega (arith, w, names_count es, counted.0) in
        let there = Contains-permutation ks js k moved (k, here, number_is k k here) in
        none there.0 there.1 (get_or_default js there.0 0 k there.1 ∙ there.2);
  }

  pub order_from_sort : {F : Type 0} {g : Mut F (Bor ℕ × (Bor ℕ × Unit {0})) Ordering} {f : F} →
      ((by : ℕ → ℕ → Bool) → IsStrictWeakOrder by → ComparesAs g by f → IsSortedBy by js) →
      ((a : Bor ℕ × (Bor ℕ × Unit {0})) (r : Ordering) (f' : F) → Called g f a r f' →
      (r ≡ slice_cmp nat_cmp (name_at es a.0.now) (name_at es a.1.0.now)) × (f' ≡ f)) →
      IsSorted (names_in es) js
  order_from_sort {g = g} {f = f} sorts calls = order_from (sorts lt (ranks_by nat_list_cmp_total (λ x. name_at es x))
      (always_returns_same g (λ a r. is_lt r ≡ lt a.0.now a.1.0.now) f (λ a r f' k. (ap is_lt (calls a r f' k).0, (calls a r f' k).1))))
