-- Where a name stands among names, and what an edit there does.
use Rattle.std.proofs.Common.{◌≡◌, ◌∙◌, sym, ap, refl, ⊎_elim, ℕ, zero, suc, ◌+◌, ◌<◌, ◌≤◌, Bool, true, false, cond, List, [], ◌∷◌}
use Rattle.std.proofs.Common.{◌++◌, Option, Some, None, arith, map, length, get_or, set, String, string_bytes}
use Rattle.std.specs.Str.{bytes_eq}
use Rattle.std.specs.List.{insert}
use Rattle.std.proofs.lemmas.Slice.Eq.{bytes_eq-Decides}
use Rattle.std.proofs.lemmas.List.{get_or_past, get_or-map, length-map, map_push, length-append, get_or_append_left, get_or_at}
use Rattle.std.proofs.lemmas.List.Edits.{insert_end}
use Rattle.std.proofs.lemmas.Bool.{cases_lt}
use Rattle.std.specs.declared.alloc.Global.{Global}
use Rattle.fast_check_finder_lattice.specs.declared.lattice.node.Below.{Below}
use Rattle.fast_check_finder_lattice.specs.Order.{Name, Entry, found, names_in, name_at, IsOnce, IsAbsentBefore}
use Rattle.fast_check_finder_lattice.proofs.Walks.{name_shows}

pub name_is : (es : List Entry) (i : ℕ) (d : Entry) → i < length es → name_at es i ≡ string_bytes (get_or es i d).0
name_is es i d h = get_or-map (λ (e : Entry). string_bytes e.0) es i d [] h

pub name_past : (es : List Entry) (i : ℕ) → length es ≤ i → [] ≡ name_at es i
name_past es i h = sym (get_or_past (names_in es) i [] (omega (arith, h, length-map es (λ (e : Entry). string_bytes e.0))))

pub some_entry : (es : List Entry) (i : ℕ) → i < length es → Entry
some_entry [] i h = absurd (omega (arith, h))
some_entry (e ∷ es) i h = e

absent_tail : (e : Entry) (es : List Entry) (n : Name) (i : ℕ) → IsAbsentBefore (e ∷ es) n (suc i) → IsAbsentBefore es n i
absent_tail e es n i h k l = h (suc k) (omega (arith, l))

differs : (n m : Name) → (n ≡ m → ⊥) → bytes_eq n m ≡ false
differs n m h = ⊎_elim
    (λ (t : (bytes_eq n m ≡ true) × (n ≡ m)). absurd (h t.1)) (λ (f : (bytes_eq n m ≡ false) × (n ≡ m → ⊥)). f.0) (name_shows n m)

pub agrees : (n m : Name) → n ≡ m → bytes_eq n m ≡ true
agrees n m h = (bytes_eq-Decides n m).1 h

pub found_first : (es : List Entry) (n : Name) (i : ℕ) (d : Entry) → i < length es → name_at es i ≡ n → IsAbsentBefore es n i →
    found es n ≡ Some (get_or es i d).1
found_first [] n i d w is lack = absurd (omega (arith, w))
found_first (e ∷ es) n zero d w is lack = ap (λ b. cond b (Some e.1) (found es n)) (agrees (string_bytes e.0) n is)
found_first (e ∷ es) n (suc i) d w is lack =
    ap (λ b. cond b (Some e.1) (found es n)) (differs (string_bytes e.0) n (lack 0 (omega arith))) ∙
    found_first es n i d (omega (arith, w)) is (absent_tail e es n i lack)

pub found_none : (es : List Entry) (n : Name) → IsAbsentBefore es n (length es) → found es n ≡ None
found_none [] n lack = refl
found_none (e ∷ es) n lack =
    ap (λ b. cond b (Some e.1) (found es n)) (differs (string_bytes e.0) n (lack 0 (omega arith))) ∙
    found_none es n (absent_tail e es n (length es) lack)

-- a test of the head, where one of the two names differs from it
exchange : (h n m : Name) (x y z : Option Below) → (h ≡ n → ⊥) →
    cond (bytes_eq h m) x (cond (bytes_eq n m) y z) ≡ cond (bytes_eq n m) y (cond (bytes_eq h m) x z)
exchange h n m x y z d = ⊎_elim
    (λ (t : (bytes_eq n m ≡ true) × (n ≡ m)).
    let other : bytes_eq h m ≡ false = differs h m (λ e. d (e ∙ sym t.1)) in
    ap (λ b. cond b x (cond (bytes_eq n m) y z)) other ∙
    (ap (λ b. cond b y z) t.0 ∙ ap (λ b. cond b y (cond (bytes_eq h m) x z)) (sym t.0)))
    (λ (f : (bytes_eq n m ≡ false) × (n ≡ m → ⊥)).
    ap (λ b. cond (bytes_eq h m) x (cond b y z)) f.0 ∙ ap (λ b. cond b y (cond (bytes_eq h m) x z)) (sym f.0))
    (name_shows n m)

twice : (b : Bool) (x y z : Option Below) → cond b x z ≡ cond b x (cond b y z)
twice true x y z = refl
twice false x y z = refl

pub found_set : (es : List Entry) (n : Name) (i : ℕ) (s : String Global) (b : Below) (m : Name) → i < length es → name_at es i ≡ n →
    string_bytes s ≡ n →
    IsAbsentBefore es n i → found (set es i (s, b)) m ≡ cond (bytes_eq n m) (Some b) (found es m)
found_set [] n i s b m w is same lack = absurd (omega (arith, w))
found_set (e ∷ es) n zero s b m w is same lack =
    ap (λ (k : Name). cond (bytes_eq k m) (Some b) (found es m)) same ∙ (twice (bytes_eq n m) (Some b) (Some e.1) (found es m) ∙
    ap (λ (k : Name). cond (bytes_eq n m) (Some b) (cond (bytes_eq k m) (Some e.1) (found es m))) (sym is))
found_set (e ∷ es) n (suc i) s b m w is same lack =
    ap (λ o. cond (bytes_eq (string_bytes e.0) m) (Some e.1) o)
    (found_set es n i s b m (omega (arith, w)) is same (absent_tail e es n i lack)) ∙
    exchange (string_bytes e.0) n m (Some e.1) (Some b) (found es m) (lack 0 (omega arith))

pub found_insert : (es : List Entry) (i : ℕ) (e : Entry) (m : Name) → IsAbsentBefore es (string_bytes e.0) i → i ≤ length es →
    found (insert es i e) m ≡ cond (bytes_eq (string_bytes e.0) m) (Some e.1) (found es m)
found_insert es zero e m lack w = refl
found_insert [] (suc i) e m lack w = absurd (omega (arith, w))
found_insert (h ∷ es) (suc i) e m lack w =
    ap (λ o. cond (bytes_eq (string_bytes h.0) m) (Some h.1) o)
    (found_insert es i e m (absent_tail h es (string_bytes e.0) i lack) (omega (arith, w))) ∙
    exchange (string_bytes h.0) (string_bytes e.0) m (Some h.1) (Some e.1) (found es m) (lack 0 (omega arith))

pub once_before : (es : List Entry) → IsOnce es → (n : Name) (i : ℕ) → i < length es → name_at es i ≡ n → IsAbsentBefore es n i
once_before es once n i w is k l e = once k i l w (e ∙ sym is)

pub names_set : (es : List Entry) (i : ℕ) (x : Entry) → string_bytes x.0 ≡ name_at es i →
    map (λ (e : Entry). string_bytes e.0) (set es i x) ≡ map (λ (e : Entry). string_bytes e.0) es
names_set [] i x h = refl
names_set (e ∷ es) zero x h = ap (λ (n : Name). n ∷ map (λ (e : Entry). string_bytes e.0) es) h
names_set (e ∷ es) (suc i) x h = ap (λ (ns : List Name). string_bytes e.0 ∷ ns) (names_set es i x h)

pub once_along : (es fs : List Entry) → names_in es ≡ names_in fs → IsOnce fs → IsOnce es
once_along es fs e once i j l w same =
    let n : length es ≡ length fs = sym (length-map es (λ (x : Entry). string_bytes x.0)) ∙
    (ap length e ∙ length-map fs (λ (x : Entry). string_bytes x.0)) in
    once i j l (omega (arith, w, n)) (ap (λ ns. get_or ns i []) (sym e) ∙ (same ∙ ap (λ ns. get_or ns j []) e))

pub names_push : (es : List Entry) (e : Entry) → names_in (es ++ e ∷ []) ≡ names_in es ++ string_bytes e.0 ∷ []
names_push es e = map_push (λ (x : Entry). string_bytes x.0) es e

pub push_before : (es : List Entry) (e : Entry) (k : ℕ) → k < length es → name_at (es ++ e ∷ []) k ≡ name_at es k
push_before es e k h =
    ap (λ ns. get_or ns k []) (names_push es e) ∙
    get_or_append_left (names_in es) (string_bytes e.0 ∷ []) [] k (omega (arith, h, length-map es (λ (x : Entry). string_bytes x.0)))

pub push_at : (es : List Entry) (e : Entry) → name_at (es ++ e ∷ []) (length es) ≡ string_bytes e.0
push_at es e =
    ap (λ ns. get_or ns (length es) []) (names_push es e) ∙
    get_or_at (names_in es) (string_bytes e.0) [] [] (length es) (length-map es (λ (x : Entry). string_bytes x.0))

pub once_push : (es : List Entry) (e : Entry) → IsOnce es → IsAbsentBefore es (string_bytes e.0) (length es) → IsOnce (es ++ e ∷ [])
once_push es e once lack i j l w same =
    let n : length (es ++ e ∷ []) ≡ length es + 1 = length-append es (e ∷ []) in
    let first = push_before es e i (omega (arith, l, w, n)) in
    ⊎_elim
    (λ (h : j < length es). once i j l h (sym first ∙ (same ∙ push_before es e j h)))
    (λ (h : length es ≤ j).
    let is : j ≡ length es = omega (arith, h, w, n) in
    lack i (omega (arith, l, is)) (sym first ∙ (same ∙ (ap (λ k. name_at (es ++ e ∷ []) k) is ∙ push_at es e))))
    (cases_lt j (length es))

pub found_push : (es : List Entry) (e : Entry) (m : Name) → IsAbsentBefore es (string_bytes e.0) (length es) →
    found (es ++ e ∷ []) m ≡ cond (bytes_eq (string_bytes e.0) m) (Some e.1) (found es m)
found_push es e m lack =
    ap (λ xs. found xs m) (sym (insert_end es e)) ∙ found_insert es (length es) e m lack (let w : length es ≤ length es = omega arith in w)

pub read_name : (es : List Entry) (i : ℕ) (d : Entry) → i < length es → d ≡ get_or es i d → string_bytes d.0 ≡ name_at es i
read_name es i d w is = ap (λ (e : Entry). string_bytes e.0) is ∙ sym (name_is es i d w)
