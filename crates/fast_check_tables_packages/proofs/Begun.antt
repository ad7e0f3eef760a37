-- What begins a text, what is not above it, and how much two texts have in common.
use Rattle.std.proofs.Common.{◌≡◌, ◌∙◌, sym, ap, subst, refl, ℕ, zero, suc, ◌<◌, ◌≤◌, Bool, true, false, ◌&&◌, ◌==◌, List, [], ◌∷◌, length}
use Rattle.std.proofs.Common.{slice_index_or, arith, eqb→eq, ⊎_elim, true≢false, T}
use Rattle.std.specs.declared.cmp.Ordering.{Ordering}
use Rattle.std.specs.declared.cmp.Ordering.TheVariants.{Less, Equal, Greater}
use Rattle.std.specs.Ordering.{MatchOrdering, ordering_then, ordering_reverse, is_le, is_lt, nat_cmp}
use Rattle.std.specs.Cmp.{nat_eq_equiv, first_so, second_so}
use Rattle.std.specs.Cmp.Lexicographic.{slice_cmp, nat_list_cmp_total}
use Rattle.std.proofs.lemmas.Cmp.{ranked}
use Rattle.std.proofs.lemmas.Bool.{cases_Bool, cond-true, cond-false}
use Rattle.fast_check_tables_packages.specs.Listed.{begins_with}
use Rattle.fast_check_tables_packages.specs.Texts.{is_up_to, common}

-- ---- first bytes

T_of : (b : Bool) → b ≡ true → T b
T_of true h = tt
T_of false h = absurd (true≢false (sym h))

pub same_byte : (a b : ℕ) → (a == b) ≡ true → a ≡ b
same_byte a b e = eqb→eq a b (T_of (a == b) e)

pub byte_same : (a b : ℕ) → a ≡ b → (a == b) ≡ true
byte_same a b e = subst (λ (c : ℕ). (a == c) ≡ true) e (nat_eq_equiv.refl a)

le_by : (r o : Ordering) (a b : ℕ) → MatchOrdering r (a < b) (a ≡ b) (b < a) → is_le (ordering_then r o) ≡ true → a ≤ b
le_by Less o a b h e = omega arith
le_by Equal o a b h e = omega arith
le_by Greater o a b h e = absurd (true≢false (sym e))

below_itself : (a b : ℕ) → a ≡ b → a < b → ⊥
below_itself a b e h = omega arith

tail_by : (r o : Ordering) (a b : ℕ) → MatchOrdering r (a < b) (a ≡ b) (b < a) → a ≡ b → is_le (ordering_then r o) ≡ is_le o
tail_by Less o a b h e = absurd (below_itself a b e h)
tail_by Equal o a b h e = refl
tail_by Greater o a b h e = absurd (below_itself b a (sym e) h)

le_head : (a b : ℕ) (o : Ordering) → is_le (ordering_then (nat_cmp a b) o) ≡ true → a ≤ b
le_head a b o = le_by (nat_cmp a b) o a b (ranked a b (nat_cmp a b) refl)

le_tail : (a b : ℕ) (o : Ordering) → a ≡ b → is_le (ordering_then (nat_cmp a b) o) ≡ is_le o
le_tail a b o = tail_by (nat_cmp a b) o a b (ranked a b (nat_cmp a b) refl)

squeeze : (a b c : ℕ) → a ≡ b → a ≤ c → c ≤ b → a ≡ c
squeeze a b c e f g = omega arith

both : (p q : Bool) → p ≡ true → q ≡ true → (p && q) ≡ true
both true q h g = g
both false q h g = absurd (true≢false (sym h))

-- ---- what begins a text

pub le_of_beginning : (t x : List ℕ) → begins_with t x ≡ true → is_up_to t x ≡ true
le_of_beginning [] [] h = refl
le_of_beginning [] (b ∷ x) h = refl
le_of_beginning (a ∷ t) [] h = absurd (true≢false (sym h))
le_of_beginning (a ∷ t) (b ∷ x) h =
    le_tail a b (slice_cmp nat_cmp t x) (same_byte a b (first_so (a == b) (begins_with t x) h))
    ∙ le_of_beginning t x (second_so (a == b) (begins_with t x) h)

-- it begins each text between
pub begins_between : (t k x : List ℕ) → begins_with t x ≡ true → is_up_to t k ≡ true → is_up_to k x ≡ true → begins_with t k ≡ true
begins_between [] k x h u v = refl
begins_between (a ∷ t) [] x h u v = absurd (true≢false (sym u))
begins_between (a ∷ t) (c ∷ k) [] h u v = absurd (true≢false (sym h))
begins_between (a ∷ t) (c ∷ k) (b ∷ x) h u v =
    let first : a ≡ b = same_byte a b (first_so (a == b) (begins_with t x) h) in
    let same : a ≡ c = squeeze a b c first (le_head a c (slice_cmp nat_cmp t k) u) (le_head c b (slice_cmp nat_cmp k x) v) in
    both (a == c) (begins_with t k) (byte_same a c same)
    (begins_between t k x (second_so (a == b) (begins_with t x) h) (sym (le_tail a c (slice_cmp nat_cmp t k) same) ∙ u)
    (sym (le_tail c b (slice_cmp nat_cmp k x) (sym same ∙ first)) ∙ v))

pub begins_trans : (t k x : List ℕ) → begins_with t k ≡ true → begins_with k x ≡ true → begins_with t x ≡ true
begins_trans [] k x h g = refl
begins_trans (a ∷ t) [] x h g = absurd (true≢false (sym h))
begins_trans (a ∷ t) (c ∷ k) [] h g = absurd (true≢false (sym g))
begins_trans (a ∷ t) (c ∷ k) (b ∷ x) h g =
    both (a == b) (begins_with t x)
    (byte_same a b (same_byte a c (first_so (a == c) (begins_with t k) h) ∙ same_byte c b (first_so (c == b) (begins_with k x) g)))
    (begins_trans t k x (second_so (a == c) (begins_with t k) h) (second_so (c == b) (begins_with k x) g))

pub begins_itself : (t : List ℕ) → begins_with t t ≡ true
begins_itself [] = refl
begins_itself (a ∷ t) = both (a == a) (begins_with t t) (byte_same a a refl) (begins_itself t)

-- ---- how much is common

pub no_place : (n : ℕ) → n < 0 → ⊥
no_place n h = omega arith

longer : (c m n : ℕ) → c ≡ suc m → n ≤ m → suc n ≤ c
longer c m n e h = omega arith

lift : (c m n : ℕ) → c ≡ suc m → suc n ≤ c → n ≤ m
lift c m n e h = omega arith

none_in : (c n : ℕ) → c ≡ 0 → suc n ≤ c → ⊥
none_in c n e h = omega arith

pub unlike : (n : ℕ) → suc n ≤ 0 → ⊥
unlike n h = omega arith

more : (m n : ℕ) → m ≤ n → suc m ≤ suc n
more m n h = omega arith

zero_le : (n : ℕ) → 0 ≤ n
zero_le n = omega arith

within : (c m n : ℕ) → c ≡ suc m → m ≤ n → c ≤ suc n
within c m n e h = omega arith

below_all : (c n : ℕ) → c ≡ 0 → c ≤ n
below_all c n e = omega arith

pub common_within : (x y : List ℕ) → common x y ≤ length x
common_within [] y = zero_le 0
common_within (a ∷ x) [] = zero_le (suc (length x))
common_within (a ∷ x) (b ∷ y) =
    ⊎_elim
    (λ e. within (common (a ∷ x) (b ∷ y)) (common x y) (length x) (cond-true (a == b) (suc (common x y)) 0 e) (common_within x y))
    (λ n. below_all (common (a ∷ x) (b ∷ y)) (suc (length x)) (cond-false (a == b) (suc (common x y)) 0 n))
    (cases_Bool (a == b))

-- what begins both is no longer than that
pub begins_both : (t x y : List ℕ) → begins_with t x ≡ true → begins_with t y ≡ true → length t ≤ common x y
begins_both [] x y h g = zero_le (common x y)
begins_both (a ∷ t) [] y h g = absurd (true≢false (sym h))
begins_both (a ∷ t) (b ∷ x) [] h g = absurd (true≢false (sym g))
begins_both (a ∷ t) (b ∷ x) (c ∷ y) h g =
    let same : b ≡ c = sym (same_byte a b (first_so (a == b) (begins_with t x) h)) ∙ same_byte a c
    (first_so (a == c) (begins_with t y) g) in
    longer (common (b ∷ x) (c ∷ y)) (common x y) (length t) (cond-true (b == c) (suc (common x y)) 0 (byte_same b c same))
    (begins_both t x y (second_so (a == b) (begins_with t x) h) (second_so (a == c) (begins_with t y) g))

-- what begins one of them and is no longer than that begins the other
pub begins_other : (t x y : List ℕ) → begins_with t x ≡ true → length t ≤ common x y → begins_with t y ≡ true
begins_other [] x y h le = refl
begins_other (a ∷ t) [] y h le = absurd (true≢false (sym h))
begins_other (a ∷ t) (b ∷ x) [] h le = absurd (unlike (length t) le)
begins_other (a ∷ t) (b ∷ x) (c ∷ y) h le =
    ⊎_elim
    (λ s. both (a == c) (begins_with t y)
    (byte_same a c (same_byte a b (first_so (a == b) (begins_with t x) h) ∙ same_byte b c s))
    (begins_other t x y (second_so (a == b) (begins_with t x) h)
    (lift (common (b ∷ x) (c ∷ y)) (common x y) (length t) (cond-true (b == c) (suc (common x y)) 0 s) le)))
    (λ d. absurd (none_in (common (b ∷ x) (c ∷ y)) (length t) (cond-false (b == c) (suc (common x y)) 0 d) le))
    (cases_Bool (b == c))

-- what begins a text that is not above it is no shorter
pub no_shorter : (t x : List ℕ) → begins_with t x ≡ true → is_up_to x t ≡ true → length x ≤ length t
no_shorter t [] h u = zero_le (length t)
no_shorter [] (b ∷ x) h u = absurd (true≢false (sym u))
no_shorter (a ∷ t) (b ∷ x) h u =
    more (length x) (length t) (no_shorter t x (second_so (a == b) (begins_with t x) h)
    (sym (le_tail b a (slice_cmp nat_cmp x t) (sym (same_byte a b (first_so (a == b) (begins_with t x) h)))) ∙ u))

-- ---- their order

trans_by : (r o : Ordering) (a b c : ℕ) → MatchOrdering r (a < c) (a ≡ c) (c < a) → a ≤ b → b ≤ c → (a ≡ b → b ≡ c → is_le o ≡ true) →
    is_le (ordering_then r o) ≡ true
trans_by Less o a b c h f g t = refl
trans_by Equal o a b c h f g t =
    let left : a ≡ b = omega arith in
    let right : b ≡ c = omega arith in
    t left right
trans_by Greater o a b c h f g t = let no : ⊥ = omega arith in absurd no

pub up_to_trans : (x y z : List ℕ) → is_up_to x y ≡ true → is_up_to y z ≡ true → is_up_to x z ≡ true
up_to_trans [] y [] u v = refl
up_to_trans [] y (c ∷ z) u v = refl
up_to_trans (a ∷ x) [] z u v = absurd (true≢false (sym u))
up_to_trans (a ∷ x) (b ∷ y) [] u v = absurd (true≢false (sym v))
up_to_trans (a ∷ x) (b ∷ y) (c ∷ z) u v =
    trans_by (nat_cmp a c) (slice_cmp nat_cmp x z) a b c (ranked a c (nat_cmp a c) refl) (le_head a b (slice_cmp nat_cmp x y) u)
    (le_head b c (slice_cmp nat_cmp y z) v)
    (λ e f. up_to_trans x y z (sym (le_tail a b (slice_cmp nat_cmp x y) e) ∙ u) (sym (le_tail b c (slice_cmp nat_cmp y z) f) ∙ v))

pub up_to_itself : (x : List ℕ) → is_up_to x x ≡ true
up_to_itself x = le_of_beginning x x (begins_itself x)

above_by : (r s : Ordering) → r ≡ ordering_reverse s → r ≡ Less → is_le s ≡ false
above_by r Less e f = absurd (true≢false (ap is_lt (sym f ∙ e)))
above_by r Equal e f = absurd (true≢false (ap is_lt (sym f ∙ e)))
above_by r Greater e f = refl

pub not_up_to : (x y : List ℕ) → slice_cmp nat_cmp x y ≡ Less → is_up_to y x ≡ false
not_up_to x y e = above_by (slice_cmp nat_cmp x y) (slice_cmp nat_cmp y x) (nat_list_cmp_total.antisymm x y) e

-- ---- how much is common, byte by byte

pub next_below : (m n : ℕ) → suc m < suc n → m < n
next_below m n h = omega arith

step : (c m n : ℕ) → c ≡ suc m → n ≡ m → suc n ≡ c
step c m n e f = ap suc f ∙ sym e

pub one_more : (n : ℕ) (x y : List ℕ) → n ≤ common x y → n < length x → n < length y → slice_index_or x n 0 ≡ slice_index_or y n 0 →
    suc n ≤ common x y
one_more n [] y le lx ly e = absurd (no_place n lx)
one_more n (a ∷ x) [] le lx ly e = absurd (no_place n ly)
one_more zero (a ∷ x) (b ∷ y) le lx ly e =
    longer (common (a ∷ x) (b ∷ y)) (common x y) 0 (cond-true (a == b) (suc (common x y)) 0 (byte_same a b e)) (zero_le (common x y))
one_more (suc n) (a ∷ x) (b ∷ y) le lx ly e =
    ⊎_elim
    (λ s. let c : common (a ∷ x) (b ∷ y) ≡ suc (common x y) = cond-true (a == b) (suc (common x y)) 0 s in
    longer (common (a ∷ x) (b ∷ y)) (common x y) (suc n) c
    (one_more n x y (lift (common (a ∷ x) (b ∷ y)) (common x y) n c le) (next_below n (length x) lx) (next_below n (length y) ly) e))
    (λ d. absurd (none_in (common (a ∷ x) (b ∷ y)) n (cond-false (a == b) (suc (common x y)) 0 d) le))
    (cases_Bool (a == b))

pub no_longer : (n : ℕ) (x y : List ℕ) → n ≤ common x y → n < length x → n < length y →
    (slice_index_or x n 0 ≡ slice_index_or y n 0 → ⊥) → n ≡ common x y
no_longer n [] y le lx ly e = absurd (no_place n lx)
no_longer n (a ∷ x) [] le lx ly e = absurd (no_place n ly)
no_longer zero (a ∷ x) (b ∷ y) le lx ly e =
    ⊎_elim
    (λ s. absurd (e (same_byte a b s)))
    (λ d. sym (cond-false (a == b) (suc (common x y)) 0 d))
    (cases_Bool (a == b))
no_longer (suc n) (a ∷ x) (b ∷ y) le lx ly e =
    ⊎_elim
    (λ s. let c : common (a ∷ x) (b ∷ y) ≡ suc (common x y) = cond-true (a == b) (suc (common x y)) 0 s in
    step (common (a ∷ x) (b ∷ y)) (common x y) n c
    (no_longer n x y (lift (common (a ∷ x) (b ∷ y)) (common x y) n c le) (next_below n (length x) lx) (next_below n (length y) ly) e))
    (λ d. absurd (none_in (common (a ∷ x) (b ∷ y)) n (cond-false (a == b) (suc (common x y)) 0 d) le))
    (cases_Bool (a == b))

pub common_within_other : (x y : List ℕ) → common x y ≤ length y
common_within_other [] y = zero_le (length y)
common_within_other (a ∷ x) [] = zero_le 0
common_within_other (a ∷ x) (b ∷ y) =
    ⊎_elim
    (λ e. within (common (a ∷ x) (b ∷ y)) (common x y) (length y) (cond-true (a == b) (suc (common x y)) 0 e) (common_within_other x y))
    (λ n. below_all (common (a ∷ x) (b ∷ y)) (suc (length y)) (cond-false (a == b) (suc (common x y)) 0 n))
    (cases_Bool (a == b))
