-- Where pieces of a gap begin, and where lines end in them.
use Rattle.std.specs.Prelude.{◌≡◌, ◌≤◌, ◌<◌, ◌+◌, ◌↔◌, ℕ, List, length, slice_index, Bool, IsTrue}
use Rattle.std.proofs.Common.{arith, ap, subst, inl, inr}
use Rattle.std.proofs.lemmas.List.{get_or_past}
use Rattle.std.proofs.lemmas.Bool.{cases_lt}
use Rattle.fast_check_source_lexer.specs.Gaps.{IsBlank, IsThree, IsLineEnd, HoldsLineEnd, IsBlock, IsPiece}

slash_no_blank : (n : ℕ) → n ≡ 47 → IsBlank n → ⊥
slash_no_blank n e (inl (p, q)) = omega arith
slash_no_blank n e (inr p) = omega arith

zero_no_blank : (n : ℕ) → n ≡ 0 → IsBlank n → ⊥
zero_no_blank n e (inl (p, q)) = omega arith
zero_no_blank n e (inr p) = omega arith

three_first : (z : List ℕ) (a : ℕ) → IsThree z a → 225 ≤ slice_index z a
three_first z a (inl (p, q, r)) = omega arith
three_first z a (inr (inl (p, q, r))) = omega arith
three_first z a (inr (inr (inl (p, q, r)))) = omega arith
three_first z a (inr (inr (inr (inl (p, q, r))))) = omega arith
three_first z a (inr (inr (inr (inr (p, q, r))))) = omega arith

-- Behind `/*` no piece but a closed comment begins.
pub block_alone : (z : List ℕ) (a b : ℕ) → slice_index z a ≡ 47 → slice_index z (a + 1) ≡ 42 → a < b → IsPiece z a b → IsBlock z a b
block_alone z a b s t lt (inl (inl blanks)) = absurd (slash_no_blank (slice_index z a) s (blanks a (omega arith) lt))
block_alone z a b s t lt (inl (inr (inl ((p, q), r)))) = absurd (omega arith)
block_alone z a b s t lt (inl (inr (inr (p, r)))) = let h : 225 ≤ slice_index z a = three_first z a p in absurd (omega arith)
block_alone z a b s t lt (inr (inl (p, q, r))) = absurd (omega arith)
block_alone z a b s t lt (inr (inr (inl block))) = block
block_alone z a b s t lt (inr (inr (inr (p, q, r, u)))) =
    let e : slice_index z a ≡ slice_index z 0 = ap (λ n. slice_index z n) p in absurd (omega arith)

-- Nothing begins at the end of a text.
pub end_alone : (z : List ℕ) (a b : ℕ) → length z ≤ a → a < b → IsPiece z a b → ⊥
end_alone z a b end lt (inl (inl blanks)) = zero_no_blank (slice_index z a) (get_or_past z a 0 end) (blanks a (omega arith) lt)
end_alone z a b end lt (inl (inr (inl ((p, q), r)))) = let e : slice_index z a ≡ 0 = get_or_past z a 0 end in omega arith
end_alone z a b end lt (inl (inr (inr (p, r)))) =
    let e : slice_index z a ≡ 0 = get_or_past z a 0 end in
    let h : 225 ≤ slice_index z a = three_first z a p in omega arith
end_alone z a b end lt (inr (inl (p, q, r))) = let e : slice_index z a ≡ 0 = get_or_past z a 0 end in omega arith
end_alone z a b end lt (inr (inr (inl (p, q, r)))) = let e : slice_index z a ≡ 0 = get_or_past z a 0 end in omega arith
end_alone z a b end lt (inr (inr (inr (p, q, r, u)))) =
    let e : slice_index z a ≡ 0 = get_or_past z a 0 end in
    let f : slice_index z a ≡ slice_index z 0 = ap (λ n. slice_index z n) p in omega arith

-- A line that ends at one place.
pub lines_one : (z : List ℕ) (k : ℕ) (m : Bool) → (IsTrue m ↔ IsLineEnd z k) → IsTrue m ↔ HoldsLineEnd z k (k + 1)
lines_one z k m (there, here) = (
  λ t. (k, (omega arith, omega arith, there t)),
  λ (i, (lo, hi, ends)). let e : i ≡ k = omega arith in here (subst (λ n. IsLineEnd z n) e ends),
)

-- A line that ends in the first part ends in the whole.
pub lines_kept : (z : List ℕ) (a k j : ℕ) (n : Bool) → k ≤ j → (IsTrue n ↔ HoldsLineEnd z a k) → IsTrue n → IsTrue n ↔ HoldsLineEnd z a j
lines_kept z a k j n le (there, here) t =
    (λ s. let f : HoldsLineEnd z a k = there s in (f.0, (f.1.0, omega arith, f.1.2)), λ _. t)

-- Where none ends in the first part, it ends in the second.
pub lines_joined : (z : List ℕ) (a k j : ℕ) (n m : Bool) → a ≤ k → (IsTrue n ↔ HoldsLineEnd z a k) → (IsTrue m ↔ HoldsLineEnd z k j) →
    (IsTrue n → ⊥) → IsTrue m ↔ HoldsLineEnd z a j
lines_joined z a k j n m le (there, here) (there', here') off = (
  λ s. let f : HoldsLineEnd z k j = there' s in (f.0, (omega arith, f.1.1, f.1.2)),
  λ (i, (lo, hi, ends)). elim (cases_lt i k) [ inl lt ↦ absurd (off (here (i, (lo, lt, ends)))) | inr ge ↦ here' (i, (ge, hi, ends)) ],
)
