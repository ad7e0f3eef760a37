-- The start of the optional parameters of a list that grows at its end.
use Rattle.std.proofs.Common.{◌≡◌, ◌∙◌, sym, ap, refl, subst, ⊎_elim, arith, ℕ, suc, ◌+◌, ◌<◌, ◌≤◌, ◌^◌, Bool, true, false, ◌&&◌, leb}
use Rattle.std.proofs.Common.{List, [], ◌∷◌, ◌++◌, length, length-append, drop, Option, Some, None, IfSome}
use Rattle.std.specs.List.{list_all}
use Rattle.std.proofs.lemmas.Bool.{le-leb}
use Rattle.std.proofs.lemmas.Bool.Decides.{leb_tells}
use Rattle.std.proofs.lemmas.List.{drop_all, drop-append-le}
use Rattle.std.proofs.lemmas.List.Folds.{list_all-append}
use Rattle.fast_check_tree_syntax.specs.declared.tree.Tree.{Tree}
use Rattle.fast_check_tree_helpers.specs.OptionalParams.{is_optional_param, is_optional_from, is_from, IsPlace, IsOptionalStart, next_start}

and_true : (b : Bool) → (b && true) ≡ b
and_true true = refl
and_true false = refl

pub and_false : (b : Bool) → (b && false) ≡ false
and_false true = refl
and_false false = refl

module _ (pats : List Tree) (p : Tree) where
  -- all from a place on are optional in the longer list if they are in the shorter one and the last one is
  all_more : (q : ℕ) → q ≤ length pats → is_optional_from q (pats ++ p ∷ []) ≡ (is_optional_from q pats && is_optional_param p)
  all_more q le =
      ap (list_all is_optional_param) (drop-append-le q pats (p ∷ []) le)
      ∙ (list_all-append is_optional_param (drop q pats) (p ∷ [])
      ∙ ap (λ b. is_optional_from q pats && b) (and_true (is_optional_param p)))

  -- behind the shorter list nothing is left
  at_end : (q : ℕ) → length pats ≤ q → is_optional_from q pats ≡ true
  at_end q le = ap (list_all is_optional_param) (drop_all q pats le)

  abbrev Says : Option ℕ → Bool → ℕ → Type 0
  Says start b q = is_from start q ≡ (is_optional_from q pats && b)

  -- a start that was there before stays
  stays : (s : ℕ) → IsOptionalStart (Some s) pats → (q : ℕ) → q < 2 ^ 64 → Says (Some s) true q
  stays s h q r =
      ⊎_elim (λ e. h.says q r e.1 ∙ sym (and_true (is_optional_from q pats)))
      (λ e. le-leb s q (omega (arith, h.place, e.1)) ∙ sym (ap (λ b. b && true) (at_end q (omega (arith, e.1)))))
      (leb_tells (suc q) (length pats))

  -- where there was none, the place of the last one is the start
  begins : (place : Option ℕ) → IsPlace place (length pats) → IsOptionalStart None pats → (q : ℕ) → q < 2 ^ 64 → q ≤ length pats →
      Says place true q
  begins (Some n) at h q r le =
      ⊎_elim (λ e. before q n (omega (arith, at, e.1)) ∙ (h.says q r e.1 ∙ sym (and_true (is_optional_from q pats))))
      (λ e. le-leb n q (omega (arith, at, e.1)) ∙ sym (ap (λ b. b && true) (at_end q (omega (arith, e.1)))))
      (leb_tells (suc q) (length pats))
    where
      before : (q n : ℕ) → q < n → leb n q ≡ false
      before q n lt = ⊎_elim (λ e. absurd (omega (arith, e.1, lt))) (λ e. e.0) (leb_tells n q)
  begins None at h q r le = h.says q r (omega (arith, at, r)) ∙ sym (and_true (is_optional_from q pats))

  next : (b : Bool) (start place : Option ℕ) → IsPlace place (length pats) → IsOptionalStart start pats → (q : ℕ) → q < 2 ^ 64
      → q ≤ length pats → Says (next_start start place b) b q
  next false start place at h q r le = sym (and_false (is_optional_from q pats))
  next true (Some s) place at h q r le = stays s h q r
  next true None place at h q r le = begins place at h q r le

  within : (b : Bool) (start place : Option ℕ) → IsPlace place (length pats) → IsOptionalStart start pats →
      IfSome (next_start start place b) (λ s. s < length pats + 1)
  within false start place at h = tt
  within true (Some s) place at h = omega (arith, h.place)
  within true None (Some n) at h = omega (arith, at)
  within true None None at h = tt

  long : length (pats ++ p ∷ []) ≡ length pats + 1
  long = length-append pats (p ∷ [])

  pub start_more : (start place : Option ℕ) → IsPlace place (length pats) → IsOptionalStart start pats →
      IsOptionalStart (next_start start place (is_optional_param p)) (pats ++ p ∷ [])
  start_more start place at h = record {
    place =
        subst (λ n. IfSome (next_start start place (is_optional_param p)) (λ s. s < n)) (sym long)
        (within (is_optional_param p) start place at h);
    says = λ q r lt.
        let le : q ≤ length pats = omega (arith, lt, long) in
        next (is_optional_param p) start place at h q r le ∙ sym (all_more q le);
  }
