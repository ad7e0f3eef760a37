-- The items that no later one replaces, found from the last one on.
use Rattle.std.proofs.Common.{◌≡◌, ◌∙◌, sym, ap, refl, ℕ, Bool, true, false, not, ◌||◌, List, [], ◌∷◌, ◌++◌, reverse}
use Rattle.std.proofs.Common.{append-nil, append_assoc, length, ◌<◌, Option, Some, cond, arith}
use Rattle.std.specs.Prelude.{if◌then◌else◌}
use Rattle.std.specs.List.{list_any}
use Rattle.std.proofs.lemmas.List.{reverse-append}
use Rattle.fast_check_tables_symbols.specs.Entries.{unreplaced}

-- of all items the first are left, and of the others those that count are kept, the last one first; `is_noted` says which items are like one of
-- the others
pub record IsBetween {X : Type 0} (alike : X → X → Bool) (all rest kept : List X) (is_noted : X → Bool) : Type 0 where
  pub done : List X
  pub parts : all ≡ rest ++ done
  pub count : reverse kept ≡ unreplaced alike done
  pub noted : (x : X) → is_noted x ≡ list_any (alike x) done

pub or_cond : (b c : Bool) → cond b true c ≡ (b || c)
or_cond true c = refl
or_cond false c = refl

pub at_first : {X : Type 0} (alike : X → X → Bool) (all kept : List X) (is_noted : X → Bool) → kept ≡ [] →
    ((x : X) → is_noted x ≡ false) → IsBetween alike all all kept is_noted
at_first alike all kept is_noted e f = record { done = []; parts = sym (append-nil all); count = ap reverse e; noted = f }

absent : (b : Bool) → not b ≡ true → b ≡ false
absent true e = sym e
absent false e = refl

present : (b : Bool) → not b ≡ false → b ≡ true
present true e = refl
present false e = sym e

-- One item is taken from the end, and noted.
module _ {X : Type 0} (alike : X → X → Bool) (all rest rest' kept : List X) (s : X) (popped : rest ≡ rest' ++ s ∷ [])
    (is_noted is_noted' : X → Bool) (h : IsBetween alike all rest kept is_noted)
    (u : (x : X) → is_noted' x ≡ (alike x s || is_noted x)) where
  parts_more : all ≡ rest' ++ s ∷ h.done
  parts_more = h.parts ∙ (ap (λ xs. xs ++ h.done) popped ∙ append_assoc rest' (s ∷ []) h.done)

  noted_more : (x : X) → is_noted' x ≡ list_any (alike x) (s ∷ h.done)
  noted_more x = u x ∙ ap (λ b. alike x s || b) (h.noted x)

  count_of : (b : Bool) → list_any (alike s) h.done ≡ b →
      unreplaced alike (s ∷ h.done) ≡ (if b then unreplaced alike h.done else s ∷ unreplaced alike h.done)
  count_of b e = ap (λ c. if c then unreplaced alike h.done else s ∷ unreplaced alike h.done) e

  -- it counts
  pub one_kept : (kept' : List X) → kept' ≡ kept ++ s ∷ [] → not (is_noted s) ≡ true → IsBetween alike all rest' kept' is_noted'
  one_kept kept' e new = record {
    done = s ∷ h.done;
    parts = parts_more;
    count =
        ap reverse e ∙ (reverse-append kept (s ∷ []) ∙ (ap (λ xs. s ∷ xs) h.count
        ∙ sym (count_of false (absent (list_any (alike s) h.done) (ap not (sym (h.noted s)) ∙ new)))));
    noted = noted_more;
  }

  -- a later one replaces it
  pub one_replaced : not (is_noted s) ≡ false → IsBetween alike all rest' kept is_noted'
  one_replaced old = record {
    done = s ∷ h.done;
    parts = parts_more;
    count = h.count ∙ sym (count_of true (present (list_any (alike s) h.done) (ap not (sym (h.noted s)) ∙ old)));
    noted = noted_more;
  }

pub at_last : {X : Type 0} (alike : X → X → Bool) (all rest kept last : List X) (is_noted : X → Bool) →
    IsBetween alike all rest kept is_noted → rest ≡ [] → last ≡ reverse kept → last ≡ unreplaced alike all
at_last alike all rest kept last is_noted h e f = f ∙ (h.count ∙ ap (unreplaced alike) (sym (h.parts ∙ ap (λ xs. xs ++ h.done) e)))

-- nothing is left where nothing comes
pub nothing_left : {X : Type 0} (rest : List X) (n : ℕ) (r : Option X) (f : X → X) → n ≡ length rest
    → ((x : X) → 0 < n → r ≡ Some (f x)) → ((x : X) → r ≡ Some x → ⊥) → rest ≡ []
nothing_left [] n r f long gives none = refl
nothing_left (x ∷ rest) n r f long gives none = absurd (none (f x) (gives x (omega (arith, long))))
