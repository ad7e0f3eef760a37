-- The first list that has anything, and lists that go together.
use Rattle.std.specs.Prelude.{◌≡◌, ◌≢◌, ℕ, ◌==◌, Bool, true, false, List, [], ◌∷◌, ◌++◌, take, length, refl}
use Rattle.std.proofs.Common.{◌∙◌, sym, ap, eq-eqb, eqb-true}
use Rattle.std.proofs.lemmas.List.{append-nil, nil_from_length}
use Rattle.std.proofs.Math.Seq.{take-append_seam}
use Rattle.std.specs.List.{AllZip, AllByRecursion}
use Rattle.fast_check_build_answers.specs.PackageFaults.{PackageFault, first_list}

pub first_last : (lists : List (List PackageFault)) (last : List PackageFault) → first_list lists ≡ [] →
    first_list (lists ++ last ∷ []) ≡ last
first_last [] [] e = refl
first_last [] (r ∷ rs) e = refl
first_last ([] ∷ lists) last e = first_last lists last e
first_last ((r ∷ rs) ∷ lists) last e = cc

pub first_front : (lists more : List (List PackageFault)) → first_list lists ≢ [] → first_list (lists ++ more) ≡ first_list lists
first_front [] more some = absurd (some refl)
first_front ([] ∷ lists) more some = first_front lists more some
first_front ((r ∷ rs) ∷ lists) more some = refl

pub both_append : {A B : Type 0} (R : A → B → Type 0) (xs : List A) (ys : List B) (us : List A) (vs : List B) → AllZip R xs ys →
    AllZip R us vs →
    AllZip R (xs ++ us) (ys ++ vs)
both_append R [] [] us vs h k = k
both_append R [] (y ∷ ys) us vs h k = absurd h
both_append R (x ∷ xs) [] us vs h k = absurd h
both_append R (x ∷ xs) (y ∷ ys) us vs h k = (h.0, both_append R xs ys us vs h.1 k)

pub left_empty : {A B : Type 0} (R : A → B → Type 0) (xs : List A) (ys : List B) → AllZip R xs ys → ys ≡ [] → xs ≡ []
left_empty R [] ys h e = refl
left_empty R (x ∷ xs) [] h e = absurd h
left_empty R (x ∷ xs) (y ∷ ys) h e = cc

pub right_empty : {A B : Type 0} (R : A → B → Type 0) (xs : List A) (ys : List B) → AllZip R xs ys → xs ≡ [] → ys ≡ []
right_empty R xs [] h e = refl
right_empty R [] (y ∷ ys) h e = absurd h
right_empty R (x ∷ xs) (y ∷ ys) h e = cc

pub all_front : {A : Type 0} (P : A → Type 0) (xs ys : List A) → AllByRecursion P (xs ++ ys) → AllByRecursion P xs
all_front P [] ys h = tt
all_front P (x ∷ xs) ys h = (h.0, all_front P xs ys h.1)

pub all_back : {A : Type 0} (P : A → Type 0) (xs ys : List A) → AllByRecursion P (xs ++ ys) → AllByRecursion P ys
all_back P [] ys h = h
all_back P (x ∷ xs) ys h = all_back P xs ys h.1

-- what was there stays where one more is pushed, or none
pub stays_pushed : {A : Type 0} (old new : List A) (x : A) → new ≡ old ++ x ∷ [] → take (length old) new ≡ old
stays_pushed old new x e = ap (take (length old)) e ∙ take-append_seam old (x ∷ [])

pub stays_same : {A : Type 0} (old : List A) → take (length old) old ≡ old
stays_same old = ap (take (length old)) (sym (append-nil old)) ∙ take-append_seam old []

-- whether a list is empty
pub empty_test : {A : Type 0} (xs : List A) → xs ≡ [] → (length xs == 0) ≡ true
empty_test xs e = eq-eqb (length xs) 0 (ap {B = ℕ} length e)

pub test_empty : {A : Type 0} (xs : List A) → (length xs == 0) ≡ true → xs ≡ []
test_empty xs e = nil_from_length xs (eqb-true (length xs) 0 e)

test_full : {A : Type 0} (xs : List A) (b : Bool) → (length xs == 0) ≡ b → xs ≢ [] → (length xs == 0) ≡ false
test_full xs true e some = absurd (some (test_empty xs e))
test_full xs false e some = e

pub full_test : {A : Type 0} (xs : List A) → xs ≢ [] → (length xs == 0) ≡ false
full_test xs some = test_full xs (length xs == 0) refl some
