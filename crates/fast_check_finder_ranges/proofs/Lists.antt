-- Lists that are filtered, filled or passed over.
use Rattle.std.proofs.Common.{◌≡◌, ◌∙◌, ◌==◌, refl, sym, ap, Bool, true, false, cond, ◌||◌, List, [], ◌∷◌, ◌++◌, map, length}
use Rattle.std.specs.List.{filter, flat_map, AllByRecursion}
use Rattle.std.proofs.lemmas.Bool.{false≢true}
use Rattle.fast_check_finder_ranges.specs.Answers.{is_filled}

pub all_append : {X : Type 0} (P : X → Type 0) (xs ys : List X) → AllByRecursion P xs → AllByRecursion P ys → AllByRecursion P (xs ++ ys)
all_append P [] ys a b = b
all_append P (x ∷ xs) ys a b = (a.0, all_append P xs ys a.1 b)

pub all_map : {X Y : Type 0} (P : Y → Type 0) (f : X → Y) → ((x : X) → P (f x)) → (xs : List X) → AllByRecursion P (map f xs)
all_map P f h [] = tt
all_map P f h (x ∷ xs) = (h x, all_map P f h xs)

pub all_flat : {X Y : Type 0} (P : Y → Type 0) (f : X → List Y) → ((x : X) → AllByRecursion P (f x)) → (xs : List X) →
    AllByRecursion P (flat_map f xs)
all_flat P f h [] = tt
all_flat P f h (x ∷ xs) = all_append P (f x) (flat_map f xs) (h x) (all_flat P f h xs)

-- all pass a test, or none does
pub filter_const : {X : Type 0} (test : X → Bool) (b : Bool) (xs : List X) → AllByRecursion (λ x. test x ≡ b) xs →
    filter test xs ≡ cond b xs []
filter_const test true [] a = refl
filter_const test false [] a = refl
filter_const test true (x ∷ xs) a =
    ap (λ b. cond b (x ∷ filter test xs) (filter test xs)) a.0 ∙ ap (λ ys. x ∷ ys) (filter_const test true xs a.1)
filter_const test false (x ∷ xs) a = ap (λ b. cond b (x ∷ filter test xs) (filter test xs)) a.0 ∙ filter_const test false xs a.1

-- nothing is given by any
pub none_given : {X Y : Type 0} (f : X → List Y) (xs : List X) → AllByRecursion (λ x. f x ≡ []) xs → flat_map f xs ≡ []
none_given f [] a = refl
none_given f (x ∷ xs) a = ap (λ ys. ys ++ flat_map f xs) a.0 ∙ none_given f xs a.1

pub filled_append : {X : Type 0} (xs ys : List X) → is_filled (xs ++ ys) ≡ (is_filled xs || is_filled ys)
filled_append [] ys = refl
filled_append (x ∷ xs) ys = refl

pub filled_map : {X Y : Type 0} (f : X → Y) (xs : List X) → is_filled (map f xs) ≡ is_filled xs
filled_map f [] = refl
filled_map f (x ∷ xs) = refl

pub filled_flat : {X Y : Type 0} (f : X → List Y) → ((x : X) → is_filled (f x) ≡ true) → (xs : List X) →
    is_filled (flat_map f xs) ≡ is_filled xs
filled_flat f h [] = refl
filled_flat f h (x ∷ xs) = filled_append (f x) (flat_map f xs) ∙ ap (λ b. b || is_filled (flat_map f xs)) (h x)

pub filled_right : {X : Type 0} (xs ys : List X) → is_filled ys ≡ true → is_filled (xs ++ ys) ≡ true
filled_right [] ys h = h
filled_right (x ∷ xs) ys h = refl

pub not_filled : {X : Type 0} (xs : List X) → is_filled xs ≡ false → xs ≡ []
not_filled [] h = refl
not_filled (x ∷ xs) h = absurd (false≢true (sym h))

pub filled_from : {X : Type 0} (xs : List X) → (length xs == 0) ≡ false → is_filled xs ≡ true
filled_from [] h = absurd (false≢true (sym h))
filled_from (x ∷ xs) h = refl
