-- The first place in a longer list, by two tests, and what stands there.
use Rattle.std.proofs.Common.{◌≡◌, ◌∙◌, sym, ap, refl, ℕ, suc, min, Bool, true, false, ◌||◌, cond, List, [], ◌∷◌, ◌++◌, map, length}
use Rattle.std.proofs.Common.{arith, Option, Some, None, find, option_map, option_and_then, slice_get, All}
use Rattle.std.specs.Option.{option_or}
use Rattle.std.proofs.lemmas.List.Elements.{All-head, All-tail}
use Rattle.fast_check_tables_packages.specs.First.{first_place, earlier}

-- ---- one item more

pushed : (b c : Bool) (o : Option ℕ) (n : ℕ) → cond b (Some 0) (option_map suc (option_or o (cond c (Some n) None)))
    ≡ option_or (cond b (Some 0) (option_map suc o)) (cond c (Some (suc n)) None)
pushed true c o n = refl
pushed false true None n = refl
pushed false false None n = refl
pushed false c (Some x) n = refl

pub first_push : {X : Type 0} (test : X → Bool) (xs : List X) (x : X)
    → first_place test (xs ++ x ∷ []) ≡ option_or (first_place test xs) (cond (test x) (Some (length xs)) None)
first_push test [] x = refl
first_push test (y ∷ xs) x =
    ap (λ o. cond (test y) (Some 0) (option_map suc o)) (first_push test xs x)
    ∙ pushed (test y) (test x) (first_place test xs) (length xs)

-- ---- what stands there

stands : {X : Type 0} (b : Bool) (x : X) (xs : List X) (o : Option ℕ) (r : Option X) → r ≡ option_and_then (slice_get xs) o
    → cond b (Some x) r ≡ option_and_then (slice_get (x ∷ xs)) (cond b (Some 0) (option_map suc o))
stands true x xs o r h = refl
stands false x xs None r h = h
stands false x xs (Some i) r h = h

pub found_there : {X : Type 0} (test : X → Bool) (xs : List X) → find test xs ≡ option_and_then (slice_get xs) (first_place test xs)
found_there test [] = refl
found_there test (x ∷ xs) = stands (test x) x xs (first_place test xs) (find test xs) (found_there test xs)

-- ---- equal tests

pub first_same : {X : Type 0} (f g : X → Bool) → ((x : X) → f x ≡ g x) → (xs : List X) → first_place f xs ≡ first_place g xs
first_same f g e [] = refl
first_same f g e (x ∷ xs) =
    ap (λ b. cond b (Some 0) (option_map suc (first_place f xs))) (e x)
    ∙ ap (λ o. cond (g x) (Some 0) (option_map suc o)) (first_same f g e xs)

pub first_same_of : {X : Type 0} (f g : X → Bool) (xs : List X) → All (λ x. f x ≡ g x) xs → first_place f xs ≡ first_place g xs
first_same_of f g [] e = refl
first_same_of f g (x ∷ xs) e =
    ap (λ b. cond b (Some 0) (option_map suc (first_place f xs))) (All-head (λ y. f y ≡ g y) x xs e)
    ∙ ap (λ o. cond (g x) (Some 0) (option_map suc o)) (first_same_of f g xs (All-tail (λ y. f y ≡ g y) x xs e))

pub first_none : {X : Type 0} (xs : List X) → first_place (λ _. false) xs ≡ None
first_none [] = refl
first_none (x ∷ xs) = ap (λ o. option_map suc o) (first_none xs)

pub first_mapped : {X Y : Type 0} (f : X → Y) (test : Y → Bool) (xs : List X) →
    first_place test (map f xs) ≡ first_place (λ x. test (f x)) xs
first_mapped f test [] = refl
first_mapped f test (x ∷ xs) = ap (λ o. cond (test (f x)) (Some 0) (option_map suc o)) (first_mapped f test xs)

-- ---- either of two tests

min_zero : (n : ℕ) → min n 0 ≡ 0
min_zero n = omega arith

zero_min : (n : ℕ) → min 0 n ≡ 0
zero_min n = omega arith

min_suc : (p q : ℕ) → min (suc p) (suc q) ≡ suc (min p q)
min_suc p q = omega arith

either : (b c : Bool) (o p : Option ℕ)
    → cond (b || c) (Some 0) (option_map suc (earlier o p)) ≡ earlier (cond b (Some 0) (option_map suc o))
    (cond c (Some 0) (option_map suc p))
either true true o p = ap Some (sym (zero_min 0))
either true false o None = refl
either true false o (Some q) = ap Some (sym (zero_min (suc q)))
either false true None p = refl
either false true (Some n) p = ap Some (sym (min_zero (suc n)))
either false false None None = refl
either false false None (Some q) = refl
either false false (Some n) None = refl
either false false (Some n) (Some q) = ap Some (sym (min_suc n q))

pub first_of_either : {X : Type 0} (f g : X → Bool) (xs : List X)
    → first_place (λ x. f x || g x) xs ≡ earlier (first_place f xs) (first_place g xs)
first_of_either f g [] = refl
first_of_either f g (x ∷ xs) =
    ap (λ o. cond (f x || g x) (Some 0) (option_map suc o)) (first_of_either f g xs)
    ∙ either (f x) (g x) (first_place f xs) (first_place g xs)

min_assoc : (p q r : ℕ) → min (min p q) r ≡ min p (min q r)
min_assoc p q r = omega arith

pub earlier_none : (o : Option ℕ) → earlier o None ≡ o
earlier_none None = refl
earlier_none (Some p) = refl

pub earlier_assoc : (o p q : Option ℕ) → earlier (earlier o p) q ≡ earlier o (earlier p q)
earlier_assoc None p q = refl
earlier_assoc (Some m) None q = refl
earlier_assoc (Some m) (Some n) None = refl
earlier_assoc (Some m) (Some n) (Some k) = ap Some (min_assoc m n k)
