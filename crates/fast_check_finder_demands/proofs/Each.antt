-- What holds of each element of a list.
use Rattle.std.proofs.Common.{◌≡◌, refl, subst, Bool, true, false, cond, List, [], ◌∷◌, ◌++◌, map, Option, Some, None, ⊎_elim}
use Rattle.std.specs.List.{Contains, filter, flat_map}
use Rattle.std.proofs.lemmas.List.Elements.{Contains-append_cases}
use Rattle.fast_check_finder_demands.specs.symbol_demands.Rules.{each_of}
use Rattle.fast_check_finder_demands.proofs.Elements.{no_element, first, later, only}

abbrev pub Each : {X : Type 0} → (X → Type 0) → List X → Type 0
Each {X} P xs = (x : X) → Contains xs x → P x

pub each_nil : {X : Type 0} (P : X → Type 0) → Each P []
each_nil P = λ x t. absurd (no_element x t)

pub each_one : {X : Type 0} (P : X → Type 0) (y : X) → P y → Each P (y ∷ [])
each_one P y h = λ x t. subst P (only y x t) h

pub each_append : {X : Type 0} (P : X → Type 0) (xs ys : List X) → Each P xs → Each P ys → Each P (xs ++ ys)
each_append P xs ys f g = λ x t. ⊎_elim (f x) (g x) (Contains-append_cases xs ys x t)

pub each_cons : {X : Type 0} (P : X → Type 0) (y : X) (xs : List X) → P y → Each P xs → Each P (y ∷ xs)
each_cons P y xs h g = each_append P (y ∷ []) xs (each_one P y h) g

pub each_map : {X Y : Type 0} (P : Y → Type 0) (f : X → Y) (xs : List X) → ((x : X) → Contains xs x → P (f x)) → Each P (map f xs)
each_map P f [] h = each_nil P
each_map P f (x ∷ xs) h = each_cons P (f x) (map f xs) (h x (first x x xs refl)) (each_map P f xs (λ y t. h y (later x xs y t)))

pub each_flat : {X Y : Type 0} (P : Y → Type 0) (f : X → List Y) (xs : List X) → ((x : X) → Contains xs x → Each P (f x)) →
    Each P (flat_map f xs)
each_flat P f [] h = each_nil P
each_flat P f (x ∷ xs) h = each_append P (f x) (flat_map f xs) (h x (first x x xs refl)) (each_flat P f xs (λ y t. h y (later x xs y t)))

pub each_cond : {X : Type 0} (P : X → Type 0) (b : Bool) (xs ys : List X) → Each P xs → Each P ys → Each P (cond b xs ys)
each_cond P true xs ys f g = f
each_cond P false xs ys f g = g

pub each_each_of : {X Y : Type 0} (P : Y → Type 0) (f : X → List Y) (o : Option X) → ((x : X) → o ≡ Some x → Each P (f x)) →
    Each P (each_of f o)
each_each_of P f None h = each_nil P
each_each_of P f (Some x) h = h x refl

pub each_filter : {X : Type 0} (P : X → Type 0) (test : X → Bool) (xs : List X) → Each P xs → Each P (filter test xs)
each_filter P test [] h = each_nil P
each_filter P test (x ∷ xs) h = go (test x) (each_filter P test xs (λ y t. h y (later x xs y t)))
  where
    go : (b : Bool) → Each P (filter test xs) → Each P (cond b (x ∷ filter test xs) (filter test xs))
    go true f = each_cons P x (filter test xs) (h x (first x x xs refl)) f
    go false f = f
