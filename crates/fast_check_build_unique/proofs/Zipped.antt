-- Lists that go together, by their keys.
use Rattle.std.proofs.Common.{◌≡◌, sym, refl, List, [], ◌∷◌, ◌++◌, map}
use Rattle.std.specs.List.{Contains, flat_map}
use Rattle.fast_check_tree_syntax.specs.Same.{Each}
use Rattle.fast_check_build_answers.specs.PackageFaults.{PackageFault, first_list}
use Rattle.fast_check_finder_demands.proofs.Elements.{first, later}

pub heads_are : {A : Type 0} (a b : A) (ans bs : List A) → a ∷ ans ≡ b ∷ bs → (a ≡ b) × (ans ≡ bs)
heads_are a b ans bs e = (cc, cc)

no_more : {A : Type 0} (a : A) (ans : List A) → [] ≡ a ∷ ans → ⊥
no_more a ans e = cc

pub each_append : {A : Type 0} (R : A → A → Type 0) (xs ys zs ws : List A) → Each R xs ys → Each R zs ws → Each R (xs ++ zs) (ys ++ ws)
each_append R [] [] zs ws h k = k
each_append R (x ∷ xs) (y ∷ ys) zs ws h k = (h.0, each_append R xs ys zs ws h.1 k)
each_append R [] (y ∷ ys) zs ws h k = absurd h
each_append R (x ∷ xs) [] zs ws h k = absurd h

pub each_map : {A B : Type 0} (R : A → A → Type 0) (S : B → B → Type 0) (f g : A → B) → ((x y : A) → R x y → S (f x) (g y)) →
    (xs ys : List A) → Each R xs ys → Each S (map f xs) (map g ys)
each_map R S f g h [] [] e = tt
each_map R S f g h (x ∷ xs) (y ∷ ys) e = (h x y e.0, each_map R S f g h xs ys e.1)
each_map R S f g h [] (y ∷ ys) e = absurd e
each_map R S f g h (x ∷ xs) [] e = absurd e

-- the entries of two maps with the same keys
module _ {K X T B : Type 0} (key : K → T) (R : B → B → Type 0) (f g : K × X → List B) where
  abbrev AreSameAt : List (K × X) → List (K × X) → Type 0
  AreSameAt xs ys = (x y : K × X) → Contains xs x → Contains ys y → key x.0 ≡ key y.0 → Each R (f x) (g y)

  rest_same : (x y : K × X) (xs ys : List (K × X)) → AreSameAt (x ∷ xs) (y ∷ ys) → AreSameAt xs ys
  rest_same x y xs ys h = λ a b c d e. h a b (later x xs a c) (later y ys b d) e

  pub each_flat : (xs ys : List (K × X)) → map key (map (λ e. e.0) xs) ≡ map key (map (λ e. e.0) ys) → AreSameAt xs ys →
      Each R (flat_map f xs) (flat_map g ys)
  each_flat [] [] e h = tt
  each_flat (x ∷ xs) (y ∷ ys) e h =
      let s = heads_are (key x.0) (key y.0) (map key (map (λ e. e.0) xs)) (map key (map (λ e. e.0) ys)) e in
      each_append R (f x) (g y) (flat_map f xs) (flat_map g ys) (h x y (first x x xs refl) (first y y ys refl) s.0)
      (each_flat xs ys s.1 (rest_same x y xs ys h))
  each_flat [] (y ∷ ys) e h = absurd (no_more _ _ e)
  each_flat (x ∷ xs) [] e h = absurd (no_more _ _ (sym e))

-- the first list that is not empty
first_of : (R : PackageFault → PackageFault → Type 0) (fs gs : List PackageFault) (more others : List (List PackageFault)) → Each R fs gs →
    Each R (first_list more) (first_list others) → Each R (first_list (fs ∷ more)) (first_list (gs ∷ others))
first_of R [] [] more others h k = k
first_of R (f ∷ fs) (g ∷ gs) more others h k = h
first_of R [] (g ∷ gs) more others h k = absurd h
first_of R (f ∷ fs) [] more others h k = absurd h

module _ {K X T : Type 0} (key : K → T) (R : PackageFault → PackageFault → Type 0) (f g : K × X → List PackageFault) where
  pub each_first : (xs ys : List (K × X)) → map key (map (λ e. e.0) xs) ≡ map key (map (λ e. e.0) ys) → AreSameAt key R f g xs ys →
      Each R (first_list (map f xs)) (first_list (map g ys))
  each_first [] [] e h = tt
  each_first (x ∷ xs) (y ∷ ys) e h =
      let s = heads_are (key x.0) (key y.0) (map key (map (λ e. e.0) xs)) (map key (map (λ e. e.0) ys)) e in
      first_of R (f x) (g y) (map f xs) (map g ys) (h x y (first x x xs refl) (first y y ys refl) s.0)
      (each_first xs ys s.1 (rest_same key R f g x y xs ys h))
  each_first [] (y ∷ ys) e h = absurd (no_more _ _ e)
  each_first (x ∷ xs) [] e h = absurd (no_more _ _ (sym e))
