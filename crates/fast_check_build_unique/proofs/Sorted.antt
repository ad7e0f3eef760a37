-- Two sorted lists of the same elements are one; and keys of maps.
use Rattle.std.proofs.Common.{◌≡◌, ◌∙◌, sym, ap, refl, subst, Bool, true, false, cond, List, [], ◌∷◌, map, Some, ⊎_elim}
use Rattle.std.specs.List.{Contains, AllByRecursion}
use Rattle.std.specs.List.Sorted.{IsStrictlySortedBy}
use Rattle.std.specs.Map.{lookup}
use Rattle.std.specs.Ordering.{ordering_reverse}
use Rattle.std.specs.Cmp.{IsTotalOrder}
use Rattle.std.specs.declared.cmp.Ordering.{Ordering}
use Rattle.std.specs.declared.cmp.Ordering.TheVariants.{Less, Greater}
use Rattle.std.proofs.lemmas.Option.{none-some}
use Rattle.fast_check_finder_demands.proofs.Elements.{no_element, cases, first, later}

less_greater : Less ≡ Greater → ⊥
less_greater e = cc

module _ {A : Type 0} (cmp : A → A → Ordering) (total : IsTotalOrder cmp) where
  apart : (a b : A) → cmp a b ≡ Less → cmp b a ≡ Less → ⊥
  apart a b h g = less_greater (sym h ∙ (total.antisymm a b ∙ ap ordering_reverse g))

  abbrev IsBelow : A → List A → Type 0
  IsBelow x xs = AllByRecursion (λ y. cmp x y ≡ Less) xs

  abbrev IsPart : List A → List A → Type 0
  IsPart xs ys = (a : A) → Contains xs a → Contains ys a

  below : (x : A) (xs : List A) → IsBelow x xs → (y : A) → Contains xs y → cmp x y ≡ Less
  below x [] h y c = absurd (no_element y c)
  below x (z ∷ zs) h y c = ⊎_elim (λ is. subst (λ (w : A). cmp x w ≡ Less) is h.0) (λ there. below x zs h.1 y there) (cases z zs y c)

  heads : (x y : A) (xs ys : List A) → IsBelow x xs → IsBelow y ys → Contains (y ∷ ys) x → Contains (x ∷ xs) y → x ≡ y
  heads x y xs ys a b c d = ⊎_elim (λ is. sym is)
      (λ there. ⊎_elim (λ is. is) (λ behind. absurd (apart x y (below x xs a y behind) (below y ys b x there))) (cases x xs y d))
      (cases y ys x c)

  tails : (x : A) (xs ys : List A) → IsBelow x xs → IsPart (x ∷ xs) (x ∷ ys) → IsPart xs ys
  tails x xs ys h f a c = ⊎_elim
      (λ is. let less : cmp x x ≡ Less = subst (λ (w : A). cmp x w ≡ Less) (sym is) (below x xs h a c) in absurd (apart x x less less))
      (λ there. there)
      (cases x ys a (f a (later x xs a c)))

  pub same_sorted : (xs ys : List A) → IsStrictlySortedBy cmp xs → IsStrictlySortedBy cmp ys → IsPart xs ys → IsPart ys xs → xs ≡ ys
  unfolding IsStrictlySortedBy
  same_sorted [] [] s t f g = refl
  same_sorted (x ∷ xs) [] s t f g = absurd (no_element x (f x (first x x xs refl)))
  same_sorted [] (y ∷ ys) s t f g = absurd (no_element y (g y (first y y ys refl)))
  same_sorted (x ∷ xs) (y ∷ ys) s t f g =
      let e : y ≡ x = sym (heads x y xs ys s.0 t.0 (f x (first x x xs refl)) (g y (first y y ys refl))) in
      let more : IsPart xs ys = tails x xs ys s.0 (subst (λ (z : A). IsPart (x ∷ xs) (z ∷ ys)) e f) in
      let less : IsPart ys xs = tails x ys xs (subst (λ (z : A). IsBelow z ys) e t.0) (subst (λ (z : A). IsPart (z ∷ ys) (x ∷ xs)) e g) in
      ap (λ (z : A). z ∷ xs) (sym e) ∙ ap (λ (zs : List A). y ∷ zs) (same_sorted xs ys s.1 t.1 more less)

module _ {K A : Type 0} (f : K → A) (cmp : A → A → Ordering) where
  all_map : (x : K) (ks : List K) → AllByRecursion (λ y. cmp (f x) (f y) ≡ Less) ks → AllByRecursion (λ y. cmp (f x) y ≡ Less) (map f ks)
  all_map x [] h = tt
  all_map x (k ∷ ks) h = (h.0, all_map x ks h.1)

  pub sorted_map : (ks : List K) → IsStrictlySortedBy (λ a b. cmp (f a) (f b)) ks → IsStrictlySortedBy cmp (map f ks)
  unfolding IsStrictlySortedBy
  sorted_map [] h = tt
  sorted_map (k ∷ ks) h = (all_map k ks h.0, sorted_map ks h.1)

-- the keys of a map, seen by a function, are those that a test finds

module _ {K X A : Type 0} (f : K → A) (a : A) (test : K → Bool) where
  pub of_keys : ((k : K) → f k ≡ a → test k ≡ true) → (es : List (K × X)) → Contains (map f (map (λ e. e.0) es)) a →
      (x : X) × (lookup test es ≡ Some x)
  of_keys passes [] c = absurd (no_element a c)
  of_keys passes (e ∷ es) c = ⊎_elim
      (λ is. (e.1, ap (λ b. cond b (Some e.1) (lookup test es)) (passes e.0 is)))
      (λ there. go (test e.0) (of_keys passes es there))
      (cases (f e.0) (map f (map (λ e. e.0) es)) a c)
    where
      go : (b : Bool) → (x : X) × (lookup test es ≡ Some x) → (x : X) × (cond b (Some e.1) (lookup test es) ≡ Some x)
      go true s = (e.1, refl)
      go false s = s

  pub in_keys : ((k : K) → test k ≡ true → f k ≡ a) → (es : List (K × X)) (x : X) → lookup test es ≡ Some x →
      Contains (map f (map (λ e. e.0) es)) a
  in_keys is [] x h = absurd (none-some x h)
  in_keys is (e ∷ es) x h = go (test e.0) refl h (λ g. in_keys is es x g)
    where
      go : (b : Bool) → test e.0 ≡ b → cond b (Some e.1) (lookup test es) ≡ Some x →
          (lookup test es ≡ Some x → Contains (map f (map (λ e. e.0) es)) a) → Contains (f e.0 ∷ map f (map (λ e. e.0) es)) a
      go true t g more = first a (f e.0) (map f (map (λ e. e.0) es)) (is e.0 t)
      go false t g more = later (f e.0) (map f (map (λ e. e.0) es)) a (more g)
