-- Groups, when keys and items become others and stay apart.
use Rattle.std.proofs.Common.{◌≡◌, ◌∙◌, ap, refl, Bool, true, false, List, [], ◌∷◌, map}
use Rattle.fast_check_meaning_expandos.specs.Groups.{others, items_of, grouped}

module _ {K L A B : Type 0} (same : K → K → Bool) (alike : L → L → Bool) (key : A → K) (name : B → L) (f : K → L) (g : A → B)
    (keeps : (a b : K) → alike (f a) (f b) ≡ same a b) (names : (x : A) → name (g x) ≡ f (key x)) where
  abbrev moved_group : K × List A → L × List B
  moved_group e = (f e.0, map g e.1)

  items_moved : (k : K) (xs : List A) → items_of alike name (f k) (map g xs) ≡ map g (items_of same key k xs)
  items_moved k [] = refl
  items_moved k (x ∷ xs) = by (same k (key x)) refl (items_moved k xs)
    where
      is : alike (f k) (name (g x)) ≡ same k (key x)
      is = ap (alike (f k)) (names x) ∙ keeps k (key x)

      by : (b : Bool) → same k (key x) ≡ b → items_of alike name (f k) (map g xs) ≡ map g (items_of same key k xs) →
          items_of alike name (f k) (map g (x ∷ xs)) ≡ map g (items_of same key k (x ∷ xs))
      by true e rest = rw (is ∙ e, e) (ap (λ ys. g x ∷ ys) rest)
      by false e rest = rw (is ∙ e, e) rest

  others_moved : (k : K) (es : List (K × List A)) → others alike (f k) (map moved_group es) ≡ map moved_group (others same k es)
  others_moved k [] = refl
  others_moved k (x ∷ xs) = by (same k x.0) refl (others_moved k xs)
    where
      by : (b : Bool) → same k x.0 ≡ b → others alike (f k) (map moved_group xs) ≡ map moved_group (others same k xs) →
          others alike (f k) (map moved_group (x ∷ xs)) ≡ map moved_group (others same k (x ∷ xs))
      by true e rest = rw (keeps k x.0 ∙ e, e) rest
      by false e rest = rw (keeps k x.0 ∙ e, e) (ap (λ ys. moved_group x ∷ ys) rest)

  pub grouped_moved : (xs : List A) → grouped alike name (map g xs) ≡ map moved_group (grouped same key xs)
  grouped_moved [] = refl
  grouped_moved (x ∷ xs) =
      (λ i. (names x i, g x ∷ items_of alike name (names x i) (map g xs)) ∷ others alike (names x i) (grouped_moved xs i))
      ∙ (λ i. (f (key x), g x ∷ items_moved (key x) xs i) ∷ others_moved (key x) (grouped same key xs) i)
