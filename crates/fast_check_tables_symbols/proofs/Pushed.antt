-- What a loop has pushed, one after another.
use Rattle.std.proofs.Common.{◌≡◌, ◌∙◌, sym, ap, refl, ℕ, ◌+◌, ◌<◌, ◌≤◌, List, [], ◌∷◌, ◌++◌, map, length, get_or, take, append_assoc}
use Rattle.std.proofs.Common.{append-nil}
use Rattle.std.specs.List.{flat_map}
use Rattle.std.proofs.lemmas.List.{take_more, take_all}
use Rattle.std.proofs.lemmas.List.Concat.{flat_map-append}

module _ {X Y : Type 0} (f : X → List Y) (xs : List X) (i : ℕ) where
  pub each_more : (x : X) (before : List Y) {out after : List Y} → i < length xs → x ≡ get_or xs i x →
      out ≡ before ++ flat_map f (take i xs) →
      after ≡ out ++ f x → after ≡ before ++ flat_map f (take (i + 1) xs)
  each_more x before lt is h p =
      let more = ap (flat_map f) (take_more xs i x lt ∙ ap (λ (y : X). take i xs ++ y ∷ []) (sym is))
      ∙ (flat_map-append f (take i xs) (x ∷ []) ∙ ap (λ (ys : List Y). flat_map f (take i xs) ++ ys) (append-nil (f x))) in
      p ∙ (ap (λ (ys : List Y). ys ++ f x) h ∙
      (append_assoc before (flat_map f (take i xs)) (f x) ∙ ap (λ (ys : List Y). before ++ ys) (sym more)))

  pub each_all : (before : List Y) {out : List Y} → length xs ≤ i → out ≡ before ++ flat_map f (take i xs) → out ≡ before ++ flat_map f xs
  each_all before le h = h ∙ ap (λ (ys : List X). before ++ flat_map f ys) (take_all i xs le)

map_each : {X Y : Type 0} (g : X → Y) (xs : List X) → flat_map (λ (x : X). g x ∷ []) xs ≡ map g xs
map_each g [] = refl
map_each g (x ∷ xs) = ap (λ ys. g x ∷ ys) (map_each g xs)

module _ {X Y : Type 0} (g : X → Y) (xs : List X) (i : ℕ) where
  pub one_more : (x : X) (before : List Y) {out after : List Y} → i < length xs → x ≡ get_or xs i x → out ≡ before ++ map g (take i xs) →
      after ≡ out ++ g x ∷ [] → after ≡ before ++ map g (take (i + 1) xs)
  one_more x before lt is h p =
      each_more (λ (x : X). g x ∷ []) xs i x before lt is (h ∙ ap (λ (ys : List Y). before ++ ys) (sym (map_each g (take i xs)))) p
      ∙ ap (λ (ys : List Y). before ++ ys) (map_each g (take (i + 1) xs))

  pub all : (before : List Y) {out : List Y} → length xs ≤ i → out ≡ before ++ map g (take i xs) → out ≡ before ++ map g xs
  all before le h = h ∙ ap (λ (ys : List X). before ++ map g ys) (take_all i xs le)
