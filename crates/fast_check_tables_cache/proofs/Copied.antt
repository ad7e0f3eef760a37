-- What copies of the items of a list have in common with them.
use Rattle.std.specs.Prelude.{◌≡◌, List, [], ◌∷◌, map, refl}
use Rattle.std.proofs.Common.{ap, ◌∙◌}
use Rattle.std.specs.List.{AllZip}

-- where each copy shows what its original shows, the list of the copies shows what the list shows
pub copied : {A B : Type 0} (v : A → B) (R : A → A → Type 0) (xs ys : List A) → AllZip R xs ys → ((x y : A) → R x y → v y ≡ v x) →
    map v ys ≡ map v xs
copied v R [] [] h same = refl
copied v R [] (y ∷ ys) h same = absurd h
copied v R (x ∷ xs) [] h same = absurd h
copied v R (x ∷ xs) (y ∷ ys) h same = ap (λ w. w ∷ map v ys) (same x y h.0) ∙ ap (λ ws. v x ∷ ws) (copied v R xs ys h.1 same)
