-- Tests of the ids that tables mention, list by list.
use Rattle.std.proofs.Common.{◌≡◌, ◌∙◌, ap, Bool, ◌||◌, List, ◌∷◌, ◌++◌}
use Rattle.std.specs.List.{list_any}
use Rattle.std.proofs.lemmas.List.Folds.{list_any-append}

pub any_of_three : {X : Type 0} (f : X → Bool) (xs ys zs : List X)
    → list_any f (xs ++ (ys ++ zs)) ≡ (list_any f xs || (list_any f ys || list_any f zs))
any_of_three f xs ys zs = list_any-append f xs (ys ++ zs) ∙ ap (λ b. list_any f xs || b) (list_any-append f ys zs)

pub any_of_mentioned : {X : Type 0} (f : X → Bool) (x : X) (ys zs : List X) →
    list_any f (x ∷ (ys ++ zs)) ≡ (f x || (list_any f ys || list_any f zs))
any_of_mentioned f x ys zs = ap (λ b. f x || b) (list_any-append f ys zs)
