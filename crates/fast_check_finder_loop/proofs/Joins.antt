-- Lists to which others are joined.
use Rattle.std.proofs.Common.{subst, sym, ap, ◌∙◌, List, [], ◌∷◌, ◌++◌, append-nil, inl, inr, ⊎_elim}
use Rattle.std.specs.List.{flat_map}
use Rattle.std.proofs.lemmas.List.Concat.{flat_map-append}
use Rattle.std.proofs.lemmas.List.Elements.{Contains-append_left, Contains-append_right, Contains-append_cases}
use Rattle.fast_check_finder_demands.proofs.Elements.{no_element}
use Rattle.fast_check_finder_demands.specs.Yields.{Joins}

module _ {X : Type 0} where
  pub joins_none : (xs : List X) → Joins [] xs xs
  joins_none xs = record { sound = λ x c. inl c; kept = λ x c. c; whole = λ x c. absurd (no_element x c) }

  pub joins_first : (xs : List X) → Joins xs [] xs
  joins_first xs = record { sound = λ x c. inr c; kept = λ x c. absurd (no_element x c); whole = λ x c. c }

  pub joins_last : (more xs : List X) → Joins more xs (xs ++ more)
  joins_last more xs = record {
    sound = λ x c. Contains-append_cases xs more x c;
    kept = λ x c. Contains-append_left xs more x c;
    whole = λ x c. Contains-append_right xs more x c;
  }

  pub joins_then : (m n a b c : List X) → Joins m a b → Joins n b c → Joins (m ++ n) a c
  joins_then m n a b c p q = record {
    sound = λ x t.
        ⊎_elim
        (λ u. ⊎_elim (λ o. inl o) (λ v. inr (Contains-append_left m n x v)) (p.sound x u))
        (λ v. inr (Contains-append_right m n x v))
        (q.sound x t);
    kept = λ x t. q.kept x (p.kept x t);
    whole = λ x t. ⊎_elim (λ u. q.kept x (p.whole x u)) (λ u. q.whole x u) (Contains-append_cases m n x t);
  }

  pub joins_left : (m a b ys : List X) → Joins m a b → Joins m (a ++ ys) (b ++ ys)
  joins_left m a b ys p = record {
    sound = λ x t.
        ⊎_elim
        (λ u. ⊎_elim (λ o. inl (Contains-append_left a ys x o)) (λ v. inr v) (p.sound x u))
        (λ u. inl (Contains-append_right a ys x u))
        (Contains-append_cases b ys x t);
    kept = λ x t.
        ⊎_elim (λ u. Contains-append_left b ys x (p.kept x u)) (λ u. Contains-append_right b ys x u) (Contains-append_cases a ys x t);
    whole = λ x t. Contains-append_left b ys x (p.whole x t);
  }

  pub joins_right : (m a b xs : List X) → Joins m a b → Joins m (xs ++ a) (xs ++ b)
  joins_right m a b xs p = record {
    sound = λ x t.
        ⊎_elim
        (λ u. inl (Contains-append_left xs a x u))
        (λ u. ⊎_elim (λ o. inl (Contains-append_right xs a x o)) (λ v. inr v) (p.sound x u))
        (Contains-append_cases xs b x t);
    kept = λ x t.
        ⊎_elim (λ u. Contains-append_left xs b x u) (λ u. Contains-append_right xs b x (p.kept x u)) (Contains-append_cases xs a x t);
    whole = λ x t. Contains-append_right xs b x (p.whole x t);
  }

-- what one element more gives
pub joins_push : {X Y : Type 0} (f : X → List Y) (xs : List X) (x : X) → Joins (f x) (flat_map f xs) (flat_map f (xs ++ x ∷ []))
joins_push {X} {Y} f xs x = subst (λ (ys : List Y). Joins (f x) (flat_map f xs) ys)
    (sym (flat_map-append f xs (x ∷ []) ∙ ap (λ ys. flat_map f xs ++ ys) (append-nil (f x)))) (joins_last (f x) (flat_map f xs))

pub joins_more : {X Y : Type 0} (f : X → List Y) (xs : List X) (x : X) (a b c : List Y) → Joins (flat_map f xs) a b → Joins (f x) b c →
    Joins (flat_map f (xs ++ x ∷ [])) a c
joins_more {X} {Y} f xs x a b c p q = subst (λ (ys : List Y). Joins ys a c)
    (sym (flat_map-append f xs (x ∷ []) ∙ ap (λ ys. flat_map f xs ++ ys) (append-nil (f x)))) (joins_then (flat_map f xs) (f x) a b c p q)
