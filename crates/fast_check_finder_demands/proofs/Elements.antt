-- Elements of lists that are made of others.
use Rattle.std.proofs.Common.{◌≡◌, ◌∙◌, sym, ap, refl, subst, Bool, true, false, cond, List, [], ◌∷◌}
use Rattle.std.proofs.Common.{map, ⊎_elim, inl, inr, ◌⊎◌, arith}
use Rattle.std.specs.List.{Contains, filter, flat_map}
use Rattle.std.proofs.lemmas.Bool.{false≢true}
use Rattle.std.proofs.lemmas.List.{length-map, get_or-map}
use Rattle.std.proofs.lemmas.List.Elements.{Contains-push_cases, Contains-append_left, Contains-append_right, Contains-append_cases}
pub use Rattle.fast_check_tables_symbols.proofs.Witness.{present as in_any}

pub no_element : {X : Type 0} (x : X) → Contains [] x → ⊥
no_element x (k, below, is) = omega (arith, below)

pub first : {X : Type 0} (x y : X) (xs : List X) → y ≡ x → Contains (y ∷ xs) x
first {X} x y xs e = subst (λ (z : X). Contains (y ∷ xs) z) e (0, omega arith, refl)

pub later : {X : Type 0} (y : X) (xs : List X) (x : X) → Contains xs x → Contains (y ∷ xs) x
later y xs x c = Contains-append_right (y ∷ []) xs x c

pub cases : {X : Type 0} (y : X) (xs : List X) (x : X) → Contains (y ∷ xs) x → (y ≡ x) ⊎ Contains xs x
cases y xs x c = ⊎_elim
    (λ here. inl (⊎_elim (λ none. absurd (no_element x none)) (λ is. is) (Contains-push_cases [] y x here)))
    (λ there. inr there)
    (Contains-append_cases (y ∷ []) xs x c)

pub only : {X : Type 0} (x y : X) → Contains (x ∷ []) y → x ≡ y
only x y c = ⊎_elim (λ is. is) (λ there. absurd (no_element y there)) (cases x [] y c)

pub in_map : {X Y : Type 0} (f : X → Y) (xs : List X) (x : X) → Contains xs x → Contains (map f xs) (f x)
in_map f xs x (k, below, is) = (k, omega (arith, below, length-map xs f), get_or-map f xs k x (f x) below ∙ ap f is)

pub of_map : {X Y : Type 0} (f : X → Y) (xs : List X) (y : Y) → Contains (map f xs) y → (x : X) × Contains xs x × (f x ≡ y)
of_map f [] y c = absurd (no_element y c)
of_map f (x ∷ xs) y c = ⊎_elim
    (λ is. (x, first x x xs refl, is))
    (λ there. let m = of_map f xs y there in (m.0, later x xs m.0 m.1, m.2))
    (cases (f x) (map f xs) y c)

pub in_flat : {X Y : Type 0} (f : X → List Y) (xs : List X) (x : X) (y : Y) → Contains xs x → Contains (f x) y → Contains (flat_map f xs) y
in_flat f [] x y c h = absurd (no_element x c)
in_flat {X} f (z ∷ zs) x y c h = ⊎_elim
    (λ is. Contains-append_left (f z) (flat_map f zs) y (subst (λ (w : X). Contains (f w) y) (sym is) h))
    (λ there. Contains-append_right (f z) (flat_map f zs) y (in_flat f zs x y there h))
    (cases z zs x c)

pub of_flat : {X Y : Type 0} (f : X → List Y) (xs : List X) (y : Y) → Contains (flat_map f xs) y →
    (x : X) × Contains xs x × Contains (f x) y
of_flat f [] y c = absurd (no_element y c)
of_flat f (x ∷ xs) y c = ⊎_elim
    (λ here. (x, first x x xs refl, here))
    (λ there. let m = of_flat f xs y there in (m.0, later x xs m.0 m.1, m.2))
    (Contains-append_cases (f x) (flat_map f xs) y c)

pub in_filter : {X : Type 0} (p : X → Bool) (xs : List X) (x : X) → Contains xs x → p x ≡ true → Contains (filter p xs) x
in_filter p [] x c e = absurd (no_element x c)
in_filter p (y ∷ xs) x c e = by (p y) refl (cases y xs x c) (λ there. in_filter p xs x there e)
  where
    by : (b : Bool) → p y ≡ b → (y ≡ x) ⊎ Contains xs x → (Contains xs x → Contains (filter p xs) x) →
        Contains (cond b (y ∷ filter p xs) (filter p xs)) x
    by true k d more = ⊎_elim (λ is. first x y (filter p xs) is) (λ there. later y (filter p xs) x (more there)) d
    by false k d more = ⊎_elim (λ is. absurd (false≢true (sym k ∙ (ap p is ∙ e)))) more d

pub of_filter : {X : Type 0} (p : X → Bool) (xs : List X) (x : X) → Contains (filter p xs) x → Contains xs x × (p x ≡ true)
of_filter p [] x c = absurd (no_element x c)
of_filter p (y ∷ xs) x c = by (p y) refl c (λ d. let m = of_filter p xs x d in (later y xs x m.0, m.1))
  where
    by : (b : Bool) → p y ≡ b → Contains (cond b (y ∷ filter p xs) (filter p xs)) x →
        (Contains (filter p xs) x → Contains (y ∷ xs) x × (p x ≡ true)) → Contains (y ∷ xs) x × (p x ≡ true)
    by true k d behind = ⊎_elim (λ is. (first x y xs is, ap p (sym is) ∙ k)) behind (cases y (filter p xs) x d)
    by false k d behind = behind d
