-- What the tests of lists say of single items.
use Rattle.std.proofs.Common.{◌≡◌, ◌∙◌, sym, ap, refl, ℕ, zero, suc, ◌<◌, Bool, true, false, not, ◌||◌, ◌&&◌, ◌==◌, List, [], ◌∷◌, Option}
use Rattle.std.proofs.Common.{Some, None, length, get_or, arith}
use Rattle.std.specs.Prelude.{is_some}
use Rattle.std.specs.List.{list_any, Contains, flat_map}
use Rattle.std.specs.Map.{values_of}
use Rattle.std.specs.Cmp.{unsigned_Decides}
use Rattle.std.proofs.lemmas.List.Folds.{list_any-append}
use Rattle.std.proofs.lemmas.List.Elements.{Contains-push, Contains-append_left, Contains-append_right}

pub first_of : {X : Type 0} (x : X) (xs : List X) → Contains (x ∷ xs) x
first_of x xs = Contains-append_left (x ∷ []) xs x (Contains-push [] x)

pub later_of : {X : Type 0} (x y : X) (xs : List X) → Contains xs y → Contains (x ∷ xs) y
later_of x y xs h = Contains-append_right (x ∷ []) xs y h

-- some item passes
witness_at : {X : Type 0} (f : X → Bool) (x : X) (xs : List X) (b : Bool) → f x ≡ b
    → (list_any f xs ≡ true → (y : X) × Contains xs y × (f y ≡ true)) → (b || list_any f xs) ≡ true → (y : X) × Contains (x ∷ xs) y ×
    (f y ≡ true)
witness_at f x xs true h rest e = (x, first_of x xs, h)
witness_at f x xs false h rest e = let w = rest e in (w.0, later_of x w.0 xs w.1, w.2)

pub witness : {X : Type 0} (f : X → Bool) (xs : List X) → list_any f xs ≡ true → (x : X) × Contains xs x × (f x ≡ true)
witness f [] e = absurd (false_is_not e)
  where
    false_is_not : false ≡ true → ⊥
    false_is_not h = cc
witness f (x ∷ xs) e = witness_at f x xs (f x) refl (witness f xs) e

-- an item that passes
pub present : {X : Type 0} (f : X → Bool) (xs : List X) (x : X) → Contains xs x → f x ≡ true → list_any f xs ≡ true
present f [] x (k, lt, is) e = absurd (omega arith)
present f (y ∷ xs) x (zero, lt, is) e = ap (λ b. b || list_any f xs) (ap f is ∙ e)
present f (y ∷ xs) x (suc k, lt, is) e = or_true (f y) (list_any f xs) (present f xs x (k, omega arith, is) e)
  where
    or_true : (b c : Bool) → c ≡ true → (b || c) ≡ true
    or_true true c h = refl
    or_true false c h = h

-- no item passes
pub none_of : {X : Type 0} (f : X → Bool) (xs : List X) (x : X) → list_any f xs ≡ false → Contains xs x → f x ≡ true → ⊥
none_of f xs x e h p = let t : list_any f xs ≡ true = present f xs x h p in cc

pub is_none_of : {X : Type 0} (o : Option X) → not (is_some o) ≡ true → o ≡ None
is_none_of None e = refl
is_none_of (Some x) e = cc

pub none_is : {X : Type 0} (o : Option X) → o ≡ None → not (is_some o) ≡ true
none_is None e = refl
none_is (Some x) e = cc

pub nil_of : {X : Type 0} (xs : List X) → (length xs == 0) ≡ true → xs ≡ []
nil_of {X} xs e = go xs ((unsigned_Decides (length xs) 0).0 e)
  where
    go : (ys : List X) → length ys ≡ 0 → ys ≡ []
    go [] h = refl
    go (y ∷ ys) h = absurd (omega arith)

pub nil_is : {X : Type 0} (xs : List X) → xs ≡ [] → (length xs == 0) ≡ true
nil_is {X} xs e = ap (λ (ys : List X). length ys == 0) e

pub and_left : (a b : Bool) → (a && b) ≡ true → a ≡ true
and_left true b e = refl
and_left false b e = e

pub and_right : (a b : Bool) → (a && b) ≡ true → b ≡ true
and_right true b e = e
and_right false b e = cc

pub and_both : (a b : Bool) → a ≡ true → b ≡ true → (a && b) ≡ true
and_both true b h g = g
and_both false b h g = h

pub any_alike : {X : Type 0} (f g : X → Bool) (xs : List X) → ((x : X) → f x ≡ g x) → list_any f xs ≡ list_any g xs
any_alike f g [] h = refl
any_alike f g (x ∷ xs) h = ap (λ b. b || list_any f xs) (h x) ∙ ap (λ b. g x || b) (any_alike f g xs h)

any_value : {K X : Type 0} (f : X → Bool) (es : List (K × X)) → list_any f (values_of es) ≡ list_any (λ e. f e.1) es
any_value f [] = refl
any_value f (e ∷ es) = ap (λ b. f e.1 || b) (any_value f es)

pub any_inside : {X Y : Type 0} (f : Y → Bool) (g : X → List Y) (xs : List X) → list_any f (flat_map g xs) ≡ list_any (λ x. list_any f (g x)) xs
any_inside f g [] = refl
any_inside f g (x ∷ xs) = list_any-append f (g x) (flat_map g xs) ∙ ap (λ b. list_any f (g x) || b) (any_inside f g xs)

-- a loop that found an item
pub found_at : {X : Type 0} (f : X → Bool) (xs : List X) (i : ℕ) (x : X) → i < length xs → x ≡ get_or xs i x → f x ≡ true →
    true ≡ list_any f xs
found_at f xs i x lt is e = sym (present f xs x (i, lt, sym is) e)

pub found_value_at : {K X : Type 0} (f : X → Bool) (es : List (K × X)) (i : ℕ) (e : K × X) → i < length es → e ≡ get_or es i e
    → f e.1 ≡ true → true ≡ list_any f (values_of es)
found_value_at f es i e lt is h = found_at (λ e. f e.1) es i e lt is h ∙ sym (any_value f es)

pub found_inside_at : {X Y : Type 0} (f : Y → Bool) (g : X → List Y) (xs : List X) (i : ℕ) (x : X) → i < length xs → x ≡ get_or xs i x
    → list_any f (g x) ≡ true → true ≡ list_any f (flat_map g xs)
found_inside_at f g xs i x lt is h = found_at (λ x. list_any f (g x)) xs i x lt is h ∙ sym (any_inside f g xs)
