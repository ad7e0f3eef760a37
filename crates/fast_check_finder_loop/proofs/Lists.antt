-- Lists: tests that some element passes, and one element more.
use Rattle.std.proofs.Common.{◌≡◌, ap, refl, ℕ, zero, suc, Bool, true, List, [], ◌∷◌, ◌++◌, Option, Some, None, inl, inr, ⊎_elim}
use Rattle.std.proofs.Common.{option_map, arith, length-append}
use Rattle.std.specs.Prelude.{slice_get}
use Rattle.std.specs.Map.{values_of}
use Rattle.std.specs.List.{list_any, Contains}
use Rattle.std.proofs.lemmas.List.Elements.{Contains-push_cases, Contains-push, Contains-append_left, Contains-append_right, Contains-append_cases}
use Rattle.std.proofs.lemmas.Option.{none-some}
use Rattle.fast_check_finder_demands.proofs.Elements.{in_any}
use Rattle.fast_check_finder_loop.specs.Search.{IsPut}
use Rattle.fast_check_finder_demands.proofs.asked.Maps.{some_is}
use Rattle.fast_check_tables_symbols.proofs.Witness.{witness as any_some}

pub any_more : {X : Type 0} (f : X → Bool) (xs ys : List X) → ((x : X) → Contains xs x → Contains ys x) → list_any f xs ≡ true →
    list_any f ys ≡ true
any_more f xs ys g h = let s = any_some f xs h in in_any f ys s.0 (g s.0 s.1) s.2

pub put_last : {X : Type 0} (x : X) (xs : List X) → IsPut x xs (xs ++ x ∷ [])
put_last x xs = record {
  sound = Contains-push_cases xs x;
  kept = Contains-append_left xs (x ∷ []);
  here = Contains-push xs x;
  count = length-append xs (x ∷ []);
}

pub put_left : {X : Type 0} (x : X) (xs ys zs : List X) → IsPut x xs ys → IsPut x (xs ++ zs) (ys ++ zs)
put_left {X} x xs ys zs p = record {
  sound = λ y t.
      ⊎_elim
      (λ l. ⊎_elim (λ o. inl (Contains-append_left xs zs y o)) (λ n. inr n) (p.sound y l))
      (λ r. inl (Contains-append_right xs zs y r))
      (Contains-append_cases ys zs y t);
  kept = λ y t. ⊎_elim (λ l. Contains-append_left ys zs y (p.kept y l)) (λ r. Contains-append_right ys zs y r) (Contains-append_cases xs zs y t);
  here = Contains-append_left ys zs x p.here;
  count = omega (arith, length-append xs zs, length-append ys zs, p.count);
}

pub put_right : {X : Type 0} (x : X) (xs ys zs : List X) → IsPut x xs ys → IsPut x (zs ++ xs) (zs ++ ys)
put_right {X} x xs ys zs p = record {
  sound = λ y t.
      ⊎_elim
      (λ l. inl (Contains-append_left zs xs y l))
      (λ r. ⊎_elim (λ o. inl (Contains-append_right zs xs y o)) (λ n. inr n) (p.sound y r))
      (Contains-append_cases zs ys y t);
  kept = λ y t. ⊎_elim (λ l. Contains-append_left zs ys y l) (λ r. Contains-append_right zs ys y (p.kept y r)) (Contains-append_cases zs xs y t);
  here = Contains-append_right zs ys x p.here;
  count = omega (arith, length-append zs xs, length-append zs ys, p.count);
}

pub get_value : {K X : Type 0} (es : List (K × X)) (i : ℕ) (e : K × X) → slice_get es i ≡ Some e → slice_get (values_of es) i ≡ Some e.1
get_value [] i e h = absurd (none-some e h)
get_value (x ∷ xs) zero e h = ap (λ y. Some y.1) (some_is x e h)
get_value (x ∷ xs) (suc i) e h = get_value xs i e h

pub mapped_some : {X Y : Type 0} (f : X → Y) (o : Option X) (y : Y) → option_map f o ≡ Some y → (x : X) × (o ≡ Some x) × (f x ≡ y)
mapped_some f None y e = absurd (none-some y e)
mapped_some f (Some x) y e = (x, refl, some_is (f x) y e)
