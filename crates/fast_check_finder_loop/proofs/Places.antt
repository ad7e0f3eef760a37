-- Packages and texts that are the same; and the modules of a finder, each at its place.
use Rattle.std.proofs.Common.{◌≡◌, ◌∙◌, sym, ap, refl, subst, ℕ, zero, suc, Bool, true, ◌||◌, List, [], ◌∷◌, Some}
use Rattle.std.proofs.Common.{slice_get, ⊎_elim, inl, inr, ◌⊎◌}
use Rattle.std.proofs.Math.Path.{fun_ext}
use Rattle.std.specs.List.{list_any, Contains, IsDistinct}
use Rattle.std.specs.Map.{lookup, keys_of}
use Rattle.std.specs.Cmp.{IsEquivalence}
use Rattle.std.specs.FinMap.{nat_cmp-IsAntisymmetric, slice_cmp-IsAntisymmetric}
use Rattle.std.specs.Ordering.{nat_cmp, ordering_then, is_eq}
use Rattle.std.specs.Cmp.Lexicographic.{slice_cmp}
use Rattle.std.specs.declared.cmp.Ordering.{Ordering}
use Rattle.std.specs.declared.cmp.Ordering.TheVariants.{Less, Equal, Greater}
use Rattle.std.proofs.lemmas.Bool.{false≢true, or_left, or_right, or_cases}
use Rattle.std.proofs.lemmas.Map.Entries.{lookup_from_place}
use Rattle.std.proofs.lemmas.Map.Views.{lookup-from_Contains}
use Rattle.std.proofs.lemmas.Option.{none-some}
use Rattle.semver.specs.Order.{pre_cmp, build_cmp}
use Rattle.semver.specs.OrderLaws.{pre-anti, build-anti}
use Rattle.indexmap.specs.IndexMap.{set_value_at}
use Rattle.fast_check_tables_packages.specs.Package.{Nv, VersionParts, version_cmp, nv_cmp}
use Rattle.fast_check_finder_demands.specs.asked.Demands.{same_nv}
use Rattle.fast_check_finder_demands.proofs.asked.Maps.{some_is}

-- packages that are the same are one

pub then_both : (r s : Ordering) → ordering_then r s ≡ Equal → (r ≡ Equal) × (s ≡ Equal)
then_both Less s e = absurd (no e)
  where
    no : Less ≡ Equal → ⊥
    no e = cc
then_both Equal s e = (refl, e)
then_both Greater s e = absurd (no e)
  where
    no : Greater ≡ Equal → ⊥
    no e = cc

ties : (o : Ordering) → is_eq o ≡ true → o ≡ Equal
ties Less h = absurd (false≢true h)
ties Equal h = refl
ties Greater h = absurd (false≢true h)

same_version : (a b : VersionParts) → version_cmp a b ≡ Equal → a ≡ b
same_version a b e =
    let x = then_both (nat_cmp a.0 b.0) _ e in
    let y = then_both (nat_cmp a.1 b.1) _ x.1 in
    let z = then_both (nat_cmp a.2 b.2) _ y.1 in
    let w = then_both (pre_cmp a.3 b.3) (build_cmp a.4 b.4) z.1 in
    joined a.0 b.0 a.1 b.1 a.2 b.2 a.3 b.3 a.4 b.4 (nat_cmp-IsAntisymmetric a.0 b.0 x.0) (nat_cmp-IsAntisymmetric a.1 b.1 y.0)
    (nat_cmp-IsAntisymmetric a.2 b.2 z.0)
    (pre-anti a.3 b.3 w.0) (build-anti a.4 b.4 w.1)
  where
    made : ℕ → ℕ → ℕ → List ℕ → List ℕ → VersionParts
    made x y z v w = (x, y, z, v, w)

    joined : (a b c d e f : ℕ) (p q s t : List ℕ) → a ≡ b → c ≡ d → e ≡ f → p ≡ q → s ≡ t → made a c e p s ≡ made b d f q t
    joined a b c d e f p q s t h i j k l = cc

pub nv_is : (a b : Nv) → same_nv a b ≡ true → a ≡ b
nv_is a b h =
    let x = then_both (slice_cmp nat_cmp a.0 b.0) (version_cmp a.1 b.1) (ties (nv_cmp a b) h) in
    joined a.0 b.0 a.1 b.1 (slice_cmp-IsAntisymmetric nat_cmp-IsAntisymmetric a.0 b.0 x.0) (same_version a.1 b.1 x.1)
  where
    made : List ℕ → VersionParts → Nv
    made n v = (n, v)

    joined : (m n : List ℕ) (v w : VersionParts) → m ≡ n → v ≡ w → made m v ≡ made n w
    joined m n v w e f = cc

-- a value at a place of a map is another one

module _ {K X : Type 0} where
  pub get_set : (es : List (K × X)) (i : ℕ) (e : K × X) (w : X) → slice_get es i ≡ Some e → slice_get (set_value_at es i w) i ≡ Some (e.0, w)
  get_set [] i e w h = absurd (none-some e h)
  get_set (x ∷ xs) zero e w h = ap (λ (y : K × X). Some (y.0, w)) (some_is x e h)
  get_set (x ∷ xs) (suc i) e w h = get_set xs i e w h

  -- its own
  pub set_itself : (es : List (K × X)) (i : ℕ) (e : K × X) → slice_get es i ≡ Some e → set_value_at es i e.1 ≡ es
  set_itself [] i e h = refl
  set_itself (x ∷ xs) zero e h = ap (λ (y : K × X). (x.0, y.1) ∷ xs) (sym (some_is x e h))
  set_itself (x ∷ xs) (suc i) e h = ap (λ (ys : List (K × X)). x ∷ ys) (set_itself xs i e h)

  pub set_twice : (es : List (K × X)) (i : ℕ) (v w : X) → set_value_at (set_value_at es i v) i w ≡ set_value_at es i w
  set_twice [] i v w = refl
  set_twice (x ∷ xs) zero v w = refl
  set_twice (x ∷ xs) (suc i) v w = ap (λ (ys : List (K × X)). x ∷ ys) (set_twice xs i v w)

  pub keys_set : (es : List (K × X)) (i : ℕ) (w : X) → keys_of (set_value_at es i w) ≡ keys_of es
  keys_set [] i w = refl
  keys_set (x ∷ xs) zero w = refl
  keys_set (x ∷ xs) (suc i) w = ap (λ (ks : List K). x.0 ∷ ks) (keys_set xs i w)

  -- what some entry passes, where the value at a place is another one

  pub any_set : (f : K × X → Bool) (es : List (K × X)) (i : ℕ) (e : K × X) (w : X) → slice_get es i ≡ Some e → f (e.0, w) ≡ true →
      list_any f (set_value_at es i w) ≡ true
  any_set f [] i e w h t = absurd (none-some e h)
  any_set f (x ∷ xs) zero e w h t =
      or_left (f (x.0, w)) (list_any f xs) (subst (λ (y : K × X). f (y.0, w) ≡ true) (sym (some_is x e h)) t)
  any_set f (x ∷ xs) (suc i) e w h t = or_right (f x) (list_any f (set_value_at xs i w)) (any_set f xs i e w h t)

  pub any_of_set : (f : K × X → Bool) (es : List (K × X)) (i : ℕ) (e : K × X) (w v : X) → slice_get es i ≡ Some e →
      list_any f (set_value_at es i w) ≡ true → (f (e.0, w) ≡ true) ⊎ (list_any f (set_value_at es i v) ≡ true)
  any_of_set f [] i e w v h t = absurd (none-some e h)
  any_of_set f (x ∷ xs) zero e w v h t = ⊎_elim
      (λ here. inl (subst (λ (y : K × X). f (y.0, w) ≡ true) (some_is x e h) here))
      (λ there. inr (or_right (f (x.0, v)) (list_any f xs) there))
      (or_cases (f (x.0, w)) (list_any f xs) t)
  any_of_set f (x ∷ xs) (suc i) e w v h t = ⊎_elim
      (λ here. inr (or_left (f x) (list_any f (set_value_at xs i v)) here))
      (λ there. ⊎_elim (λ own. inl own) (λ other. inr (or_right (f x) (list_any f (set_value_at xs i v)) other))
      (any_of_set f xs i e w v h there))
      (or_cases (f x) (list_any f (set_value_at xs i w)) t)

  pub any_set_same : (f : K × X → Bool) (es : List (K × X)) (i : ℕ) (v w : X) → ((k : K) → f (k, v) ≡ f (k, w)) →
      list_any f (set_value_at es i v) ≡ list_any f (set_value_at es i w)
  any_set_same f [] i v w h = refl
  any_set_same f (x ∷ xs) zero v w h = ap (λ (b : Bool). b || list_any f xs) (h x.0)
  any_set_same f (x ∷ xs) (suc i) v w h = ap (λ (b : Bool). f x || b) (any_set_same f xs i v w h)

  -- entries of one key are one
  pub one_entry : (eq : K → K → Bool) → IsEquivalence eq → (es : List (K × X)) → IsDistinct eq (keys_of es) → (i : ℕ) (e x : K × X) →
      slice_get es i ≡ Some e → Contains es x → eq e.0 x.0 ≡ true → e.1 ≡ x.1
  one_entry eq laws es distinct i e x h c same = some_value e.1 x.1
      (sym (lookup_from_place laws es i e.0 e.1 distinct h) ∙
      ap (λ (test : K → Bool). lookup test es) (fun_ext (λ (k : K). laws.congr e.0 x.0 k same)) ∙
      lookup-from_Contains laws x.0 x.1 es distinct c)
    where
      some_value : (v w : X) → Some v ≡ Some w → v ≡ w
      some_value v w e = cc
