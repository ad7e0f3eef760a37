-- Places are told by package and text.
use Rattle.std.proofs.Common.{◌≡◌, ◌∙◌, sym, ap, refl, ℕ, suc, ◌+◌, ◌<◌, Bool, true, false, not, cond, ◌&&◌, List, [], ◌∷◌, Some, None}
use Rattle.std.proofs.Common.{slice_get, position, length, arith}
use Rattle.std.specs.Prelude.{nat_lt}
use Rattle.std.specs.List.{position_or_len}
use Rattle.std.specs.Map.{keys_of}
use Rattle.std.proofs.lemmas.Bool.{ltb-true}
use Rattle.std.specs.Str.{bytes_eq}
use Rattle.std.proofs.lemmas.Option.{none-some}
use Rattle.url.specs.Parts.{serialize}
use Rattle.fast_check_tables_packages.specs.PackageOrder.{nv_ties}
use Rattle.fast_check_finder_demands.proofs.asked.Maps.{some_is}
use Rattle.fast_check_finder_loop.specs.contracts.demand.PlacePartialEq.TheImpl as place_eq
use Rattle.fast_check_finder_loop.proofs.SymbolsAsked.{TellsPlaces}

pub tells_places : TellsPlaces place_eq.eq-value.it
tells_places a b = ap (λ (x : Bool). x && bytes_eq (serialize a.specifier.now) (serialize b.specifier.now)) (nv_ties a.package b.package)

-- the entry that a search for a key finds

onward : {X : Type 0} (xs : List X) (x : X) (n : ℕ) → slice_get (x ∷ xs) (1 + n) ≡ slice_get xs n
onward xs x n = let e : 1 + n ≡ suc n = omega arith in ap (slice_get (x ∷ xs)) e

module _ {K X : Type 0} (t : K → Bool) where
  found_at : (es : List (K × X)) (i : ℕ) → position_or_len t (keys_of es) ≡ i → i < length es → (x : K × X) × (slice_get es i ≡ Some x) × (t x.0 ≡ true)
  found_at [] i e h = absurd (omega (arith, h))
  found_at (x ∷ xs) i e h = by (t x.0) refl e (λ below. found_at xs (position_or_len t (keys_of xs)) refl below)
    where
      n : ℕ
      n = position_or_len t (keys_of xs)

      by : (b : Bool) → t x.0 ≡ b → cond (not b) (1 + n) 0 ≡ i → (n < length xs → (y : K × X) × (slice_get xs n ≡ Some y) × (t y.0 ≡ true)) →
          (y : K × X) × (slice_get (x ∷ xs) i ≡ Some y) × (t y.0 ≡ true)
      by true k is rest = (x, ap (slice_get (x ∷ xs)) (sym is), k)
      by false k is rest =
          let r = rest (omega (arith, h, is)) in
          (r.0, ap (slice_get (x ∷ xs)) (sym is) ∙ (onward xs x n ∙ r.1), r.2)

  pub found_place : (es : List (K × X)) (i : ℕ) → position t (keys_of es) ≡ Some i → (x : K × X) × (slice_get es i ≡ Some x) × (t x.0 ≡ true)
  found_place es i e = by (nat_lt n (length (keys_of es))) refl e
    where
      n : ℕ
      n = position_or_len t (keys_of es)

      keys_length : (es : List (K × X)) → length (keys_of es) ≡ length es
      keys_length [] = refl
      keys_length (x ∷ xs) = ap suc (keys_length xs)

      by : (b : Bool) → nat_lt n (length (keys_of es)) ≡ b → cond b (Some n) None ≡ Some i →
          (x : K × X) × (slice_get es i ≡ Some x) × (t x.0 ≡ true)
      by false k is = absurd (none-some i is)
      by true k is = let same : n ≡ i = some_is n i is in let l = keys_length es in let lt = ltb-true n (length (keys_of es)) k in
          found_at es i same (omega (arith, l, lt, same))
