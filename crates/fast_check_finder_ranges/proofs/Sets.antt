-- A set that is made of a list has what the list has.
use Rattle.std.proofs.Common.{◌≡◌, ◌∙◌, refl, sym, ap, Bool, true, false, ◌||◌, List, [], ◌∷◌, ⊎_elim}
use Rattle.std.specs.Cmp.{IsTotalOrder, eq_by_cmp_equiv, both_ways}
use Rattle.std.specs.List.{list_any}
use Rattle.std.specs.Ordering.{eq_by_cmp}
use Rattle.std.specs.declared.cmp.Ordering.{Ordering}
use Rattle.std.specs.Map.{IsKeyTest}
use Rattle.std.proofs.lemmas.Bool.{cases_Bool, false≢true, or_right}
use Rattle.fast_check_finder_ranges.proofs.findings.Lists.{any_alike}

or_split : (b c : Bool) → (b || c) ≡ true → b ≡ false → c ≡ true
or_split true c h g = absurd (false≢true (sym g))
or_split false c h g = h

module _ {K : Type 0} {cmp : K → K → Ordering} (o : IsTotalOrder cmp) (test : K → Bool) (one : IsKeyTest (eq_by_cmp cmp) test) where
  -- one that passes
  record Passes (ks : List K) : Type 0 where
    key : K
    passes : test key ≡ true
    among : list_any (eq_by_cmp cmp key) ks ≡ true

  passing : (ks : List K) → list_any test ks ≡ true → Passes ks
  passing [] h = absurd (false≢true h)
  passing (k ∷ ks) h = ⊎_elim
      (λ t. record { key = k; passes = t; among = ap (λ b. b || list_any (eq_by_cmp cmp k) ks) ((eq_by_cmp_equiv o).refl k) })
      (λ f. let r : Passes ks = passing ks (or_split (test k) (list_any test ks) h f) in record {
        key = r.key;
        passes = r.passes;
        among = or_right (eq_by_cmp cmp r.key k) (list_any (eq_by_cmp cmp r.key) ks) r.among;
      })
      (cases_Bool (test k))

  within : (ks xs : List K) → ((q : K) → list_any (eq_by_cmp cmp q) ks ≡ list_any (eq_by_cmp cmp q) xs) → list_any test ks ≡ true →
      list_any test xs ≡ true
  within ks xs h e = let r : Passes ks = passing ks e in
      any_alike test (eq_by_cmp cmp r.key) (λ x. one r.key x r.passes) xs ∙ (sym (h r.key) ∙ r.among)

  pub collected : (ks xs : List K) → ((q : K) → list_any (eq_by_cmp cmp q) ks ≡ list_any (eq_by_cmp cmp q) xs) →
      list_any test ks ≡ list_any test xs
  collected ks xs h = both_ways (list_any test ks) (list_any test xs) (within ks xs h) (within xs ks (λ q. sym (h q)))
