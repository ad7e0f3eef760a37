-- Keys in their order: one that stands among them changes nothing when it is put again, whatever was put in between.
use Rattle.std.proofs.Common.{◌≡◌, ◌∙◌, ap, refl, List, [], ◌∷◌, length, arith}
use Rattle.std.specs.declared.cmp.Ordering.{Ordering}
use Rattle.std.specs.declared.cmp.Ordering.TheVariants.{Less, Equal, Greater}
use Rattle.std.specs.BTreeSet.{insert_key}
use Rattle.std.specs.Cmp.{IsTotalOrder, tied_itself}
use Rattle.std.specs.Ordering.{match_ordering, ordering_reverse}

abbrev rest_of : {X : Type 0} → List X → List X
rest_of [] = []
rest_of (x ∷ xs) = xs

module _ {K : Type 0} (cmp : K → K → Ordering) (total : IsTotalOrder cmp) where
  pub put_twice : (ks : List K) (k : K) → insert_key cmp (insert_key cmp ks k) k ≡ insert_key cmp ks k
  put_twice [] k = ap (λ r. match_ordering r (k ∷ k ∷ []) (k ∷ []) (k ∷ k ∷ [])) (tied_itself total k)
  put_twice (x ∷ xs) k = go (cmp k x) refl (put_twice xs k)
    where
      go : (r : Ordering) → cmp k x ≡ r → insert_key cmp (insert_key cmp xs k) k ≡ insert_key cmp xs k →
          insert_key cmp (match_ordering r (k ∷ x ∷ xs) (x ∷ xs) (x ∷ insert_key cmp xs k)) k
          ≡ match_ordering r (k ∷ x ∷ xs) (x ∷ xs) (x ∷ insert_key cmp xs k)
      go Less e h = ap (λ r. match_ordering r (k ∷ k ∷ x ∷ xs) (k ∷ x ∷ xs) (k ∷ insert_key cmp (x ∷ xs) k)) (tied_itself total k)
      go Equal e h = ap (λ r. match_ordering r (k ∷ x ∷ xs) (x ∷ xs) (x ∷ insert_key cmp xs k)) e
      go Greater e h =
          ap (λ r. match_ordering r (k ∷ x ∷ insert_key cmp xs k) (x ∷ insert_key cmp xs k) (x ∷ insert_key cmp (insert_key cmp xs k) k)) e
          ∙ ap (λ ks. x ∷ ks) h

  -- what is above one that is not below x is below k, where x is not above k
  above : (k x other : K) → cmp other x ≡ Less → cmp k x ≡ Greater → cmp k other ≡ Greater
  above k x other l m =
      total.antisymm k other ∙ ap ordering_reverse (total.trans other x k l (total.antisymm x k ∙ ap ordering_reverse m))

  level : (k x other : K) → cmp other x ≡ Less → cmp k x ≡ Equal → cmp k other ≡ Greater
  level k x other l m = total.congr k x other m ∙ (total.antisymm x other ∙ ap ordering_reverse l)

  pub put_stays : (ks : List K) (k other : K) → insert_key cmp ks k ≡ ks →
      insert_key cmp (insert_key cmp ks other) k ≡ insert_key cmp ks other
  put_stays [] k other h = absurd (omega (arith, ap length h))
  put_stays (x ∷ xs) k other h = go (cmp other x) (cmp k x) refl refl h (put_stays xs k other)
    where
      past : cmp k other ≡ Greater → insert_key cmp (x ∷ xs) k ≡ x ∷ xs → insert_key cmp (other ∷ x ∷ xs) k ≡ other ∷ x ∷ xs
      past e same =
          ap (λ r. match_ordering r (k ∷ other ∷ x ∷ xs) (other ∷ x ∷ xs) (other ∷ insert_key cmp (x ∷ xs) k)) e ∙ ap (λ ks. other ∷ ks) same

      go : (r s : Ordering) → cmp other x ≡ r → cmp k x ≡ s → match_ordering s (k ∷ x ∷ xs) (x ∷ xs) (x ∷ insert_key cmp xs k) ≡ x ∷ xs →
          (insert_key cmp xs k ≡ xs → insert_key cmp (insert_key cmp xs other) k ≡ insert_key cmp xs other) →
          insert_key cmp (match_ordering r (other ∷ x ∷ xs) (x ∷ xs) (x ∷ insert_key cmp xs other)) k
          ≡ match_ordering r (other ∷ x ∷ xs) (x ∷ xs) (x ∷ insert_key cmp xs other)
      go r Less e f same rest = absurd (omega (arith, ap length same))
      go Less Equal e f same rest = past (level k x other e f) h
      go Less Greater e f same rest = past (above k x other e f) h
      go Equal s e f same rest = h
      go Greater Equal e f same rest =
          ap (λ r. match_ordering r (k ∷ x ∷ insert_key cmp xs other) (x ∷ insert_key cmp xs other)
          (x ∷ insert_key cmp (insert_key cmp xs other) k)) f
      go Greater Greater e f same rest =
          ap (λ r. match_ordering r (k ∷ x ∷ insert_key cmp xs other) (x ∷ insert_key cmp xs other)
          (x ∷ insert_key cmp (insert_key cmp xs other) k)) f
          ∙ ap (λ ks. x ∷ ks) (rest (ap rest_of same))
