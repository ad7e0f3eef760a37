-- Keys that are put one by one stand in order, each once, and they are the same keys.
use Rattle.std.proofs.Common.{◌≡◌, ◌∙◌, sym, ap, refl, Bool, true, false, ◌||◌, List, [], ◌∷◌, fold, arith}
use Rattle.std.specs.Prelude.{AllPairs, IsTrue}
use Rattle.std.specs.BTreeSet.{insert_key}
use Rattle.std.specs.Cmp.{IsTotalOrder}
use Rattle.std.specs.Cmp.Lexicographic.{slice_cmp}
use Rattle.std.specs.List.{All, AllByRecursion, Contains, list_any}
use Rattle.std.specs.Ordering.{match_ordering, ordering_reverse, is_eq, nat_cmp}
use Rattle.std.specs.Str.{bytes_eq}
use Rattle.std.specs.declared.cmp.Ordering.{Ordering}
use Rattle.std.specs.declared.cmp.Ordering.TheVariants.{Less, Equal, Greater}
use Rattle.std.proofs.lemmas.Bool.{false≢true}
use Rattle.std.proofs.lemmas.List.Elements.{All-nil, All-cons, All-head, All-tail, All-contains_itself, All-from_recursion}
use Rattle.std.proofs.lemmas.List.Kept.{AllPairs-cons}
use Rattle.std.proofs.lemmas.Map.Text.{is_eq-slice_cmp}
use Rattle.std.proofs.lemmas.Map.Views.{All-insert_key}
use Rattle.std.proofs.lemmas.Slice.Eq.{bytes_eq-Decides}
use Rattle.url.specs.Parts.{Parts, serialize}
use Rattle.fast_check_finder_ranges.specs.entries.Entries.{in_order}
use Rattle.fast_check_finder_ranges.specs.entries.Ordered.{AreInOrder}
use Rattle.fast_check_finder_ranges.proofs.Maps.{text_total}

either : (a b : Bool) → b ≡ true → (a || b) ≡ true
either true b h = refl
either false b h = h

more : (a b d : Bool) → (a || b) ≡ true → (b ≡ true → d ≡ true) → (a || d) ≡ true
more true b d h f = refl
more false b d h f = f h

module _ {K : Type 0} (cmp : K → K → Ordering) (total : IsTotalOrder cmp) where
  abbrev Rise : List K → Type 0
  Rise [] = Unit {0}
  Rise (x ∷ xs) = AllByRecursion (λ y. cmp x y ≡ Less) xs × Rise xs

  below_all : (k x : K) (xs : List K) → cmp k x ≡ Less → AllByRecursion (λ y. cmp x y ≡ Less) xs →
      AllByRecursion (λ y. cmp k y ≡ Less) xs
  below_all k x [] e a = tt
  below_all k x (y ∷ ys) e a = (total.trans k x y e a.0, below_all k x ys e a.1)

  of_put : (P : K → Type 0) (ks : List K) (k : K) → AllByRecursion P ks → P k → AllByRecursion P (insert_key cmp ks k)
  of_put P [] k a p = (p, tt)
  of_put P (x ∷ xs) k a p = go (cmp k x) (of_put P xs k a.1 p)
    where
      go : (r : Ordering) → AllByRecursion P (insert_key cmp xs k) →
          AllByRecursion P (match_ordering r (k ∷ x ∷ xs) (x ∷ xs) (x ∷ insert_key cmp xs k))
      go Less h = (p, a)
      go Equal h = a
      go Greater h = (a.0, h)

  rise_put : (ks : List K) (k : K) → Rise ks → Rise (insert_key cmp ks k)
  rise_put [] k r = (tt, tt)
  rise_put (x ∷ xs) k r = go (cmp k x) refl (rise_put xs k r.1)
    where
      go : (o : Ordering) → cmp k x ≡ o → Rise (insert_key cmp xs k) →
          Rise (match_ordering o (k ∷ x ∷ xs) (x ∷ xs) (x ∷ insert_key cmp xs k))
      go Less e h = ((e, below_all k x xs e r.0), r)
      go Equal e h = r
      go Greater e h = (of_put (λ y. cmp x y ≡ Less) xs k r.0 (total.antisymm x k ∙ ap ordering_reverse e), h)

  pairs : (ks : List K) → Rise ks → AllPairs (λ a b. cmp a b ≡ Less) ks
  pairs [] r = λ i j d lt within. absurd (omega (arith, within))
  pairs (x ∷ xs) r = AllPairs-cons (λ a b. cmp a b ≡ Less) x xs (All-from_recursion (λ y. cmp x y ≡ Less) xs r.0) (pairs xs r.1)

  -- a test that a key passes, or one that is put

  stays : (p : K → Bool) (ks : List K) (k : K) → list_any p ks ≡ true → list_any p (insert_key cmp ks k) ≡ true
  stays p [] k h = absurd (false≢true h)
  stays p (x ∷ xs) k h = go (cmp k x) (stays p xs k)
    where
      go : (r : Ordering) → (list_any p xs ≡ true → list_any p (insert_key cmp xs k) ≡ true) →
          list_any p (match_ordering r (k ∷ x ∷ xs) (x ∷ xs) (x ∷ insert_key cmp xs k)) ≡ true
      go Less rest = either (p k) (list_any p (x ∷ xs)) h
      go Equal rest = h
      go Greater rest = more (p x) (list_any p xs) (list_any p (insert_key cmp xs k)) h rest

  there : (p : K → Bool) (ks : List K) (k : K) → p k ≡ true → ((x : K) → cmp k x ≡ Equal → p x ≡ true) →
      list_any p (insert_key cmp ks k) ≡ true
  there p [] k h same = ap (λ b. b || false) h
  there p (x ∷ xs) k h same = go (cmp k x) refl (there p xs k h same)
    where
      go : (r : Ordering) → cmp k x ≡ r → list_any p (insert_key cmp xs k) ≡ true →
          list_any p (match_ordering r (k ∷ x ∷ xs) (x ∷ xs) (x ∷ insert_key cmp xs k)) ≡ true
      go Less e rest = ap (λ b. b || list_any p (x ∷ xs)) h
      go Equal e rest = ap (λ b. b || list_any p xs) (same x e)
      go Greater e rest = either (p x) (list_any p (insert_key cmp xs k)) rest

  -- all that are put

  abbrev all_put : List K → List K → List K
  all_put ks more = fold (insert_key cmp) ks more

  rise_all : (more ks : List K) → Rise ks → Rise (all_put ks more)
  rise_all [] ks r = r
  rise_all (k ∷ more) ks r = rise_all more (insert_key cmp ks k) (rise_put ks k r)

  only_all : (P : K → Type 0) (more ks : List K) → All P ks → All P more → All P (all_put ks more)
  only_all P [] ks a b = a
  only_all P (k ∷ more) ks a b = only_all P more (insert_key cmp ks k) (All-insert_key cmp k P ks a (All-head P k more b)) (All-tail P k more b)

  stays_all : (p : K → Bool) (more ks : List K) → list_any p ks ≡ true → list_any p (all_put ks more) ≡ true
  stays_all p [] ks h = h
  stays_all p (k ∷ more) ks h = stays_all p more (insert_key cmp ks k) (stays p ks k h)

  there_all : (test : K → K → Bool) → ((k : K) → test k k ≡ true) → ((k x : K) → cmp k x ≡ Equal → test k x ≡ true) → (more ks : List K) →
      All (λ k. IsTrue (list_any (test k) (all_put ks more))) more
  there_all test self same [] ks = All-nil (λ k. IsTrue (list_any (test k) (all_put ks [])))
  there_all test self same (k ∷ more) ks =
      let next = insert_key cmp ks k in
      All-cons (λ q. IsTrue (list_any (test q) (all_put next more))) k more
      (stays_all (test k) more next (there (test k) ks k (self k) (same k)))
      (there_all test self same more next)

pub are_in_order : (urls : List Parts) → AreInOrder urls (in_order urls)
are_in_order urls =
    let cmp : Parts → Parts → Ordering = λ a b. slice_cmp nat_cmp (serialize a) (serialize b) in
    record {
      rise = pairs cmp text_total (in_order urls) (rise_all cmp text_total urls [] tt);
      only = only_all cmp text_total (λ u. Contains urls u) urls [] (All-nil (λ u. Contains urls u)) (All-contains_itself urls);
      all = there_all cmp text_total (λ a b. bytes_eq (serialize a) (serialize b))
          (λ a. (bytes_eq-Decides (serialize a) (serialize a)).1 refl)
          (λ a b e. sym (is_eq-slice_cmp (serialize a) (serialize b)) ∙ ap is_eq e) urls [];
    }
