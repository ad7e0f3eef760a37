-- Places that are put one by one stand in the order of their names.
use Rattle.std.proofs.Common.{◌≡◌, ◌∙◌, sym, ap, refl, ⊎_elim, ℕ, zero, suc, ◌<◌, ◌≤◌, Bool, true, false, ◌||◌, List, [], ◌∷◌, length, arith}
use Rattle.std.specs.Prelude.{AllPairs, IsTrue}
use Rattle.std.specs.Cmp.{IsTotalOrder, on_total}
use Rattle.std.specs.Cmp.Lexicographic.{slice_cmp, nat_list_cmp_total, same_text}
use Rattle.std.specs.List.{AllByRecursion, list_any}
use Rattle.std.specs.Ordering.{match_ordering, ordering_reverse, is_eq, nat_cmp}
use Rattle.std.specs.Str.{bytes_eq}
use Rattle.std.specs.declared.cmp.Ordering.{Ordering}
use Rattle.std.specs.declared.cmp.Ordering.TheVariants.{Less, Equal, Greater}
use Rattle.std.proofs.lemmas.Bool.{false≢true, cases_lt}
use Rattle.std.proofs.lemmas.List.Elements.{All-from_recursion}
use Rattle.std.proofs.lemmas.List.Kept.{AllPairs-cons}
use Rattle.std.proofs.lemmas.Map.Text.{is_eq-slice_cmp}
use Rattle.std.proofs.lemmas.Slice.Eq.{bytes_eq-Decides}
use Rattle.fast_check_tree_syntax.specs.declared.kind.Kind.{Kind}
use Rattle.fast_check_read.specs.schema.Rows.{FieldRow}
use Rattle.fast_check_read.specs.schema.Schema.{fields_of}
use Rattle.fast_check_read.specs.schema.Order.{name_at, insert_place, places_by_name}
use Rattle.fast_check_json.specs.Order.{AreInOrder}

either : (a b : Bool) → b ≡ true → (a || b) ≡ true
either true b h = refl
either false b h = h

more : (a b d : Bool) → (a || b) ≡ true → (b ≡ true → d ≡ true) → (a || d) ≡ true
more true b d h f = refl
more false b d h f = f h

module _ (fields : List FieldRow) where
  abbrev by_name : ℕ → ℕ → Ordering
  by_name a b = slice_cmp nat_cmp (name_at fields a) (name_at fields b)

  total : IsTotalOrder by_name
  total = on_total (name_at fields) nat_list_cmp_total

  abbrev Rise : List ℕ → Type 0
  Rise [] = Unit {0}
  Rise (x ∷ xs) = AllByRecursion (λ y. by_name x y ≡ Less) xs × Rise xs

  below_all : (k x : ℕ) (xs : List ℕ) → by_name k x ≡ Less → AllByRecursion (λ y. by_name x y ≡ Less) xs →
      AllByRecursion (λ y. by_name k y ≡ Less) xs
  below_all k x [] e a = tt
  below_all k x (y ∷ ys) e a = (total.trans k x y e a.0, below_all k x ys e a.1)

  level_all : (k x : ℕ) (xs : List ℕ) → by_name k x ≡ Equal → AllByRecursion (λ y. by_name x y ≡ Less) xs →
      AllByRecursion (λ y. by_name k y ≡ Less) xs
  level_all k x [] e a = tt
  level_all k x (y ∷ ys) e a = (total.congr k x y e ∙ a.0, level_all k x ys e a.1)

  of_put : (P : ℕ → Type 0) (ps : List ℕ) (k : ℕ) → AllByRecursion P ps → P k → AllByRecursion P (insert_place fields k ps)
  of_put P [] k a p = (p, tt)
  of_put P (x ∷ xs) k a p = go (by_name k x) (of_put P xs k a.1 p)
    where
      go : (r : Ordering) → AllByRecursion P (insert_place fields k xs) →
          AllByRecursion P (match_ordering r (k ∷ x ∷ xs) (k ∷ xs) (x ∷ insert_place fields k xs))
      go Less h = (p, a)
      go Equal h = (p, a.1)
      go Greater h = (a.0, h)

  rise_put : (ps : List ℕ) (k : ℕ) → Rise ps → Rise (insert_place fields k ps)
  rise_put [] k r = (tt, tt)
  rise_put (x ∷ xs) k r = go (by_name k x) refl (rise_put xs k r.1)
    where
      go : (o : Ordering) → by_name k x ≡ o → Rise (insert_place fields k xs) →
          Rise (match_ordering o (k ∷ x ∷ xs) (k ∷ xs) (x ∷ insert_place fields k xs))
      go Less e h = ((e, below_all k x xs e r.0), r)
      go Equal e h = (level_all k x xs e r.0, r.1)
      go Greater e h = (of_put (λ y. by_name x y ≡ Less) xs k r.0 (total.antisymm x k ∙ ap ordering_reverse e), h)

  pairs : (ps : List ℕ) → Rise ps → AllPairs (λ a b. by_name a b ≡ Less) ps
  pairs [] r = λ i j d lt within. absurd (omega (arith, within))
  pairs (x ∷ xs) r = AllPairs-cons (λ a b. by_name a b ≡ Less) x xs (All-from_recursion (λ y. by_name x y ≡ Less) xs r.0) (pairs xs r.1)

  -- a place with a name

  abbrev has_name : List ℕ → ℕ → Bool
  has_name name place = bytes_eq name (name_at fields place)

  same_names : (k x : ℕ) → by_name k x ≡ Equal → name_at fields x ≡ name_at fields k
  same_names k x e = sym (same_text (name_at fields k) (name_at fields x)
      (sym (sym (is_eq-slice_cmp (name_at fields k) (name_at fields x)) ∙ ap is_eq e)))

  stays : (name : List ℕ) (ps : List ℕ) (k : ℕ) → list_any (has_name name) ps ≡ true → list_any (has_name name) (insert_place fields k ps) ≡ true
  stays name [] k h = absurd (false≢true h)
  stays name (x ∷ xs) k h = go (by_name k x) refl (stays name xs k)
    where
      go : (r : Ordering) → by_name k x ≡ r →
          (list_any (has_name name) xs ≡ true → list_any (has_name name) (insert_place fields k xs) ≡ true) →
          list_any (has_name name) (match_ordering r (k ∷ x ∷ xs) (k ∷ xs) (x ∷ insert_place fields k xs)) ≡ true
      go Less e rest = either (has_name name k) (list_any (has_name name) (x ∷ xs)) h
      go Equal e rest = ap (λ n. bytes_eq name n || list_any (has_name name) xs) (sym (same_names k x e)) ∙ h
      go Greater e rest = more (has_name name x) (list_any (has_name name) xs) (list_any (has_name name) (insert_place fields k xs)) h rest

  there : (name : List ℕ) (ps : List ℕ) (k : ℕ) → has_name name k ≡ true → list_any (has_name name) (insert_place fields k ps) ≡ true
  there name [] k h = ap (λ b. b || false) h
  there name (x ∷ xs) k h = go (by_name k x) (there name xs k h)
    where
      go : (r : Ordering) → list_any (has_name name) (insert_place fields k xs) ≡ true →
          list_any (has_name name) (match_ordering r (k ∷ x ∷ xs) (k ∷ xs) (x ∷ insert_place fields k xs)) ≡ true
      go Less rest = ap (λ b. b || list_any (has_name name) (x ∷ xs)) h
      go Equal rest = ap (λ b. b || list_any (has_name name) xs) h
      go Greater rest = either (has_name name x) (list_any (has_name name) (insert_place fields k xs)) rest

  -- the places of so many first fields

  rise_all : (count : ℕ) → Rise (places_by_name fields count)
  rise_all zero = tt
  rise_all (suc count) = rise_put (places_by_name fields count) count (rise_all count)

  within_all : (count : ℕ) → count ≤ length fields → AllByRecursion (λ place. place < length fields) (places_by_name fields count)
  within_all zero le = tt
  within_all (suc count) le = of_put (λ place. place < length fields) (places_by_name fields count) count
      (within_all count (omega (arith, le))) (omega (arith, le))

  there_all : (count place : ℕ) → place < count → IsTrue (list_any (has_name (name_at fields place)) (places_by_name fields count))
  there_all zero place lt = absurd (omega (arith, lt))
  there_all (suc count) place lt = ⊎_elim
      (λ early. stays (name_at fields place) (places_by_name fields count) count (there_all count place early))
      (λ last. let same : place ≡ count = omega (arith, lt, last) in
      there (name_at fields place) (places_by_name fields count) count
      ((bytes_eq-Decides (name_at fields place) (name_at fields count)).1 (ap (name_at fields) same)))
      (cases_lt place count)

  fields_in_order : AreInOrder fields (places_by_name fields (length fields))
  fields_in_order = record {
    rise = pairs (places_by_name fields (length fields)) (rise_all (length fields));
    within = All-from_recursion (λ place. place < length fields) (places_by_name fields (length fields))
        (within_all (length fields) (omega arith));
    all = λ place lt. there_all (length fields) place lt;
  }

pub in_order : (kind : Kind) → AreInOrder (fields_of kind) (places_by_name (fields_of kind) (length (fields_of kind)))
in_order kind = fields_in_order (fields_of kind)
