-- A loop over a table that looks for the first row that passes a test: what it finds is the first among all rows.
use Rattle.std.proofs.Common.{◌≡◌, ℕ, ◌+◌, ◌<◌, ◌≤◌, List, [], ◌∷◌, Bool, true, false, get_or, length, drop, map, sym, ap, ◌∙◌, add-one}
use Rattle.std.specs.Prelude.{Some, None, if◌then◌else◌, ◌||◌}
use Rattle.std.specs.List.{find, list_any}
use Rattle.std.proofs.Math.Seq.{drop-cons}
use Rattle.std.proofs.Math.ListN.{drop_of_length-le}

module _ {A B : Type 0} (p : B → Bool) (row : A → B) (xs : List A) (i : ℕ) where
  from_here : (other : A) → i < length xs → map row (drop i xs) ≡ row (get_or xs i other) ∷ map row (drop (i + 1) xs)
  from_here other within = ap (map row) (drop-cons xs i other within) ∙
      ap (λ n. row (get_or xs i other) ∷ map row (drop n xs)) (sym (add-one i))

  at_end : length xs ≤ i → map row (drop i xs) ≡ []
  at_end past = ap (map row) (drop_of_length-le xs past)

  -- the row here is the first to pass
  pub found : (other : A) → find p (map row xs) ≡ find p (map row (drop i xs)) → i < length xs → p (row (get_or xs i other)) ≡ true
      → find p (map row xs) ≡ Some (row (get_or xs i other))
  found other so_far within passes =
      so_far ∙ ap (find p) (from_here other within) ∙
      ap (λ t. if t then Some (row (get_or xs i other)) else find p (map row (drop (i + 1) xs))) passes

  pub passed_over : (other : A) → find p (map row xs) ≡ find p (map row (drop i xs)) → i < length xs → p (row (get_or xs i other)) ≡ false
      → find p (map row xs) ≡ find p (map row (drop (i + 1) xs))
  passed_over other so_far within fails =
      so_far ∙ ap (find p) (from_here other within) ∙
      ap (λ t. if t then Some (row (get_or xs i other)) else find p (map row (drop (i + 1) xs))) fails

  pub none_left : find p (map row xs) ≡ find p (map row (drop i xs)) → length xs ≤ i → find p (map row xs) ≡ None
  none_left so_far past = so_far ∙ ap (find p) (at_end past)

  -- the same of whether a row passes at all
  pub some_passes : (other : A) → list_any p (map row xs) ≡ list_any p (map row (drop i xs)) → i < length xs →
      p (row (get_or xs i other)) ≡ true
      → list_any p (map row xs) ≡ true
  some_passes other so_far within passes =
      so_far ∙ ap (list_any p) (from_here other within) ∙ ap (λ t. t || list_any p (map row (drop (i + 1) xs))) passes

  pub fails_here : (other : A) → list_any p (map row xs) ≡ list_any p (map row (drop i xs)) → i < length xs →
      p (row (get_or xs i other)) ≡ false
      → list_any p (map row xs) ≡ list_any p (map row (drop (i + 1) xs))
  fails_here other so_far within fails =
      so_far ∙ ap (list_any p) (from_here other within) ∙ ap (λ t. t || list_any p (map row (drop (i + 1) xs))) fails

  pub none_passes : list_any p (map row xs) ≡ list_any p (map row (drop i xs)) → length xs ≤ i → list_any p (map row xs) ≡ false
  none_passes so_far past = so_far ∙ ap (list_any p) (at_end past)
