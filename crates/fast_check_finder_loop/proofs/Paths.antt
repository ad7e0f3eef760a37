-- Paths of given names, up to a length, and those that are asked for beside a path.
use Rattle.std.proofs.Common.{◌≡◌, ◌∙◌, sym, ap, refl, subst, ℕ, zero, suc, ◌≤◌, Bool, true, ◌&&◌, not, List, [], ◌∷◌, ◌++◌, map, length}
use Rattle.std.proofs.Common.{⊎_elim, arith, length-append}
use Rattle.std.specs.List.{Contains, flat_map}
use Rattle.std.specs.Str.{bytes_eq}
use Rattle.std.proofs.lemmas.Bool.{cases_Bool, false≢true, and_parts, and_from}
use Rattle.std.proofs.lemmas.Slice.Eq.{bytes_eq-Decides}
use Rattle.fast_check_finder_lattice.specs.Names.{Name, Path, Touched, Covered, whole_below, whole_path, has_subset, has_whole}
use Rattle.fast_check_finder_lattice.specs.Imports.{NameDemand, names_but_default, each_name, subset_at, whole_at}
use Rattle.fast_check_finder_lattice.specs.declared.lattice.imported_exports.ImportedExports.TheVariants.{Star, StarWithDefault}
use Rattle.fast_check_finder_lattice.proofs.Sets.{same_whole}
use Rattle.fast_check_finder_demands.proofs.asked.Single.{whole_covered}
use Rattle.fast_check_finder_demands.specs.asked.Demands.{begins, touched_path, asked, asked_by}
use Rattle.fast_check_finder_loop.specs.Measure.{IsWithin}
use Rattle.fast_check_finder_loop.specs.Reach.{paths_up_to}
use Rattle.fast_check_finder_demands.proofs.Elements.{no_element, later, only, cases, in_map, of_map, in_flat, of_flat}
use Rattle.fast_check_finder_demands.proofs.Each.{Each, each_nil}
use Rattle.fast_check_finder_demands.proofs.asked.Maps.{first_in}

pub flat_longer : {X Y : Type 0} (f : X → List Y) (xs : List X) (x : X) → Contains xs x → length (f x) ≤ length (flat_map f xs)
flat_longer f [] x c = absurd (no_element x c)
flat_longer {X} {Y} f (z ∷ zs) x c =
    ⊎_elim (λ e. subst (λ (y : X). length (f y) ≤ length (f z ++ flat_map f zs)) e (omega (arith, length-append (f z) (flat_map f zs))))
    (λ r. omega (arith, length-append (f z) (flat_map f zs), flat_longer f zs x r))
    (cases z zs x c)

-- no longer than n, and of these names
pub record Fits (ns : List Name) (n : ℕ) (p : Path) : Type 0 where
  pub short : length p ≤ n
  pub named : Each (λ m. Contains ns m) p

module _ (ns : List Name) where
  pub fits_in : (n : ℕ) (p : Path) → Fits ns n p → Contains (paths_up_to n ns) p
  fits_in zero [] f = first_in [] []
  fits_in zero (m ∷ p) f = absurd (no f.short)
    where
      no : suc (length p) ≤ zero → ⊥
      no h = omega (arith, h)
  fits_in (suc n) [] f = first_in [] _
  fits_in (suc n) (m ∷ p) f = later [] _ (m ∷ p)
      (in_flat (λ k. map (λ q. k ∷ q) (paths_up_to n ns)) ns m (m ∷ p) (f.named m (first_in m p))
      (in_map (λ (q : Path). m ∷ q) (paths_up_to n ns) p (fits_in n p (record
      { short = less f.short; named = λ k c. f.named k (later m p k c) }))))
    where
      less : suc (length p) ≤ suc n → length p ≤ n
      less h = omega (arith, h)

  pub fits_empty : (n : ℕ) → Fits ns n []
  fits_empty n = record { short = omega arith; named = each_nil (λ m. Contains ns m) }

  pub fits_more : (m : Name) (n : ℕ) (p : Path) → Contains ns m → Fits ns n p → Fits ns (suc n) (m ∷ p)
  fits_more m n p c f = record {
    short = omega (arith, f.short);
    named = λ k i. ⊎_elim (λ e. subst (λ (j : Name). Contains ns j) e c) (λ r. f.named k r)
        (cases m p k i);
  }

  pub fits_longer : (n : ℕ) (p : Path) → Fits ns n p → Fits ns (suc n) p
  fits_longer n p f = record { short = omega (arith, f.short); named = f.named }

  pub fits_tail : (n : ℕ) (m : Name) (p : Path) → Fits ns (suc n) (m ∷ p) → Fits ns n p
  fits_tail n m p f = record { short = less f.short; named = λ k c. f.named k (later m p k c) }
    where
      less : suc (length p) ≤ suc n → length p ≤ n
      less h = omega (arith, h)

  pub fits_rest : (n : ℕ) (m : Name) (p : Path) → Fits ns n (m ∷ p) → Fits ns n p
  fits_rest n m p f = record { short = less f.short; named = λ k c. f.named k (later m p k c) }
    where
      less : suc (length p) ≤ n → length p ≤ n
      less h = omega (arith, h)

  pub in_fits : (n : ℕ) (p : Path) → Contains (paths_up_to n ns) p → Fits ns n p
  in_fits zero p c = subst (Fits ns zero) (only [] p c) (fits_empty zero)
  in_fits (suc n) p c =
      ⊎_elim (λ e. subst (Fits ns (suc n)) e (fits_empty (suc n)))
      (λ r.
      let f = of_flat (λ k. map (λ q. k ∷ q) (paths_up_to n ns)) ns p r in
      let g = of_map (λ (q : Path). f.0 ∷ q) (paths_up_to n ns) p f.2 in
      subst (Fits ns (suc n)) g.2 (fits_more f.0 n g.0 f.1 (in_fits n g.0 g.1)))
      (cases [] _ p c)

  -- one of its names
  pub fits_name : (n : ℕ) (p : Path) (m : Name) → Fits ns n p → Contains p m → Fits ns n (m ∷ [])
  fits_name n p m f c = record {
    short = let h = some p c in omega (arith, h, f.short);
    named = λ k i. subst (λ (j : Name). Contains ns j) (only m k i) (f.named m c);
  }
    where
      some : (q : Path) → Contains q m → 1 ≤ length q
      some [] h = absurd (no_element m h)
      some (k ∷ q) h = omega arith

  -- a beginning of a path
  pub fits_begin : (n : ℕ) (q p : Path) → begins q p ≡ true → Fits ns n p → Fits ns n q
  fits_begin n [] p h f = fits_empty n
  fits_begin n (m ∷ q) [] h f = absurd (false≢true h)
  fits_begin zero (m ∷ q) (k ∷ p) h f = absurd (no f.short)
    where
      no : suc (length p) ≤ zero → ⊥
      no h = omega (arith, h)
  fits_begin (suc n) (m ∷ q) (k ∷ p) h f =
      let a = and_parts (bytes_eq k m) (begins q p) h in
      subst (λ (j : Name). Fits ns (suc n) (j ∷ q)) ((bytes_eq-Decides k m).0 a.0)
      (fits_more k n q (f.named k (first_in k p)) (fits_begin n q p a.1 (fits_tail n k p f)))

-- beginnings that are asked for beside a path

subset_begins : (p q : Path) → has_subset (whole_below p) q ≡ true → begins q p ≡ true
subset_begins [] q h = absurd (false≢true h)
subset_begins (n ∷ p) [] h = refl
subset_begins (n ∷ p) (m ∷ q) h =
    ⊎_elim
    (λ t. and_from (bytes_eq n m) (begins q p) t
    (subset_begins p q (sym (ap (λ (b : Bool). (b && whole_below p Touched q) && not (b && whole_below p Covered q)) t) ∙ h)))
    (λ f. absurd (false≢true (sym (ap (λ (b : Bool). (b && whole_below p Touched q) && not (b && whole_below p Covered q)) f) ∙ h)))
    (cases_Bool (bytes_eq n m))

whole_begins : (p q : Path) → has_whole (whole_below p) q ≡ true → begins q p ≡ true
whole_begins p [] h = refl
whole_begins [] (m ∷ q) h = absurd (false≢true h)
whole_begins (n ∷ p) (m ∷ q) h =
    ⊎_elim
    (λ t. and_from (bytes_eq n m) (begins q p) t
    (whole_begins p q (sym (same_whole (λ part r. whole_below (n ∷ p) part (m ∷ r)) (whole_below p)
    (λ part r. ap (λ (b : Bool). b && whole_below p part r) t) q) ∙ h)))
    (λ f. absurd
    (false≢true
    (sym (ap (λ (b : Bool). b && whole_below p Covered q) f) ∙ whole_covered (λ part r. whole_below (n ∷ p) part (m ∷ r)) q h)))
    (cases_Bool (bytes_eq n m))

-- what is asked for beside a single demand is of names of the same kind
module _ (ns : List Name) (n : ℕ) where
  abbrev all : List Path
  all = paths_up_to n ns

  pub within_fits : (p q : Path) → Contains all p → begins q p ≡ true → Contains all q
  within_fits p q c h = fits_in ns n q (fits_begin ns n q p h (in_fits ns n p c))

  pub empty_in : Contains all []
  empty_in = fits_in ns n [] (fits_empty ns n)

  pub star_within : (d : NameDemand) → asked Star d ≡ true → IsWithin all d
  star_within names_but_default h = tt
  star_within each_name h = tt
  star_within (subset_at p) h = absurd (false≢true h)
  star_within (whole_at p) h = absurd (false≢true h)

  pub all_within : (d : NameDemand) → asked StarWithDefault d ≡ true → IsWithin all d
  all_within names_but_default h = tt
  all_within each_name h = tt
  all_within (subset_at p) h = absurd (false≢true h)
  all_within (whole_at p) h = absurd (false≢true h)

  touched_within : (p : Path) → Contains all p → (d : NameDemand) → asked_by (subset_at p) d ≡ true → IsWithin all d
  touched_within p c names_but_default h = tt
  touched_within p c each_name h = tt
  touched_within p c (subset_at []) h = empty_in
  touched_within p c (subset_at (m ∷ q)) h =
      within_fits p (m ∷ q) c (and_parts (touched_path p Touched (m ∷ q)) (not (touched_path p Covered (m ∷ q))) h).0
  touched_within p c (whole_at []) h = absurd (false≢true h)
  touched_within p c (whole_at (m ∷ q)) h = absurd (false≢true (whole_covered (touched_path p) (m ∷ q) h))

  whole_within : (p : Path) → Contains all p → (d : NameDemand) → asked_by (whole_at p) d ≡ true → IsWithin all d
  whole_within p c names_but_default h = tt
  whole_within p c each_name h = tt
  whole_within p c (subset_at []) h = empty_in
  whole_within [] c (subset_at (m ∷ q)) h = absurd (false≢true h)
  whole_within (k ∷ p) c (subset_at (m ∷ q)) h = within_fits (k ∷ p) (m ∷ q) c (subset_begins (k ∷ p) (m ∷ q) h)
  whole_within [] c (whole_at q) h = absurd (false≢true (whole_covered (whole_path []) q h))
  whole_within (k ∷ p) c (whole_at []) h = empty_in
  whole_within (k ∷ p) c (whole_at (m ∷ q)) h = within_fits (k ∷ p) (m ∷ q) c (whole_begins (k ∷ p) (m ∷ q) h)

  pub asked_within : (e : NameDemand) → IsWithin all e → (d : NameDemand) → asked_by e d ≡ true → IsWithin all d
  asked_within names_but_default i = star_within
  asked_within each_name i = all_within
  asked_within (subset_at p) i = touched_within p i
  asked_within (whole_at p) i = whole_within p i
