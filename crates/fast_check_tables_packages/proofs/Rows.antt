-- Indexes of packages as they grow, and what is found by them.
use Rattle.std.proofs.Common.{◌≡◌, ◌∙◌, sym, ap, subst, refl, ℕ, zero, suc, ◌+◌, ◌<◌, Bool, true, false, cond, List, [], ◌∷◌, ◌++◌, length}
use Rattle.std.proofs.Common.{take, get_or, arith, Option, Some, None, find, slice_get, option_and_then, IfSome, is_eq}
use Rattle.std.proofs.Common.{length-take-le, length-append}
use Rattle.std.specs.Borrow.{Bor}
use Rattle.std.specs.Slice.{IsItemAt}
use Rattle.std.specs.Option.{option_copied}
use Rattle.std.specs.Cmp.{eq_by_cmp_equiv}
use Rattle.std.specs.Ordering.{eq_by_cmp}
use Rattle.std.proofs.lemmas.List.{take_more, reverse-append}
use Rattle.std.proofs.lemmas.Option.{slice_get_past, slice_get-get_or}
use Rattle.url.specs.Parts.{serialize}
use Rattle.fast_check_tables_packages.specs.declared.package.PackageNv.{PackageNv}
use Rattle.fast_check_tables_packages.specs.Package.{nv_of, nv_cmp}
use Rattle.fast_check_tables_packages.specs.PackageOrder.{nv_total}
use Rattle.fast_check_tables_packages.specs.Listed.{Row, row_of, row_at, begins_with}
use Rattle.fast_check_tables_packages.specs.First.{first_place}
use Rattle.fast_check_tables_packages.specs.Packages.{package_cmp, ArePlaces, texts_of}
use Rattle.fast_check_tables_packages.proofs.First.{found_there, first_mapped}

-- ---- one row more

pub last_got : {X : Type 0} (xs : List X) (x : X) → slice_get (xs ++ x ∷ []) (length xs) ≡ Some x
last_got [] x = refl
last_got (y ∷ xs) x = last_got xs x

pub got_before : {X : Type 0} (xs : List X) (x : X) (i : ℕ) → i < length xs → slice_get (xs ++ x ∷ []) i ≡ slice_get xs i
got_before [] x i lt = absurd (omega arith)
got_before (y ∷ xs) x zero lt = refl
got_before (y ∷ xs) x (suc i) lt = got_before xs x i (omega arith)

put_says : (b : Bool) (rows : List Row) (e : Row) (o : Option ℕ) (r : Option Row) → IfSome o (λ place. place < length rows)
    → option_and_then (slice_get rows) o ≡ r
    → option_and_then (slice_get (rows ++ e ∷ [])) (cond b (Some (length rows)) o) ≡ cond b (Some e) r
put_says true rows e o r within h = last_got rows e
put_says false rows e None r within h = h
put_says false rows e (Some i) r within h = got_before rows e i within ∙ h

put_within : (b : Bool) (n m : ℕ) (o : Option ℕ) → n < m → IfSome o (λ place. place < n) → IfSome (cond b (Some n) o) (λ place. place < m)
put_within true n m o lt h = lt
put_within false n m None lt h = h
put_within false n m (Some i) lt h = omega arith

row_of_more : (rows : List Row) (e : Row) (nv : PackageNv)
    → row_of (rows ++ e ∷ []) (nv_of nv) ≡ cond (is_eq (nv_cmp (nv_of nv) (nv_of e.0))) (Some e) (row_of rows (nv_of nv))
row_of_more rows e nv = ap (λ (xs : List Row). find (λ r. is_eq (nv_cmp (nv_of nv) (nv_of r.0))) xs) (reverse-append rows (e ∷ []))

-- the place of one row more is put
pub places_more : (rows : List Row) (i : ℕ) (e : Row) (key : PackageNv) (old new : PackageNv → Option ℕ) → i < length rows
    → e ≡ get_or rows i e → nv_of key ≡ nv_of e.0
    → ((nv : PackageNv) → new nv ≡ cond (eq_by_cmp package_cmp key nv) (Some i) (old nv)) → ArePlaces (take i rows) old
    → ArePlaces (take (i + 1) rows) new
places_more rows i e key old new lt read same put h =
    let longer : take (i + 1) rows ≡ take i rows ++ e ∷ [] = take_more rows i e lt ∙ ap (λ (x : Row). take i rows ++ x ∷ []) (sym read) in
    let long : length (take i rows) ≡ i = length-take-le i rows (omega arith) in
    let now : (nv : PackageNv) → new nv
    ≡ cond (is_eq (nv_cmp (nv_of nv) (nv_of e.0))) (Some (length (take i rows))) (old nv)
    = λ nv. put nv ∙ (ap (λ b. cond b (Some i) (old nv))
    ((eq_by_cmp_equiv nv_total).symm (nv_of key) (nv_of nv) ∙ ap (λ p. is_eq (nv_cmp (nv_of nv) p)) same)
    ∙ ap (λ n. cond (is_eq (nv_cmp (nv_of nv) (nv_of e.0))) (Some n) (old nv)) (sym long)) in
    subst (λ (xs : List Row). ArePlaces xs new) (sym longer) (record {
      within = λ nv.
          subst (λ (o : Option ℕ). IfSome o (λ place. place < length (take i rows ++ e ∷ []))) (sym (now nv))
          (put_within (is_eq (nv_cmp (nv_of nv) (nv_of e.0))) (length (take i rows)) (length (take i rows ++ e ∷ []))
          (old nv)
          (subst (λ (n : ℕ). length (take i rows) < n) (sym (length-append (take i rows) (e ∷ []))) (omega arith)) (h.within nv));
      says = λ nv.
          ap (λ (o : Option ℕ). option_and_then (slice_get (take i rows ++ e ∷ [])) o) (now nv)
          ∙ (put_says (is_eq (nv_cmp (nv_of nv) (nv_of e.0))) (take i rows) e (old nv) (row_of (take i rows) (nv_of nv))
          (h.within nv)
          (h.says nv) ∙ sym (row_of_more (take i rows) e nv));
    })

-- ---- what is found

-- what `get` lends
pub item_at : {X : Type 0} (xs : List X) (i : ℕ) (r : Option (Bor X)) → IsItemAt xs i r → option_copied r ≡ slice_get xs i
item_at xs i None h = sym (slice_get_past xs i h.3)
item_at xs i (Some y) h = ap Some h.1 ∙ sym (slice_get-get_or xs i y.now h.3.0)

-- the first row whose URL begins a text
pub row_found : (rows : List Row) (text : List ℕ)
    → row_at rows text ≡ option_and_then (slice_get rows) (first_place (λ t. begins_with t text) (texts_of rows))
row_found rows text =
    found_there (λ e. begins_with (serialize e.1) text) rows
    ∙ ap (λ (o : Option ℕ). option_and_then (slice_get rows) o) (sym (first_mapped (λ e. serialize e.1) (λ t. begins_with t text) rows))

pub row_none : (rows : List Row) (bytes text : List ℕ) (o : Option ℕ) → bytes ≡ text →
    o ≡ first_place (λ t. begins_with t bytes) (texts_of rows)
    → o ≡ None → None ≡ row_at rows text
row_none rows bytes text o same is none =
    sym (row_found rows text
    ∙ ap (λ (p : Option ℕ). option_and_then (slice_get rows) p)
    (ap (λ (bs : List ℕ). first_place (λ t. begins_with t bs) (texts_of rows)) (sym same) ∙ (sym is ∙ none)))

pub row_some : (rows : List Row) (bytes text : List ℕ) (o : Option ℕ) (i : ℕ) (r : Option (Bor Row)) → bytes ≡ text
    → o ≡ first_place (λ t. begins_with t bytes) (texts_of rows) → o ≡ Some i → IsItemAt rows i r → option_copied r ≡ row_at rows text
row_some rows bytes text o i r same is some item =
    item_at rows i r item
    ∙ sym (row_found rows text
    ∙ ap (λ (p : Option ℕ). option_and_then (slice_get rows) p)
    (ap (λ (bs : List ℕ). first_place (λ t. begins_with t bs) (texts_of rows)) (sym same) ∙ (sym is ∙ some)))
