-- Places of keys, when one item more is put at its key.
use Rattle.std.proofs.Common.{◌≡◌, ◌∙◌, sym, ap, refl, subst, ℕ, zero, suc, ◌<◌, Bool, true, false, cond, List, [], ◌∷◌, ◌++◌, Option}
use Rattle.std.proofs.Common.{Some, None, length, get_or, set}
use Rattle.std.specs.Prelude.{option_map, if◌then◌else◌}
use Rattle.std.specs.Option.{option_or}
use Rattle.std.specs.BTreeMap.{BTreeMap, get, is_at, Updates}
use Rattle.std.specs.Map.{lookup}
use Rattle.std.specs.Ordering.{is_eq}
use Rattle.std.specs.declared.cmp.Ordering.{Ordering}
use Rattle.fast_check_meaning_expandos.specs.FirstPlaces.{place_of, HasPlaces}
use Rattle.fast_check_meaning_expandos.proofs.Grouped.{placed}
use Rattle.fast_check_tables_symbols.proofs.Seen.{longer_below, inside_below, apart}

-- what an index answers is the place
pub place_is : {K N : Type 0} {same : K → K → Bool} {cmp : K → K → Ordering} {es : List (K × N)} {places : BTreeMap K ℕ}
    (k : K) {lent answer : Option ℕ} → HasPlaces same cmp places es → lent ≡ get cmp places k → answer ≡ lent → place_of same k es ≡ answer
place_is k h is copied = sym (h.says k) ∙ (sym is ∙ sym copied)

-- an empty index has no places
pub none_placed : {K N : Type 0} {same : K → K → Bool} {cmp : K → K → Ordering} {es : List (K × N)} {places : BTreeMap K ℕ} →
    places.entries ≡ [] → es ≡ [] → HasPlaces same cmp places es
none_placed {same = same} {cmp = cmp} e f = record {
  says = λ k. ap (lookup (is_at (cmp k))) e ∙ ap (place_of same k) (sym f);
}

module _ {K A N : Type 0} (same : K → K → Bool) (key : A → K) (merged : List A → N) (more : N → A → N) where
  -- a place is one of the list
  pub inside : (k : K) (es : List (K × N)) (i : ℕ) → place_of same k es ≡ Some i → i < length es
  inside k [] i at = cc
  inside k (e ∷ es) i at = inside_below (same k e.0) (place_of same k es) i (length es) at (inside k es)

  abbrev put : A → List (K × N) → List (K × N)
  put = placed same key merged more

  -- ---- a key that is there

  written_below : (b : Bool) (p : Option ℕ) (x : A) (y : K × N) (ys : List (K × N)) (i : ℕ) (e : K × N) (rest : List (K × N)) →
      cond b (Some 0) (option_map suc p) ≡ Some i → e ≡ get_or (y ∷ ys) i e →
      ((j : ℕ) → p ≡ Some j → e ≡ get_or ys j e → set ys j (e.0, more e.1 x) ≡ rest) →
      set (y ∷ ys) i (e.0, more e.1 x) ≡ (if b then (y.0, more y.1 x) ∷ ys else y ∷ rest)
  written_below true p x y ys zero e rest at read next = ap (λ (u : K × N). (u.0, more u.1 x) ∷ ys) read
  written_below true p x y ys (suc i) e rest at read next = cc
  written_below false None x y ys i e rest at read next = cc
  written_below false (Some j) x y ys zero e rest at read next = cc
  written_below false (Some j) x y ys (suc i) e rest at read next = ap (λ (us : List (K × N)). y ∷ us) (next i (cc) read)

  -- its entry gets the item
  pub written : (x : A) (es : List (K × N)) (i : ℕ) (e : K × N) → place_of same (key x) es ≡ Some i → e ≡ get_or es i e →
      set es i (e.0, more e.1 x) ≡ put x es
  written x [] i e at read = cc
  written x (y ∷ ys) i e at read =
      written_below (same (key x) y.0) (place_of same (key x) ys) x y ys i e (put x ys) at read (λ j. written x ys j e)

  stays_below : (b : Bool) (p : Option ℕ) (asked : K) (i : ℕ) (n : N) (e : K × N) (es rest : List (K × N)) →
      cond b (Some 0) (option_map suc p) ≡ Some i →
      ((j : ℕ) → p ≡ Some j → place_of same asked rest ≡ place_of same asked es) →
      place_of same asked (if b then (e.0, n) ∷ es else e ∷ rest) ≡ place_of same asked (e ∷ es)
  stays_below true p asked i n e es rest at next = refl
  stays_below false None asked i n e es rest at next = cc
  stays_below false (Some j) asked i n e es rest at next =
      ap (λ (o : Option ℕ). cond (same asked e.0) (Some 0) (option_map suc o)) (next j refl)

  -- and the places stay
  places_stay : (x : A) (asked : K) (es : List (K × N)) (i : ℕ) → place_of same (key x) es ≡ Some i →
      place_of same asked (put x es) ≡ place_of same asked es
  places_stay x asked [] i at = cc
  places_stay x asked (e ∷ es) i at =
      stays_below (same (key x) e.0) (place_of same (key x) es) asked i (more e.1 x) e es (put x es) at (λ j. places_stay x asked es j)

  pub same_places : (cmp : K → K → Ordering) (x : A) (es : List (K × N)) (i : ℕ) (places : BTreeMap K ℕ) →
      place_of same (key x) es ≡ Some i → HasPlaces same cmp places es → HasPlaces same cmp places (put x es)
  same_places cmp x es i places at h = record { says = λ asked. h.says asked ∙ sym (places_stay x asked es i at) }

  -- ---- a key that is not there

  added_below : (b : Bool) (p : Option ℕ) (n : N) (e y : K × N) (es rest : List (K × N)) →
      cond b (Some 0) (option_map suc p) ≡ None → (p ≡ None → rest ≡ es ++ y ∷ []) →
      (if b then (e.0, n) ∷ es else e ∷ rest) ≡ e ∷ es ++ y ∷ []
  added_below true p n e y es rest at next = cc
  added_below false None n e y es rest at next = ap (λ (us : List (K × N)). e ∷ us) (next refl)
  added_below false (Some j) n e y es rest at next = cc

  -- it goes last
  pub added : (x : A) (es : List (K × N)) → place_of same (key x) es ≡ None → put x es ≡ es ++ (key x, merged (x ∷ [])) ∷ []
  added x [] at = refl
  added x (e ∷ es) at =
      added_below (same (key x) e.0) (place_of same (key x) es) (more e.1 x) e (key x, merged (x ∷ [])) es (put x es) at (added x es)

  longer : (asked : K) (es : List (K × N)) (e : K × N) →
      place_of same asked (es ++ e ∷ []) ≡ option_or (place_of same asked es) (cond (same asked e.0) (Some (length es)) None)
  longer asked [] e = refl
  longer asked (y ∷ ys) e =
      ap (λ (o : Option ℕ). cond (same asked y.0) (Some 0) (option_map suc o)) (longer asked ys e)
      ∙ longer_below (same asked y.0) (same asked e.0) (place_of same asked ys) (length ys)

  -- and has the last place
  last_place : (one : (a b : K) → same a b ≡ true → a ≡ b) (turned : (a b : K) → same a b ≡ same b a) →
      (x : A) (asked : K) (es : List (K × N)) → place_of same (key x) es ≡ None →
      place_of same asked (put x es) ≡ cond (same (key x) asked) (Some (length es)) (place_of same asked es)
  last_place one turned x asked es at =
      ap (place_of same asked) (added x es at)
      ∙ (longer asked es (key x, merged (x ∷ []))
      ∙ (ap (λ b. option_or (place_of same asked es) (cond b (Some (length es)) None)) (turned asked (key x))
      ∙ apart (same (key x) asked) (place_of same asked es) (length es)
      (λ e. subst (λ k. place_of same k es ≡ None) (one (key x) asked e) at)))

  -- so the index has one place more
  pub one_place_more : (cmp : K → K → Ordering) (tie : (a b : K) → same a b ≡ is_eq (cmp a b))
      (one : (a b : K) → same a b ≡ true → a ≡ b) (turned : (a b : K) → same a b ≡ same b a)
      (x : A) (es : List (K × N)) (k : K) (i : ℕ) (old new : BTreeMap K ℕ) → place_of same (key x) es ≡ None → k ≡ key x → i ≡ length es →
      Updates cmp old new k (Some i) → HasPlaces same cmp old es → HasPlaces same cmp new (put x es)
  one_place_more cmp tie one turned x es k i old new at is long u h = record {
    says = λ asked.
        let says : get cmp new asked ≡ cond (is_eq (cmp k asked)) (Some i) (get cmp old asked) = u.0 asked in
        says ∙ (ap (λ b. cond b (Some i) (get cmp old asked)) (sym (tie k asked))
        ∙ (ap (λ (c : K). cond (same c asked) (Some i) (get cmp old asked)) is
        ∙ (ap (λ o. cond (same (key x) asked) (Some i) o) (h.says asked)
        ∙ (ap (λ n. cond (same (key x) asked) (Some n) (place_of same asked es)) long
        ∙ sym (last_place one turned x asked es at)))));
  }

  -- ---- both, where another function puts the same

  module _ (cmp : K → K → Ordering) (put_alike : A → List (K × N) → List (K × N)) (alike : (x : A) (es : List (K × N)) →
      put x es ≡ put_alike x es) where
    pub put_there : (x : A) (es : List (K × N)) (i : ℕ) (e : K × N) (places : BTreeMap K ℕ) → place_of same (key x) es ≡ Some i →
        e ≡ get_or es i e → HasPlaces same cmp places es →
        HasPlaces same cmp places (set es i (e.0, more e.1 x)) × (set es i (e.0, more e.1 x) ≡ put_alike x es)
    put_there x es i e places at read h = (
      subst (HasPlaces same cmp places) (sym (written x es i e at read)) (same_places cmp x es i places at h),
      written x es i e at read ∙ alike x es,
    )

    pub put_last : (tie : (a b : K) → same a b ≡ is_eq (cmp a b)) (one : (a b : K) → same a b ≡ true → a ≡ b)
        (turned : (a b : K) → same a b ≡ same b a)
        (x : A) (es longer_es : List (K × N)) (k : K) (i : ℕ) (old new : BTreeMap K ℕ) → place_of same (key x) es ≡ None →
        longer_es ≡ es ++ (key x, merged (x ∷ [])) ∷ [] → k ≡ key x → i ≡ length es → Updates cmp old new k (Some i) →
        HasPlaces same cmp old es → HasPlaces same cmp new longer_es × (longer_es ≡ put_alike x es)
    put_last tie one turned x es longer_es k i old new at pushed is long u h =
        let all : longer_es ≡ put x es = pushed ∙ sym (added x es at) in (
          subst (HasPlaces same cmp new) (sym all) (one_place_more cmp tie one turned x es k i old new at is long u h),
          all ∙ alike x es,
        )
