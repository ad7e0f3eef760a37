-- A text that is joined, once for all that are equal to it.
use Rattle.std.proofs.Common.{◌≡◌, ◌∙◌, sym, ap, refl, subst, ℕ, Bool, true, false, ◌||◌, cond, List, [], ◌∷◌, ◌++◌, append-nil, fold}
use Rattle.std.proofs.Common.{Option, Some, None, option_to_list, is_none, true≢false}
use Rattle.std.specs.Borrow.{Bor}
use Rattle.std.specs.BTreeSet.{BTreeSet, contains_by}
use Rattle.std.specs.Cmp.Lexicographic.{slice_cmp, nat_list_eq_equiv, texts_ties}
use Rattle.std.specs.List.{find, list_any}
use Rattle.std.specs.Ordering.{is_eq, nat_cmp}
use Rattle.std.specs.Str.{bytes_eq}
use Rattle.std.specs.Option.{option_or}
use Rattle.std.proofs.lemmas.Grind.{flat_map-append}
use Rattle.std.proofs.lemmas.List.Folds.{find-append, list_any-append}
use Rattle.std.proofs.lemmas.List.Sums.{fold-append}
use Rattle.std.proofs.lemmas.Slice.Eq.{bytes_eq-Decides}
use Rattle.url.specs.Parts.{Parts, serialize}
use Rattle.fast_check_finder_ranges.specs.entries.Entries.{joined, all_joined, put_url, in_order}
use Rattle.fast_check_finder_ranges.specs.entries.Joined.{AreJoined}
use Rattle.fast_check_finder_ranges.proofs.entries.Keys.{put_twice, put_stays}
use Rattle.fast_check_finder_ranges.proofs.Maps.{text_total}

some_none : {X : Type 0} (x : X) → Some x ≡ None → ⊥
some_none x e = cc

-- ---- a URL that is there

-- what a text is joined to is among these, if it joins
abbrev Settles : List Parts → Option Parts → Type 0
Settles urls url = fold put_url urls (option_to_list url) ≡ urls

settles_twice : (urls : List Parts) (url : Option Parts) → Settles (fold put_url urls (option_to_list url)) url
settles_twice urls None = refl
settles_twice urls (Some url) = put_twice (λ a b. slice_cmp nat_cmp (serialize a) (serialize b)) text_total urls url

settles_more : (urls : List Parts) (url other : Option Parts) → Settles urls url → Settles (fold put_url urls (option_to_list other)) url
settles_more urls None other h = refl
settles_more urls (Some url) None h = h
settles_more urls (Some url) (Some other) h =
    put_stays (λ a b. slice_cmp nat_cmp (serialize a) (serialize b)) text_total urls url other h

module _ (base : Parts) where
  settles_all : (texts : List (List ℕ)) (urls : List Parts) (url : Option Parts) → Settles urls url →
      Settles (fold put_url urls (all_joined base texts)) url
  settles_all [] urls url h = h
  settles_all (t ∷ texts) urls url h =
      subst (λ (us : List Parts). Settles us url) (sym (fold-append put_url urls (option_to_list (joined base t)) (all_joined base texts)))
      (settles_all texts (fold put_url urls (option_to_list (joined base t))) url (settles_more urls url (joined base t) h))

  settles_among : (texts : List (List ℕ)) (t : List ℕ) (urls : List Parts) → list_any (bytes_eq t) texts ≡ true →
      Settles (fold put_url urls (all_joined base texts)) (joined base t)
  settles_among [] t urls h = absurd (true≢false (sym h))
  settles_among (s ∷ texts) t urls h =
      subst (λ (us : List Parts). Settles us (joined base t))
      (sym (fold-append put_url urls (option_to_list (joined base s)) (all_joined base texts)))
      (by (bytes_eq t s) refl h (settles_among texts t (fold put_url urls (option_to_list (joined base s)))))
    where
      by : (b : Bool) → bytes_eq t s ≡ b → (b || list_any (bytes_eq t) texts) ≡ true →
          (list_any (bytes_eq t) texts ≡ true →
          Settles (fold put_url (fold put_url urls (option_to_list (joined base s))) (all_joined base texts)) (joined base t)) →
          Settles (fold put_url (fold put_url urls (option_to_list (joined base s))) (all_joined base texts)) (joined base t)
      by true e i rest = settles_all texts (fold put_url urls (option_to_list (joined base s))) (joined base t)
          (subst (λ (x : List ℕ). Settles (fold put_url urls (option_to_list (joined base x))) (joined base t)) ((bytes_eq-Decides t s).0 e)
          (settles_twice urls (joined base t)))
      by false e i rest = rest i

  -- ---- one text more

  abbrev refuses : List ℕ → Bool
  refuses t = is_none (joined base t)

  joins_among : (texts : List (List ℕ)) (t : List ℕ) → list_any (bytes_eq t) texts ≡ true → find refuses texts ≡ None → refuses t ≡ false
  joins_among [] t h none = absurd (true≢false (sym h))
  joins_among (s ∷ texts) t h none = by (bytes_eq t s) (refuses s) refl refl h none (joins_among texts t)
    where
      by : (b r : Bool) → bytes_eq t s ≡ b → refuses s ≡ r → (b || list_any (bytes_eq t) texts) ≡ true →
          cond r (Some s) (find refuses texts) ≡ None → (list_any (bytes_eq t) texts ≡ true → find refuses texts ≡ None → refuses t ≡ false) →
          refuses t ≡ false
      by b true e f i n rest = absurd (some_none s n)
      by true false e f i n rest = ap refuses ((bytes_eq-Decides t s).0 e) ∙ f
      by false false e f i n rest = rest i n

  none_more : (texts : List (List ℕ)) (t : List ℕ) → find refuses texts ≡ None → refuses t ≡ false → find refuses (texts ++ t ∷ []) ≡ None
  none_more texts t none h =
      find-append refuses texts (t ∷ []) ∙ (ap (λ o. option_or o (find refuses (t ∷ []))) none ∙ ap (λ b. cond b (Some t) None) h)

  urls_more : (texts : List (List ℕ)) (t : List ℕ) → in_order (all_joined base (texts ++ t ∷ []))
      ≡ fold put_url (in_order (all_joined base texts)) (option_to_list (joined base t))
  urls_more texts t =
      let one = λ (s : List ℕ). option_to_list (joined base s) in
      ap in_order (flat_map-append one texts (t ∷ []) ∙ ap (λ (us : List Parts). all_joined base texts ++ us) (append-nil (one t)))
      ∙ fold-append put_url [] (all_joined base texts) (one t)

  or_none : (b : Bool) → (b || false) ≡ b
  or_none true = refl
  or_none false = refl

  any_more : (texts : List (List ℕ)) (t q : List ℕ) → list_any (bytes_eq q) (texts ++ t ∷ [])
      ≡ (list_any (bytes_eq q) texts || bytes_eq q t)
  any_more texts t q =
      list_any-append (bytes_eq q) texts (t ∷ []) ∙ ap (λ b. list_any (bytes_eq q) texts || b) (or_none (bytes_eq q t))

  same_any : (texts : List (List ℕ)) (t q : List ℕ) → list_any (bytes_eq t) texts ≡ true →
      list_any (bytes_eq q) texts ≡ (list_any (bytes_eq q) texts || bytes_eq q t)
  same_any texts t q h = by (list_any (bytes_eq q) texts) (bytes_eq q t) refl refl
    where
      by : (a b : Bool) → list_any (bytes_eq q) texts ≡ a → bytes_eq q t ≡ b → a ≡ (a || b)
      by true b e f = refl
      by false false e f = refl
      by false true e f =
          absurd (true≢false (sym h ∙ (ap (λ (s : List ℕ). list_any (bytes_eq s) texts) (sym ((bytes_eq-Decides q t).0 f)) ∙ e)))

  -- a text that was joined
  pub joined_again : (done : List (List ℕ)) (t : List ℕ) (texts : BTreeSet (Bor (List ℕ))) (urls : BTreeSet Parts) →
      contains_by (λ k. slice_cmp nat_cmp t k.now) texts ≡ true → AreJoined base done texts urls → AreJoined base (done ++ t ∷ []) texts urls
  joined_again done t texts urls there h =
      let among = sym (h.noted t) ∙ there in
      record {
        all = none_more done t h.all (joins_among done t among h.all);
        noted = λ q. h.noted q ∙ (same_any done t q among ∙ sym (any_more done t q));
        are = h.are ∙ (sym (settles_among done t [] among) ∙ sym (urls_more done t));
      }

  swapped : (a b : Bool) → cond a true b ≡ (b || a)
  swapped true true = refl
  swapped true false = refl
  swapped false true = refl
  swapped false false = refl

  -- one that was not
  pub joined_new : (done : List (List ℕ)) (t : List ℕ) (texts noted : BTreeSet (Bor (List ℕ))) (urls more : BTreeSet Parts) →
      refuses t ≡ false → more.keys ≡ fold put_url urls.keys (option_to_list (joined base t)) →
      ((q : Bor (List ℕ)) → contains_by (λ k. slice_cmp nat_cmp q.now k.now) noted
      ≡ cond (is_eq (slice_cmp nat_cmp t q.now)) true (contains_by (λ k. slice_cmp nat_cmp q.now k.now) texts)) →
      AreJoined base done texts urls → AreJoined base (done ++ t ∷ []) noted more
  joined_new done t texts noted urls more joins put updates h = record {
    all = none_more done t h.all joins;
    noted = λ q.
        updates (record { ref_ptr = (0, 0); now = q })
        ∙ (swapped (is_eq (slice_cmp nat_cmp t q)) (contains_by (λ k. slice_cmp nat_cmp q k.now) texts)
        ∙ (ap (λ b. b || is_eq (slice_cmp nat_cmp t q)) (h.noted q)
        ∙ (ap (λ b. list_any (bytes_eq q) done || b) (sym (texts_ties t q) ∙ nat_list_eq_equiv.symm t q)
        ∙ sym (any_more done t q))));
    are = put ∙ (ap (λ (us : List Parts). fold put_url us (option_to_list (joined base t))) h.are ∙ sym (urls_more done t));
  }
