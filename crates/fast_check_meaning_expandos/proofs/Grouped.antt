-- Groups, when one item more is put behind the others.
use Rattle.std.proofs.Common.{◌≡◌, ◌∙◌, sym, ap, refl, Bool, true, false, List, [], ◌∷◌, ◌++◌, map, true≢false, if◌then◌else◌}
use Rattle.std.proofs.lemmas.List.{append-nil}
use Rattle.std.proofs.lemmas.List.Elements.{filter-append}
use Rattle.fast_check_meaning_expandos.specs.Groups.{others, items_of, grouped}

module _ {K A N : Type 0} (same : K → K → Bool) (key : A → K) (merged : List A → N) (more : N → A → N) where
  -- the entries with one item more: in that of its key, or else in a last one
  abbrev pub placed : A → List (K × N) → List (K × N)
  placed x [] = (key x, merged (x ∷ [])) ∷ []
  placed x (e ∷ es) = if same (key x) e.0 then (e.0, more e.1 x) ∷ es else e ∷ placed x es

  abbrev pub all_merged : List (K × List A) → List (K × N)
  all_merged = map (λ g. (g.0, merged g.1))

  module _ (one : (a b : K) → same a b ≡ true → a ≡ b) (grows : (xs : List A) (x : A) → merged (xs ++ x ∷ []) ≡ more (merged xs) x) where
    symmetric : (a b : K) (p q : Bool) → same a b ≡ p → same b a ≡ q → p ≡ q
    symmetric a b true q e f = sym (sym f ∙ ((λ i. same (sym (one a b e) i) (one a b e i)) ∙ e))
    symmetric a b false true e f = sym e ∙ ((λ i. same (sym (one b a f) i) (one b a f i)) ∙ f)
    symmetric a b false false e f = refl

    pub turned : (a b : K) → same a b ≡ same b a
    turned a b = symmetric a b (same a b) (same b a) refl refl

    -- others of merged entries
    others_merged : (k : K) (gs : List (K × List A)) → all_merged (others same k gs) ≡ others same k (all_merged gs)
    others_merged k [] = refl
    others_merged k (g ∷ gs) = by (same k g.0) refl (others_merged k gs)
      where
        by : (b : Bool) → same k g.0 ≡ b → all_merged (others same k gs) ≡ others same k (all_merged gs) →
            all_merged (others same k (g ∷ gs)) ≡ others same k (all_merged (g ∷ gs))
        by true e rest = rw e rest
        by false e rest = rw e (ap (λ es. (g.0, merged g.1) ∷ es) rest)

    -- an item of the key changes none of the others
    others_same : (k : K) (x : A) (es : List (K × N)) → same k (key x) ≡ true → others same k (placed x es) ≡ others same k es
    others_same k x [] e = rw e refl
    others_same k x (g ∷ gs) e = by (same (key x) g.0) (same k g.0) refl refl (others_same k x gs e)
      where
        by : (b c : Bool) → same (key x) g.0 ≡ b → same k g.0 ≡ c → others same k (placed x gs) ≡ others same k gs →
            others same k (placed x (g ∷ gs)) ≡ others same k (g ∷ gs)
        by true true p q rest = rw (p, q) refl
        by true false p q rest = absurd (true≢false (sym p ∙ ((λ i. same (sym (one k (key x) e) i) g.0) ∙ q)))
        by false true p q rest = rw (p, q) rest
        by false false p q rest = rw (p, q) (ap (λ es. g ∷ es) rest)

    -- another item is placed among the others
    others_other : (k : K) (x : A) (es : List (K × N)) → same k (key x) ≡ false → others same k (placed x es) ≡ placed x (others same k es)
    others_other k x [] e = rw e refl
    others_other k x (g ∷ gs) e = by (same (key x) g.0) (same k g.0) refl refl (others_other k x gs e)
      where
        by : (b c : Bool) → same (key x) g.0 ≡ b → same k g.0 ≡ c → others same k (placed x gs) ≡ placed x (others same k gs) →
            others same k (placed x (g ∷ gs)) ≡ placed x (others same k (g ∷ gs))
        by true true p q rest = absurd (true≢false (sym q ∙ ((λ i. same k (sym (one (key x) g.0 p) i)) ∙ e)))
        by true false p q rest = rw (p, q) (rw p refl)
        by false true p q rest = rw (p, q) rest
        by false false p q rest = rw (p, q) (rw p (ap (λ es. g ∷ es) rest))

    -- the groups of one item more
    abbrev HasOneMore : List A → A → Type 0
    HasOneMore xs x = all_merged (grouped same key (xs ++ x ∷ [])) ≡ placed x (all_merged (grouped same key xs))

    abbrev front : A → List A → List (K × N) → List (K × N)
    front y zs es = (key y, merged (y ∷ zs)) ∷ es

    module _ (y : A) (ys : List A) (x : A) (rest : HasOneMore ys x) where
      abbrev behind : List (K × N)
      behind = all_merged (grouped same key ys)

      turned_rest : all_merged (others same (key y) (grouped same key (ys ++ x ∷ []))) ≡ others same (key y) (placed x behind)
      turned_rest = others_merged (key y) (grouped same key (ys ++ x ∷ [])) ∙ ap (others same (key y)) rest

      back : others same (key y) behind ≡ all_merged (others same (key y) (grouped same key ys))
      back = sym (others_merged (key y) (grouped same key ys))

      in_front : same (key y) (key x) ≡ true → HasOneMore (y ∷ ys) x
      in_front e =
          let zs : items_of same key (key y) (ys ++ x ∷ []) ≡ items_of same key (key y) ys ++ x ∷ [] =
          filter-append (λ z. same (key y) (key z)) ys (x ∷ []) ∙ ap (λ us. items_of same key (key y) ys ++ us) (rw e refl) in
          (λ i. front y (zs i) ((turned_rest ∙ (others_same (key y) x behind e ∙ back)) i))
          ∙ ((λ i. (key y, grows (y ∷ items_of same key (key y) ys) x i) ∷ all_merged (others same (key y) (grouped same key ys)))
          ∙ sym (rw (turned (key x) (key y) ∙ e) refl))

      further : same (key y) (key x) ≡ false → HasOneMore (y ∷ ys) x
      further e =
          let zs : items_of same key (key y) (ys ++ x ∷ []) ≡ items_of same key (key y) ys =
          filter-append (λ z. same (key y) (key z)) ys (x ∷ []) ∙ (ap (λ us. items_of same key (key y) ys ++ us) (rw e refl)
          ∙ append-nil (items_of same key (key y) ys)) in
          (λ i. front y (zs i) ((turned_rest ∙ (others_other (key y) x behind e ∙ ap (placed x) back)) i))
          ∙ sym (rw (turned (key x) (key y) ∙ e) refl)

      by_key : (b : Bool) → same (key y) (key x) ≡ b → HasOneMore (y ∷ ys) x
      by_key true e = in_front e
      by_key false e = further e

    pub one_item_more : (xs : List A) (x : A) → HasOneMore xs x
    one_item_more [] x = refl
    one_item_more (y ∷ ys) x = by_key y ys x (one_item_more ys x) (same (key y) (key x)) refl
