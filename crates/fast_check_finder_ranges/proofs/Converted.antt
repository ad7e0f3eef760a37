-- A map that is made of another, entry by entry.
use Rattle.std.proofs.Common.{◌≡◌, ◌∙◌, refl, sym, ap, subst, Bool, true, false, cond, ◌||◌, List, [], ◌∷◌, ◌++◌, Option, Some, None}
use Rattle.std.proofs.Common.{⊎_elim}
use Rattle.std.specs.Cmp.{IsTotalOrder}
use Rattle.std.specs.List.{list_any}
use Rattle.std.specs.Ordering.{eq_by_cmp}
use Rattle.std.specs.declared.cmp.Ordering.{Ordering}
use Rattle.std.specs.BTreeMap.{BTreeMap, is_at}
use Rattle.std.specs.BTreeMap as tree
use Rattle.std.specs.Map.{lookup, IsKeyTest}
use Rattle.std.proofs.lemmas.Bool.{cases_Bool, false≢true}
use Rattle.std.proofs.lemmas.List.Folds.{list_any-append}
use Rattle.fast_check_finder_ranges.proofs.Maps.{lookup_key, lookup_after}
use Rattle.fast_check_tables_packages.proofs.Found.{or_none}

-- a key of these entries passes the test
abbrev pub passes : {K X : Type 0} → (K → Bool) → List (K × X) → Bool
passes test es = list_any (λ e. test e.0) es

none_at : {X : Type 0} (b : Bool) (v o : Option X) (c : Bool) → (b || c) ≡ false → (c ≡ false → o ≡ None) → cond b v o ≡ None
none_at true v o c h g = absurd (false≢true (sym h))
none_at false v o c h g = g h

lookup_none : {K X : Type 0} (test : K → Bool) (es : List (K × X)) → passes test es ≡ false → lookup test es ≡ None
lookup_none test [] h = refl
lookup_none test (e ∷ es) h = none_at (test e.0) (Some e.1) (lookup test es) (passes test es) h (λ g. lookup_none test es g)

passes_more : {K X : Type 0} (test : K → Bool) (front : List (K × X)) (e : K × X) →
    passes test (front ++ e ∷ []) ≡ (passes test front || test e.0)
passes_more test front e = list_any-append (λ x. test x.0) front (e ∷ []) ∙ ap (λ b. passes test front || b) (or_none (test e.0))

module _ {K X Y Q : Type 0} {cmp : K → K → Ordering} (o : IsTotalOrder cmp) (test : Q → K → Bool)
    (one : (t : Q) → IsKeyTest (eq_by_cmp cmp) (test t))
    (R : Q → Option X → Option Y → Type 0) where
  -- of the keys so far the made map has what stands for what the source has, and nothing of others
  pub record IsConverted (source : List (K × X)) (front : List (K × X)) (made : List (K × Y)) : Type 0 where
    pub there : (t : Q) → passes (test t) front ≡ true → R t (lookup (test t) source) (lookup (test t) made)
    pub absent : (t : Q) → passes (test t) front ≡ false → lookup (test t) made ≡ None

  pub convert_none : (source : List (K × X)) (made : List (K × Y)) → made ≡ [] → IsConverted source [] made
  convert_none source made e = record {
    there = λ t h. absurd (false≢true h);
    absent = λ t h. ap (lookup (test t)) e;
  }

  or_split : (b c : Bool) → (b || c) ≡ true → c ≡ false → b ≡ true
  or_split true c h g = refl
  or_split false c h g = absurd (false≢true (sym g ∙ h))

  or_left : (b c : Bool) → (b || c) ≡ false → b ≡ false
  or_left true c h = absurd (false≢true (sym h))
  or_left false c h = refl

  or_right : (b c : Bool) → (b || c) ≡ false → c ≡ false
  or_right true c h = absurd (false≢true (sym h))
  or_right false c h = h

  pub convert_more : (source front : List (K × X)) (k : K) (x : X) (y : Y) (old new : BTreeMap K Y) →
      lookup (is_at (cmp k)) source ≡ Some x →
      tree.UpdatesBy cmp (cmp k) old new (Some y) → ((t : Q) → test t k ≡ true → R t (Some x) (Some y)) →
      IsConverted source front old.entries → IsConverted source (front ++ (k, x) ∷ []) new.entries
  convert_more source front k x y old new found u r h = record {
    there = λ t p. ⊎_elim
        (λ yes. subst (λ (a : Option X). R t a (lookup (test t) new.entries)) (sym (lookup_key o (test t) (one t) k source yes ∙ found))
        (subst (λ (b : Option Y). R t (Some x) b) (sym (lookup_after o (test t) (one t) k old new (Some y) u ∙
        ap (λ b. cond b (Some y) (lookup (test t) old.entries)) yes)) (r t yes)))
        (λ no. subst (λ (b : Option Y). R t (lookup (test t) source) b)
        (sym (lookup_after o (test t) (one t) k old new (Some y) u ∙ ap (λ b. cond b (Some y) (lookup (test t) old.entries)) no))
        (h.there t (or_split (passes (test t) front) (test t k) (sym (passes_more (test t) front (k, x)) ∙ p) no)))
        (cases_Bool (test t k));
    absent = λ t p.
        let q : (passes (test t) front || test t k) ≡ false = sym (passes_more (test t) front (k, x)) ∙ p in
        (lookup_after o (test t) (one t) k old new (Some y) u ∙
        ap (λ b. cond b (Some y) (lookup (test t) old.entries)) (or_right (passes (test t) front) (test t k) q))
        ∙ h.absent t (or_left (passes (test t) front) (test t k) q);
  }

  pub convert_all : (source front : List (K × X)) (made : List (K × Y)) → front ≡ source → ((t : Q) → R t None None) →
      IsConverted source front made →
      (t : Q) → R t (lookup (test t) source) (lookup (test t) made)
  convert_all source front made e n h t = ⊎_elim
      (λ yes. h.there t yes)
      (λ no. subst (λ (a : Option X). R t a (lookup (test t) made)) (sym (lookup_none (test t) source (ap (passes (test t)) (sym e) ∙ no)))
      (subst (λ (b : Option Y). R t None b) (sym (h.absent t no)) (n t)))
      (cases_Bool (passes (test t) front))
