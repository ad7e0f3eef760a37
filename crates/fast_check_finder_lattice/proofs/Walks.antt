-- What a write at one node does to the paths below the others.
use Rattle.std.proofs.Common.{◌≡◌, ◌∙◌, sym, ap, refl, subst, ⊎_elim, inl, inr, ◌⊎◌, ℕ, ◌<◌, ◌≤◌, Bool, true, false, ◌&&◌, ◌||◌, cond, eqb}
use Rattle.std.proofs.Common.{[], ◌∷◌, Option, Some, None, arith}
use Rattle.std.specs.Str.{bytes_eq}
use Rattle.std.proofs.Props.{props}
use Rattle.std.proofs.Math.Logic.{∥∥₁_elim}
use Rattle.std.proofs.lemmas.Bool.{false≢true, cases_Bool, eq-eqb, ne_eqb}
use Rattle.std.proofs.lemmas.Bool.Decides.{eqb_tells}
use Rattle.std.proofs.lemmas.Slice.Eq.{bytes_eq-Decides}
use Rattle.fast_check_finder_lattice.specs.declared.lattice.node.NodeNo.{NodeNo}
use Rattle.fast_check_finder_lattice.specs.declared.lattice.node.Below.{Below}
use Rattle.fast_check_finder_lattice.specs.declared.lattice.node.Below.TheVariants.{All, Subset}
use Rattle.fast_check_finder_lattice.specs.Graph.{Path, Part, is_touched, NameSet, Graph, ends, reach, HasParent, IsTree, IsForest, IsAfter, passes, through}
use Rattle.fast_check_finder_lattice.specs.Order.{Name}

pub or_false : (b : Bool) → b ≡ (b || false)
or_false true = refl
or_false false = refl

pub or_itself : (b : Bool) → b ≡ (b || b)
or_itself true = refl
or_itself false = refl

pub none_some : {X : Type 0} (x : X) → None ≡ Some x → ⊥
none_some x e = cc

pub none_no_subset : (j : NodeNo) → None ≡ Some (Subset j) → ⊥
none_no_subset j e = cc

pub all_no_subset : (j : NodeNo) → Some All ≡ Some (Subset j) → ⊥
all_no_subset j e = cc

pub subset_is : (i j : NodeNo) → Some (Subset i) ≡ Some (Subset j) → i ≡ j
subset_is i j e = cc

pub no_is : (i j : NodeNo) → i.0 ≡ j.0 → i ≡ j
no_is i j e k = record { 0 = e k }

pub name_shows : (n m : Name) → ((bytes_eq n m ≡ true) × (n ≡ m)) ⊎ ((bytes_eq n m ≡ false) × (n ≡ m → ⊥))
name_shows n m = ⊎_elim
    (λ t. inl (t, (bytes_eq-Decides n m).0 t))
    (λ f. inr (f, λ e. false≢true (sym f ∙ (bytes_eq-Decides n m).1 e)))
    (cases_Bool (bytes_eq n m))

-- the one name under which a node is listed
pub parent_of : (g : Graph) (size : ℕ) → IsTree g size → (j : ℕ) → 0 < j → j < size → HasParent g j
parent_of g size tree j low high = ∥∥₁_elim (tree.parent j low high) one (λ p. p)
  where
    is : (p : ℕ × Name) → IsProp (g p.0 p.1 ≡ Some (Subset (record { 0 = j })))
    is p = hlevel props

    one : IsProp (HasParent g j)
    one a b =
        let same = tree.once a.0.0 a.0.1 b.0.0 b.0.1 (record { 0 = j }) a.1 b.1 in
        let e : a.0 ≡ b.0 = λ i. (same.0 i, same.1 i) in
        let P : ℕ × Name → Type 0 = λ p. (d : g p.0 p.1 ≡ Some (Subset (record { 0 = j }))) → a ≡ (p, d) in
        subst P e (λ d i. (a.0, is a.0 a.1 d i)) b.1

pub passes_false : (o : Option Below) (f : ℕ → Bool) → ((j : NodeNo) → o ≡ Some (Subset j) → f j.0 ≡ false) → passes o f ≡ false
passes_false None f h = refl
passes_false (Some All) f h = refl
passes_false (Some (Subset j)) f h = h j refl

after_by : (at size : ℕ) (o : Option Below) → ((j : NodeNo) → o ≡ Some (Subset j) → (at < j.0) × (j.0 < size)) → IsAfter at size o
after_by at size None h = tt
after_by at size (Some All) h = tt
after_by at size (Some (Subset j)) h = h j refl

pub forest_after : (g : Graph) (size : ℕ) → IsForest g size → (at k : ℕ) (n : Name) → at ≤ k → IsAfter at size (g k n)
forest_after g size forest at k n h = after_by at size (g k n) (λ j e. let l = forest.later k n j e in (omega (arith, l.0, h), l.1))

-- a tree is a forest
pub forest_of : (g : Graph) (size : ℕ) → IsTree g size → IsForest g size
forest_of g size tree = record { later = tree.later; once = tree.once }

pub is_after : (g : Graph) (size : ℕ) → IsTree g size → (at k : ℕ) (n : Name) → at ≤ k → IsAfter at size (g k n)
is_after g size tree at k n h = forest_after g size (forest_of g size tree) at k n h

-- One node is written, and no other.
module _ (g w : Graph) (size at : ℕ) (tree : IsTree g size) (other : (k : ℕ) (n : Name) → k < size → (k ≡ at → ⊥) → w k n ≡ g k n) where
  -- what stands later is as it was
  pub after : (o : Option Below) → IsAfter at size o → (part : Part) (q : Path) → reach w o part q ≡ reach g o part q
  after o h part [] = refl
  after None h part (n ∷ q) = refl
  after (Some All) h part (n ∷ q) = refl
  after (Some (Subset j)) h part (n ∷ q) =
      ap (λ o. reach w o part q) (other j.0 n h.1 (λ e. omega (arith, e, h.0)))
      ∙ after (g j.0 n) (is_after g size tree at j.0 n (omega (arith, h.0))) part q

  other_nil : (o : Option Below) (part : Part) → ends o part ≡ (ends o part || passes o (λ j. false))
  other_nil None part = refl
  other_nil (Some All) part = refl
  other_nil (Some (Subset j)) part = or_false (is_touched part)

  module _ (f : NameSet) (gain : (k : ℕ) (n : Name) (part : Part) (q : Path) → k < size → k ≡ at →
      reach w (w k n) part q ≡ (reach g (g k n) part q || f part (n ∷ q))) where
    other_cons : (o : Option Below) (part : Part) (m : Name) (q : Path) → IsAfter 0 size o →
        ((j : ℕ) → j < size → reach w (w j m) part q ≡ (reach g (g j m) part q || through g at f j part (m ∷ q))) →
        reach w o part (m ∷ q) ≡ (reach g o part (m ∷ q) || passes o (λ j. through g at f j part (m ∷ q)))
    other_cons None part m q h rest = refl
    other_cons (Some All) part m q h rest = refl
    other_cons (Some (Subset j)) part m q h rest = rest j.0 h.1

    step : (k : ℕ) → k < size → (n : Name) (part : Part) (q : Path) →
        reach w (g k n) part q ≡ (reach g (g k n) part q || passes (g k n) (λ j. through g at f j part q)) →
        reach w (w k n) part q ≡ (reach g (g k n) part q || through g at f k part (n ∷ q))
    step k h n part q by_other = ⊎_elim
        (λ (s : (eqb k at ≡ true) × (k ≡ at)). gain k n part q h s.1
        ∙ ap (λ b. reach g (g k n) part q || cond b (f part (n ∷ q)) (passes (g k n) (λ j. through g at f j part q))) (sym s.0))
        (λ (s : (eqb k at ≡ false) × (k ≡ at → ⊥)). ap (λ o. reach w o part q) (other k n h s.1) ∙ (by_other
        ∙ ap (λ b. reach g (g k n) part q || cond b (f part (n ∷ q)) (passes (g k n) (λ j. through g at f j part q))) (sym s.0)))
        (eqb_tells k at)

    -- the paths below each node gain those that go on from the one that is written
    pub grown_by : (k : ℕ) → k < size → (n : Name) (part : Part) (q : Path) →
        reach w (w k n) part q ≡ (reach g (g k n) part q || through g at f k part (n ∷ q))
    grown_by k h n part [] = step k h n part [] (other_nil (g k n) part)
    grown_by k h n part (m ∷ q) = step k h n part (m ∷ q)
        (other_cons (g k n) part m q (is_after g size tree 0 k n (omega arith)) (λ j l. grown_by j l m part q))

-- Under one name, z stands in place of what stood there.
module _ (g w : Graph) (size at : ℕ) (name : Name) (z : Option Below) (F f : NameSet) (tree : IsTree g size)
    (low : (k : ℕ) (n : Name) → k < size → w k n ≡ cond (eqb k at && bytes_eq name n) z (g k n))
    (f_is : (part : Part) (x : Name) (q : Path) → f part (x ∷ q) ≡ (bytes_eq name x && F part q))
    (gain : (part : Part) (q : Path) → reach w z part q ≡ (reach g (g at name) part q || F part q)) where
  other_node : (k : ℕ) (n : Name) → k < size → (k ≡ at → ⊥) → w k n ≡ g k n
  other_node k n h d = low k n h ∙ ap (λ b. cond (b && bytes_eq name n) z (g k n)) (ne_eqb k at d)

  at_node : (k : ℕ) (n : Name) → k < size → k ≡ at → w k n ≡ cond (bytes_eq name n) z (g k n)
  at_node k n h e = low k n h ∙ ap (λ b. cond (b && bytes_eq name n) z (g k n)) (eq-eqb k at e)

  gained : (k : ℕ) (n : Name) (part : Part) (q : Path) → k < size → k ≡ at →
      reach w (w k n) part q ≡ (reach g (g k n) part q || f part (n ∷ q))
  gained k n part q h e = ⊎_elim
      (λ (d : (bytes_eq name n ≡ true) × (name ≡ n)).
      ap (λ o. reach w o part q) (at_node k n h e ∙ ap (λ b. cond b z (g k n)) d.0) ∙ (gain part q
      ∙ (subst (λ (i : ℕ). (reach g (g at name) part q || F part q) ≡ (reach g (g i name) part q || F part q)) (sym e) refl
      ∙ (subst (λ (m : Name). (reach g (g k name) part q || F part q) ≡ (reach g (g k m) part q || F part q)) d.1 refl
      ∙ (ap (λ b. reach g (g k n) part q || (b && F part q)) (sym d.0) ∙ ap (λ b. reach g (g k n) part q || b) (sym (f_is part n q)))))))
      (λ (d : (bytes_eq name n ≡ false) × (name ≡ n → ⊥)).
      ap (λ o. reach w o part q) (at_node k n h e ∙ ap (λ b. cond b z (g k n)) d.0)
      ∙ (after g w size at tree other_node (g k n) (is_after g size tree at k n (omega (arith, e))) part q
      ∙ (or_false (reach g (g k n) part q)
      ∙ (ap (λ b. reach g (g k n) part q || (b && F part q)) (sym d.0) ∙ ap (λ b. reach g (g k n) part q || b) (sym (f_is part n q))))))
      (name_shows name n)

  pub grown : (k : ℕ) → k < size → (n : Name) (part : Part) (q : Path) →
      reach w (w k n) part q ≡ (reach g (g k n) part q || through g at f k part (n ∷ q))
  grown = grown_by g w size at tree other_node f gained

-- One step further down.
module _ (g : Graph) (size : ℕ) (tree : IsTree g size) (at : ℕ) (n : Name) (next : NodeNo) (link : g at n ≡ Some (Subset next))
    (f h : NameSet)
    (f_ends : (part : Part) → f part [] ≡ is_touched part)
    (h_is : (part : Part) (x : Name) (q : Path) → h part (x ∷ q) ≡ (bytes_eq n x && f part q)) where
  past : (j : ℕ) → at < j → (j ≡ next.0 → ⊥) → (part : Part) (q : Path) → through g next.0 f j part q ≡ false
  past j a d part [] = refl
  past j a d part (m ∷ q) =
      ap (λ b. cond b (f part (m ∷ q)) (passes (g j m) (λ i. through g next.0 f i part q))) (ne_eqb j next.0 d)
      ∙ passes_false (g j m) (λ i. through g next.0 f i part q) (λ i e.
      let l = tree.later j m i e in
      past i.0 (omega (arith, l.0, a))
      (λ same. let o = tree.once j m at n next (subst (λ (x : NodeNo). g j m ≡ Some (Subset x)) (no_is i next same) e) link in omega
      (arith, o.0, a)) part q)

  ended : (part : Part) (q : Path) → (reach g (Some (Subset next)) part q || through g next.0 f next.0 part q) ≡
      (reach g (Some (Subset next)) part q || f part q)
  ended part [] = sym (or_false (is_touched part)) ∙ (or_itself (is_touched part) ∙ ap (λ b. is_touched part || b) (sym (f_ends part)))
  ended part (x ∷ q) =
      ap (λ b. reach g (Some (Subset next)) part (x ∷ q) || cond b (f part (x ∷ q))
      (passes (g next.0 x) (λ j. through g next.0 f j part q)))
      (eq-eqb next.0 next.0 refl)

  further : (o : Option Below) (part : Part) (x : Name) (q : Path) →
      ((j : NodeNo) → o ≡ Some (Subset j) → (reach g (g j.0 x) part q || through g next.0 f j.0 part (x ∷ q)) ≡
      (reach g (g j.0 x) part q || through g at h j.0 part (x ∷ q))) →
      (reach g o part (x ∷ q) || passes o (λ j. through g next.0 f j part (x ∷ q))) ≡
      (reach g o part (x ∷ q) || passes o (λ j. through g at h j part (x ∷ q)))
  further None part x q e = refl
  further (Some All) part x q e = refl
  further (Some (Subset j)) part x q e = e j refl

  -- the case that the node is not the one at which the step is made
  aside : (k : ℕ) → (k ≡ next.0 → ⊥) → (m : Name) (part : Part) (q : Path) →
      ((k ≡ at → ⊥) → (reach g (g k m) part q || passes (g k m) (λ j. through g next.0 f j part q)) ≡
      (reach g (g k m) part q || passes (g k m) (λ j. through g at h j part q))) →
      (reach g (g k m) part q || through g next.0 f k part (m ∷ q)) ≡ (reach g (g k m) part q || through g at h k part (m ∷ q))
  aside k d m part q by_other =
      ap (λ b. reach g (g k m) part q || cond b (f part (m ∷ q)) (passes (g k m) (λ j. through g next.0 f j part q))) (ne_eqb k next.0 d) ∙
      (⊎_elim
      (λ (s : (eqb k at ≡ true) × (k ≡ at)).
      ⊎_elim
      (λ (t : (bytes_eq n m ≡ true) × (n ≡ m)).
      let found : g k m ≡ Some (Subset next) = subst (λ (y : Name). g k y ≡ Some (Subset next)) t.1
      (subst (λ (i : ℕ). g i n ≡ Some (Subset next)) (sym s.1) link) in
      ap (λ o. reach g o part q || passes o (λ j. through g next.0 f j part q)) found
      ∙ (ended part q
      ∙ (ap (λ o. reach g o part q || f part q) (sym found)
      ∙ (ap (λ b. reach g (g k m) part q || (b && f part q)) (sym t.0) ∙ ap (λ b. reach g (g k m) part q || b) (sym (h_is part m q))))))
      (λ (t : (bytes_eq n m ≡ false) × (n ≡ m → ⊥)).
      ap (λ b. reach g (g k m) part q || b) (passes_false (g k m) (λ j. through g next.0 f j part q) (λ i e.
      let l = tree.later k m i e in
      past i.0 (omega (arith, l.0, s.1))
      (λ same. t.1 (sym (tree.once k m at n next (subst (λ (x : NodeNo). g k m ≡ Some (Subset x)) (no_is i next same) e) link).1)) part q)
      ∙ (ap (λ b. b && f part q) (sym t.0) ∙ sym (h_is part m q))))
      (name_shows n m)
      ∙ ap (λ b. reach g (g k m) part q || cond b (h part (m ∷ q)) (passes (g k m) (λ j. through g at h j part q))) (sym s.0))
      (λ (s : (eqb k at ≡ false) × (k ≡ at → ⊥)).
      by_other s.1
      ∙ ap (λ b. reach g (g k m) part q || cond b (h part (m ∷ q)) (passes (g k m) (λ j. through g at h j part q))) (sym s.0))
      (eqb_tells k at))

  pub descends : (k : ℕ) → (k ≡ next.0 → ⊥) → (m : Name) (part : Part) (q : Path) →
      (reach g (g k m) part q || through g next.0 f k part (m ∷ q)) ≡ (reach g (g k m) part q || through g at h k part (m ∷ q))
  descends k d m part [] = aside k d m part [] (λ o. refl)
  descends k d m part (x ∷ q) = aside k d m part (x ∷ q) (λ o. further (g k m) part x q (λ j e.
      descends j.0
      (λ same. o (tree.once k m at n next (subst (λ (y : NodeNo). g k m ≡ Some (Subset y)) (no_is j next same) e) link).0) x part q))
