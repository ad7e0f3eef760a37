-- A tree stays one where All is written, and where another tree is put under a name.
use Rattle.std.proofs.Common.{◌≡◌, ◌∙◌, sym, ap, refl, subst, ⊎_elim, inl, inr, ◌⊎◌, ℕ, ◌+◌, ◌-◌, ◌<◌, ◌≤◌, true, false, ◌&&◌, cond, eqb}
use Rattle.std.proofs.Common.{[], ◌∷◌, Option, Some, None, arith}
use Rattle.std.specs.Str.{bytes_eq}
use Rattle.std.proofs.lemmas.Bool.{false≢true, cases_lt, eq-eqb}
use Rattle.std.proofs.lemmas.Bool.Decides.{eqb_tells}
use Rattle.fast_check_finder_lattice.specs.declared.lattice.node.NodeNo.{NodeNo}
use Rattle.fast_check_finder_lattice.specs.declared.lattice.node.Below.{Below}
use Rattle.fast_check_finder_lattice.specs.declared.lattice.node.Below.TheVariants.{All, Subset}
use Rattle.fast_check_finder_lattice.specs.Graph.{Path, Part, Graph, reach, rooted, subset_of, HasParent, IsTree, moved}
use Rattle.fast_check_finder_lattice.specs.Order.{Name}
use Rattle.fast_check_finder_lattice.proofs.Walks.{name_shows, parent_of, all_no_subset, none_no_subset, subset_is, no_is}
use Rattle.fast_check_finder_lattice.proofs.Compacted.{moved_back}

-- under the name, or elsewhere
pub at_or_not : (k at : ℕ) (name n : Name) → ((k ≡ at) × (name ≡ n) × ((eqb k at && bytes_eq name n) ≡ true)) ⊎
    ((eqb k at && bytes_eq name n) ≡ false)
at_or_not k at name n = ⊎_elim
    (λ (s : (eqb k at ≡ true) × (k ≡ at)). ⊎_elim
    (λ (d : (bytes_eq name n ≡ true) × (name ≡ n)). inl (s.1, d.1, ap (λ b. b && bytes_eq name n) s.0 ∙ d.0))
    (λ (d : (bytes_eq name n ≡ false) × (name ≡ n → ⊥)). inr (ap (λ b. b && bytes_eq name n) s.0 ∙ d.0))
    (name_shows name n))
    (λ (s : (eqb k at ≡ false) × (k ≡ at → ⊥)). inr (ap (λ b. b && bytes_eq name n) s.0))
    (eqb_tells k at)

-- All is written where no subset stands
module _ (g w : Graph) (size at : ℕ) (name : Name) (tree : IsTree g size)
    (low : (k : ℕ) (n : Name) → w k n ≡ cond (eqb k at && bytes_eq name n) (Some All) (g k n))
    (free : (j : NodeNo) → g at name ≡ Some (Subset j) → ⊥) where
  was : (k : ℕ) (n : Name) (j : NodeNo) → w k n ≡ Some (Subset j) → g k n ≡ Some (Subset j)
  was k n j e = ⊎_elim
      (λ (s : (k ≡ at) × (name ≡ n) × ((eqb k at && bytes_eq name n) ≡ true)).
      absurd (all_no_subset j (sym (low k n ∙ ap (λ b. cond b (Some All) (g k n)) s.2) ∙ e)))
      (λ s. sym (low k n ∙ ap (λ b. cond b (Some All) (g k n)) s) ∙ e)
      (at_or_not k at name n)

  stays : (k : ℕ) (n : Name) (j : NodeNo) → g k n ≡ Some (Subset j) → w k n ≡ Some (Subset j)
  stays k n j e = ⊎_elim
      (λ (s : (k ≡ at) × (name ≡ n) × ((eqb k at && bytes_eq name n) ≡ true)).
      absurd (free j (subst (λ (i : ℕ). g i name ≡ Some (Subset j)) s.0 (subst (λ (m : Name). g k m ≡ Some (Subset j)) (sym s.1) e))))
      (λ s. low k n ∙ (ap (λ b. cond b (Some All) (g k n)) s ∙ e))
      (at_or_not k at name n)

  pub tree_all : IsTree w size
  tree_all = record {
    later = λ k n j e. tree.later k n j (was k n j e);
    once = λ k n l m j e f. tree.once k n l m j (was k n j e) (was l m j f);
    parent = λ j a b. let p = parent_of g size tree j a b in ∣ (p.0, stays p.0.0 p.0.1 (record { 0 = j }) p.1) ∣₁;
  }

-- Another tree stands behind, and is put under a name that had nothing.
module _ (g s w : Graph) (size count at : ℕ) (name : Name) (tree : IsTree g size) (sub : IsTree s count) (some : 0 < count)
    (within : at < size)
    (free : g at name ≡ None)
    (low : (k : ℕ) (n : Name) → k < size → w k n ≡ cond (eqb k at && bytes_eq name n) (Some (Subset (record { 0 = size }))) (g k n))
    (high : (k : ℕ) (n : Name) → w (size + k) n ≡ moved (λ m. size + m) (s k n)) where
  record IsOld (k : ℕ) (n : Name) (j : NodeNo) : Type 0 where
    here : k < size
    was : g k n ≡ Some (Subset j)

  record IsLink (k : ℕ) (n : Name) (j : NodeNo) : Type 0 where
    node : k ≡ at
    name_is : name ≡ n
    first : j.0 ≡ size

  record IsNew (k : ℕ) (n : Name) (j : NodeNo) : Type 0 where
    at_sub : ℕ
    node : k ≡ size + at_sub
    to_sub : NodeNo
    was : s at_sub n ≡ Some (Subset to_sub)
    to : j.0 ≡ size + to_sub.0

  refers : (k : ℕ) (n : Name) (j : NodeNo) → w k n ≡ Some (Subset j) → IsOld k n j ⊎ (IsLink k n j ⊎ IsNew k n j)
  refers k n j e = ⊎_elim
      (λ (below : k < size). ⊎_elim
      (λ (t : (k ≡ at) × (name ≡ n) × ((eqb k at && bytes_eq name n) ≡ true)). inr (inl (record {
        node = t.0;
        name_is = t.1;
        first = ap (λ (x : NodeNo). x.0) (sym (subset_is (record { 0 = size }) j
            (sym (low k n below ∙ ap (λ b. cond b (Some (Subset (record { 0 = size }))) (g k n)) t.2) ∙ e)));
      })))
      (λ t. inl (record { here = below; was = sym (low k n below ∙ ap (λ b. cond b (Some (Subset (record { 0 = size }))) (g k n)) t) ∙ e }))
      (at_or_not k at name n))
      (λ (above : size ≤ k).
      let is : k ≡ size + (k - size) = omega arith in
      let b = moved_back (λ m. size + m) (s (k - size) n) j (sym (high (k - size) n) ∙ (ap (λ i. w i n) (sym is) ∙ e)) in
      inr (inr (record { at_sub = k - size; node = is; to_sub = b.0; was = b.1; to = b.2 })))
      (cases_lt k size)

  later_by : (k : ℕ) (n : Name) (j : NodeNo) → IsOld k n j ⊎ (IsLink k n j ⊎ IsNew k n j) → (k < j.0) × (j.0 < size + count)
  later_by k n j (inl o) = let l = tree.later k n j o.was in (l.0, omega (arith, l.1))
  later_by k n j (inr (inl o)) = (omega (arith, o.node, o.first, within), omega (arith, o.first, some))
  later_by k n j (inr (inr o)) = let l = sub.later o.at_sub n o.to_sub o.was in (omega (arith, l.0, o.node, o.to), omega (arith, l.1, o.to))

  once_by : (k : ℕ) (n : Name) (l : ℕ) (m : Name) (j : NodeNo) → IsOld k n j ⊎ (IsLink k n j ⊎ IsNew k n j) → IsOld l m j ⊎
      (IsLink l m j ⊎ IsNew l m j) →
      (k ≡ l) × (n ≡ m)
  once_by k n l m j (inl o) (inl p) = tree.once k n l m j o.was p.was
  once_by k n l m j (inl o) (inr (inl p)) = let r = tree.later k n j o.was in absurd (omega (arith, r.1, p.first))
  once_by k n l m j (inl o) (inr (inr p)) = let r = tree.later k n j o.was in absurd (omega (arith, r.1, p.to))
  once_by k n l m j (inr (inl o)) (inl p) = let r = tree.later l m j p.was in absurd (omega (arith, r.1, o.first))
  once_by k n l m j (inr (inl o)) (inr (inl p)) = (o.node ∙ sym p.node, sym o.name_is ∙ p.name_is)
  once_by k n l m j (inr (inl o)) (inr (inr p)) = let r = sub.later p.at_sub m p.to_sub p.was in absurd (omega (arith, r.0, o.first, p.to))
  once_by k n l m j (inr (inr o)) (inl p) = let r = tree.later l m j p.was in absurd (omega (arith, r.1, o.to))
  once_by k n l m j (inr (inr o)) (inr (inl p)) = let r = sub.later o.at_sub n o.to_sub o.was in absurd (omega (arith, r.0, p.first, o.to))
  once_by k n l m j (inr (inr o)) (inr (inr p)) =
      let same : o.to_sub ≡ p.to_sub = no_is o.to_sub p.to_sub (omega (arith, o.to, p.to)) in
      let r = sub.once o.at_sub n p.at_sub m p.to_sub (subst (λ (x : NodeNo). s o.at_sub n ≡ Some (Subset x)) same o.was) p.was in
      (o.node ∙ (ap (λ i. size + i) r.0 ∙ sym p.node), r.1)

  old_parent : (k : ℕ) (n : Name) (j : NodeNo) → k < size → g k n ≡ Some (Subset j) → w k n ≡ Some (Subset j)
  old_parent k n j h e = ⊎_elim
      (λ (t : (k ≡ at) × (name ≡ n) × ((eqb k at && bytes_eq name n) ≡ true)).
      absurd (none_no_subset j
      (sym free ∙ subst (λ (i : ℕ). g i name ≡ Some (Subset j)) t.0 (subst (λ (m : Name). g k m ≡ Some (Subset j)) (sym t.1) e))))
      (λ t. low k n h ∙ (ap (λ b. cond b (Some (Subset (record { 0 = size }))) (g k n)) t ∙ e))
      (at_or_not k at name n)

  link : w at name ≡ Some (Subset (record { 0 = size }))
  link = low at name within ∙ ⊎_elim
      (λ (t : (at ≡ at) × (name ≡ name) × ((eqb at at && bytes_eq name name) ≡ true)). ap
      (λ b. cond b (Some (Subset (record { 0 = size }))) (g at name)) t.2)
      (λ t. absurd (false≢true (sym t ∙ (ap (λ b. b && bytes_eq name name) (eq-eqb at at refl) ∙ same_name)))) (at_or_not at at name name)
    where
      same_name : bytes_eq name name ≡ true
      same_name = ⊎_elim (λ (d : (bytes_eq name name ≡ true) × (name ≡ name)). d.0)
          (λ (d : (bytes_eq name name ≡ false) × (name ≡ name → ⊥)). absurd (d.1 refl)) (name_shows name name)

  parent_there : (j : ℕ) → 0 < j → j < size + count → HasParent w j
  parent_there j a b = ⊎_elim
      (λ (low_j : j < size). let p = parent_of g size tree j a low_j in
      let l = tree.later p.0.0 p.0.1 (record { 0 = j }) p.1 in
      (p.0, old_parent p.0.0 p.0.1 (record { 0 = j }) (omega (arith, l.0, l.1)) p.1))
      (λ (high_j : size ≤ j). ⊎_elim
      (λ (e : (eqb j size ≡ true) × (j ≡ size)). ((at, name), link ∙ ap (λ i. Some (Subset (record { 0 = i }))) (sym e.1)))
      (λ (e : (eqb j size ≡ false) × (j ≡ size → ⊥)).
      let more : 0 < j - size = ⊎_elim (λ (z : j < size + 1). absurd (e.1 (omega arith))) (λ (z : size + 1 ≤ j). omega arith)
      (cases_lt j (size + 1)) in
      let p = parent_of s count sub (j - size) more (omega arith) in (
        (size + p.0.0, p.0.1),
        high p.0.0 p.0.1 ∙
            (ap (moved (λ m. size + m)) p.1 ∙ ap (λ i. Some (Subset (record { 0 = i })))
            (let back : size + (j - size) ≡ j = omega arith in back)),
      ))
      (eqb_tells j size))
      (cases_lt j size)

  pub tree_grafted : IsTree w (size + count)
  tree_grafted = record {
    later = λ k n j e. later_by k n j (refers k n j e);
    once = λ k n l m j e f. once_by k n l m j (refers k n j e) (refers l m j f);
    parent = λ j a b. ∣ parent_there j a b ∣₁;
  }

  -- the paths below the other tree are as they were
  shifted : (o : Option Below) (part : Part) (q : Path) → reach w (moved (λ m. size + m) o) part q ≡ reach s o part q
  shifted None part [] = refl
  shifted (Some All) part [] = refl
  shifted (Some (Subset j)) part [] = refl
  shifted None part (n ∷ q) = refl
  shifted (Some All) part (n ∷ q) = refl
  shifted (Some (Subset j)) part (n ∷ q) = ap (λ o. reach w o part q) (high j.0 n) ∙ shifted (s j.0 n) part q

  pub grafted : (part : Part) (q : Path) → reach w (Some (Subset (record { 0 = size }))) part q ≡ subset_of (rooted s) part q
  grafted part [] = refl
  grafted part (n ∷ q) = ap (λ i. reach w (w i n) part q) (let is : size ≡ size + 0 = omega arith in is)
      ∙ (ap (λ o. reach w o part q) (high 0 n) ∙ shifted (s 0 n) part q)
