-- Nodes that the root does not reach are taken out: the others take their places, and their numbers go with them.
use Rattle.std.proofs.Common.{◌≡◌, ◌∙◌, sym, ap, refl, ⊎_elim, ℕ, ◌<◌, ◌≤◌, Bool, true, [], ◌∷◌, Option, Some, None, arith}
use Rattle.std.proofs.lemmas.Bool.{cases_lt}
use Rattle.fast_check_finder_lattice.specs.declared.lattice.node.NodeNo.{NodeNo}
use Rattle.fast_check_finder_lattice.specs.declared.lattice.node.Below.{Below}
use Rattle.fast_check_finder_lattice.specs.declared.lattice.node.Below.TheVariants.{All, Subset}
use Rattle.fast_check_finder_lattice.specs.Order.{Name}
use Rattle.fast_check_finder_lattice.specs.Graph.{Graph, moved, Part, Path, ends, reach, rooted, IsTree}
use Rattle.fast_check_finder_lattice.proofs.Walks.{none_no_subset, all_no_subset, subset_is, no_is}

-- w has the live nodes of g, under the numbers that `to` gives them
pub record IsCompacted (g : Graph) (size : ℕ) (live : ℕ → Bool) (to : ℕ → ℕ) (w : Graph) (count : ℕ) : Type 0 where
  -- of g: a node refers to later ones alone, and none is referred to twice
  pub later : (k : ℕ) (n : Name) (j : NodeNo) → g k n ≡ Some (Subset j) → (k < j.0) × (j.0 < size)
  pub once : (k : ℕ) (n : Name) (l : ℕ) (m : Name) (j : NodeNo) → g k n ≡ Some (Subset j) → g l m ≡ Some (Subset j) → (k ≡ l) × (n ≡ m)
  -- the root is live, and so are exactly the nodes that a live one refers to
  pub root : live 0 ≡ true
  pub children : (k : ℕ) (n : Name) (j : NodeNo) → live k ≡ true → g k n ≡ Some (Subset j) → live j.0 ≡ true
  pub parent : (j : ℕ) → 0 < j → j < size → live j ≡ true → (p : ℕ × Name) × (live p.0 ≡ true) × (p.0 < size) ×
      (g p.0 p.1 ≡ Some (Subset (record { 0 = j })))
  -- the numbers are those from 0 on, each once, and a node has a lower one than those that it lists
  pub first : to 0 ≡ 0
  pub rises : (k : ℕ) (n : Name) (j : NodeNo) → live k ≡ true → live j.0 ≡ true → g k n ≡ Some (Subset j) → to k < to j.0
  pub one : (j k : ℕ) → j < size → k < size → live j ≡ true → live k ≡ true → to j ≡ to k → j ≡ k
  pub within : (k : ℕ) → k < size → live k ≡ true → to k < count
  pub onto : (m : ℕ) → m < count → (k : ℕ) × (k < size) × (live k ≡ true) × (to k ≡ m)
  -- what the nodes list
  pub keeps : (k : ℕ) (n : Name) → k < size → live k ≡ true → w (to k) n ≡ moved to (g k n)
  pub past : (m : ℕ) (n : Name) → count ≤ m → w m n ≡ None

-- what stands under another number, stood under one
pub moved_back : (to : ℕ → ℕ) (o : Option Below) (j : NodeNo) → moved to o ≡ Some (Subset j) → (l : NodeNo) × (o ≡ Some (Subset l)) ×
    (j.0 ≡ to l.0)
moved_back to None j e = absurd (none_no_subset j e)
moved_back to (Some All) j e = absurd (all_no_subset j e)
moved_back to (Some (Subset l)) j e = (l, refl, ap (λ (x : NodeNo). x.0) (sym (subset_is (record { 0 = to l.0 }) j e)))

module _ (g : Graph) (size : ℕ) (live : ℕ → Bool) (to : ℕ → ℕ) (w : Graph) (count : ℕ) (is : IsCompacted g size live to w count) where
  -- a reference comes from one between live nodes
  record IsFrom (m : ℕ) (n : Name) (j : NodeNo) : Type 0 where
    node : ℕ
    low : node < size
    node_live : live node ≡ true
    node_is : to node ≡ m
    next : NodeNo
    was : g node n ≡ Some (Subset next)
    next_live : live next.0 ≡ true
    next_is : j.0 ≡ to next.0

  from : (m : ℕ) (n : Name) (j : NodeNo) → w m n ≡ Some (Subset j) → IsFrom m n j
  from m n j e = ⊎_elim
      (λ (h : m < count).
      let k = is.onto m h in
      let b = moved_back to (g k.0 n) j (sym (is.keeps k.0 n k.1 k.2) ∙ (ap (λ i. w i n) k.3 ∙ e)) in
      record {
        node = k.0;
        low = k.1;
        node_live = k.2;
        node_is = k.3;
        next = b.0;
        was = b.1;
        next_live =
            is.children k.0 n b.0 k.2 b.1;
        next_is = b.2;
      })
      (λ (h : count ≤ m). absurd (none_no_subset j (sym (is.past m n h) ∙ e)))
      (cases_lt m count)

  pub tree_compacted : IsTree w count
  tree_compacted = record {
    later = λ m n j e.
        let f = from m n j e in
        let l = is.later f.node n f.next f.was in (
          omega (arith, is.rises f.node n f.next f.node_live f.next_live f.was, f.node_is, f.next_is),
          omega (arith, is.within f.next.0 l.1 f.next_live, f.next_is),
        );
    once = λ k n l m j e d.
        let a = from k n j e in
        let b = from l m j d in
        let same = is.one a.next.0 b.next.0 (is.later a.node n a.next a.was).1 (is.later b.node m b.next b.was).1 a.next_live b.next_live
        (sym a.next_is ∙ b.next_is) in
        let o = is.once a.node n b.node m b.next (a.was ∙ ap (λ (x : NodeNo). Some (Subset x)) (no_is a.next b.next same)) b.was in
        (sym a.node_is ∙ (ap to o.0 ∙ b.node_is), o.1);
    parent = λ j some high.
        let k = is.onto j high in
        let later : 0 < k.0 = ⊎_elim (λ (h : 0 < k.0). h)
        (λ (h : k.0 ≤ 0). let z : k.0 ≡ 0 = omega (arith, h) in absurd (omega (arith, some, ap to z, k.3, is.first))) (cases_lt 0 k.0) in
        let p = is.parent k.0 later k.1 k.2 in
        ∣ ((to p.0.0, p.0.1), is.keeps p.0.0 p.0.1 p.2 p.1 ∙ (ap (moved to) p.3 ∙ ap (λ i. Some (Subset (record { 0 = i }))) k.3)) ∣₁;
  }

  -- a subset at a live node
  abbrev IsLive : Option Below → Type 0
  IsLive None = Unit {0}
  IsLive (Some All) = Unit {0}
  IsLive (Some (Subset j)) = (live j.0 ≡ true) × (j.0 < size)

  live_by : (o : Option Below) → ((j : NodeNo) → o ≡ Some (Subset j) → (live j.0 ≡ true) × (j.0 < size)) → IsLive o
  live_by None h = tt
  live_by (Some All) h = tt
  live_by (Some (Subset j)) h = h j refl

  is_live : (k : ℕ) (n : Name) → live k ≡ true → IsLive (g k n)
  is_live k n a = live_by (g k n) (λ j e. (is.children k n j a e, (is.later k n j e).1))

  moved_ends : (o : Option Below) (part : Part) → ends (moved to o) part ≡ ends o part
  moved_ends None part = refl
  moved_ends (Some All) part = refl
  moved_ends (Some (Subset j)) part = refl

  moved_reach : (o : Option Below) → IsLive o → (part : Part) (q : Path) → reach w (moved to o) part q ≡ reach g o part q
  moved_reach o l part [] = moved_ends o part
  moved_reach None l part (n ∷ q) = refl
  moved_reach (Some All) l part (n ∷ q) = refl
  moved_reach (Some (Subset j)) l part (n ∷ q) = ap (λ o. reach w o part q) (is.keeps j.0 n l.1 l.0) ∙
      moved_reach (g j.0 n) (is_live j.0 n l.0) part q

  -- the paths below the root stay
  pub rooted_compacted : 0 < size → (part : Part) (p : Path) → rooted w part p ≡ rooted g part p
  rooted_compacted some part [] = refl
  rooted_compacted some part (n ∷ q) = ap (λ i. reach w (w i n) part q) (sym is.first) ∙
      (ap (λ o. reach w o part q) (is.keeps 0 n some is.root) ∙ moved_reach (g 0 n) (is_live 0 n is.root) part q)
