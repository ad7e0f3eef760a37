-- Two forests are joined in the order of a queue of pairs: g and h are the forests, at k is the pair at place k, and w is what is made.
use Rattle.std.proofs.Common.{◌≡◌, ◌∙◌, sym, ap, refl, subst, ⊎_elim, ◌⊎◌, inl, inr, ℕ, ◌+◌, ◌<◌, ◌≤◌, ◌-◌, Bool, true, false, ◌||◌, cond, ltb}
use Rattle.std.proofs.Common.{List, [], ◌∷◌, ◌++◌, Option, Some, None, arith, length}
use Rattle.std.proofs.Math.Bool.{or-true}
use Rattle.std.proofs.lemmas.Bool.{cases_lt, lt-ltb, le-ltb}
use Rattle.std.proofs.lemmas.List.{length-append}
use Rattle.fast_check_finder_lattice.specs.declared.lattice.node.Node.{Node}
use Rattle.fast_check_finder_lattice.specs.declared.lattice.node.NodeNo.{NodeNo}
use Rattle.fast_check_finder_lattice.specs.declared.lattice.node.Below.{Below}
use Rattle.fast_check_finder_lattice.specs.declared.lattice.node.Below.TheVariants.{All, Subset}
use Rattle.fast_check_finder_lattice.specs.declared.lattice.joins.Pair.{Pair}
use Rattle.fast_check_finder_lattice.specs.declared.lattice.joins.Both.{Both}
use Rattle.fast_check_finder_lattice.specs.declared.lattice.joins.Both.TheVariants.{Whole, Nodes}
use Rattle.fast_check_finder_lattice.specs.Order.{Name, found}
use Rattle.fast_check_finder_lattice.specs.Graph.{Graph, entry, Part, Path, is_touched, ends, reach, below_node, IsTree, IsForest, IsAfter}
use Rattle.fast_check_finder_lattice.specs.Names.{IsJoin}
use Rattle.fast_check_finder_lattice.specs.Pairs.{pair_at, both, with_pairs, IsMade}
use Rattle.fast_check_finder_lattice.proofs.Apart.{IsReferred, apart, count_upto}
use Rattle.fast_check_finder_lattice.proofs.Lists.{entry_front, entry_behind}
use Rattle.fast_check_finder_lattice.proofs.Made.{with_same, pair_front}
use Rattle.fast_check_finder_lattice.specs.EqualityProof.{none_is}
use Rattle.fast_check_finder_lattice.proofs.Walks.{or_false, or_itself, is_after, forest_after, none_no_subset}

-- of a queue of count pairs the first i are joined; a and b are no nodes of g and of h
pub record AreJoined (g h : Graph) (a b : ℕ) (start : Pair) (at : ℕ → Pair) (count i : ℕ) (w : Graph) : Type 0 where
  pub some : 0 < count
  pub within : i ≤ count
  pub first : at 0 ≡ start
  pub alike : (k : ℕ) (n : Name) → k < i → both a b (g (at k).first n) (h (at k).second n) ≡ with_pairs at (w k n)
  pub later : (k : ℕ) (n : Name) (j : NodeNo) → k < i → w k n ≡ Some (Subset j) → (k < j.0) × (j.0 < count)
  pub once : (k : ℕ) (n : Name) (l : ℕ) (m : Name) (j : NodeNo) → k < i → l < i → w k n ≡ Some (Subset j) → w l m ≡ Some (Subset j) →
      (k ≡ l) × (n ≡ m)
  pub parent : (j : ℕ) → 0 < j → j < count → (p : ℕ × Name) × (p.0 < i) × (w p.0 p.1 ≡ Some (Subset (record { 0 = j })))

-- the queue begins with one pair
pub none_joined : (g h : Graph) (a b : ℕ) (start : Pair) (at : ℕ → Pair) (w : Graph) → at 0 ≡ start → AreJoined g h a b start at 1 0 w
none_joined g h a b start at w first = record {
  some = omega arith;
  within = omega arith;
  first = first;
  alike = λ k n l. absurd (omega (arith, l));
  later = λ k n j l e. absurd (omega (arith, l));
  once = λ k n l m j s t e d. absurd (omega (arith, s));
  parent = λ j l s. absurd (omega (arith, l, s));
}

-- the next pair is joined, and the pairs that its node lists join the queue
module _ (g h w v : Graph) (a b i count long : ℕ) (start : Pair) (at to : ℕ → Pair) (are : AreJoined g h a b start at count i w)
    (next : i < count) (longer : count ≤ long)
    (kept : (k : ℕ) → k < count → to k ≡ at k)
    (front : (k : ℕ) (n : Name) → k < i → v k n ≡ w k n)
    (here : (n : Name) → both a b (g (to i).first n) (h (to i).second n) ≡ with_pairs to (v i n))
    (range : (n : Name) (j : NodeNo) → v i n ≡ Some (Subset j) → (count ≤ j.0) × (j.0 < long))
    (single : (n m : Name) (j : NodeNo) → v i n ≡ Some (Subset j) → v i m ≡ Some (Subset j) → n ≡ m)
    (listed : (j : ℕ) → count ≤ j → j < long → (n : Name) × (v i n ≡ Some (Subset (record { 0 = j })))) where
  upto : (k : ℕ) → k < i + 1 → (k < i) ⊎ (k ≡ i)
  upto k l = ⊎_elim (λ (s : k < i). inl s) (λ (s : i ≤ k). inr (omega (arith, s, l))) (cases_lt k i)

  turn : (k : ℕ) (n : Name) (j : NodeNo) → k ≡ i → v k n ≡ Some (Subset j) → v i n ≡ Some (Subset j)
  turn k n j s e = ap (λ m. v m n) (sym s) ∙ e

  earlier : (k : ℕ) (n : Name) (j : NodeNo) → k < i → v k n ≡ Some (Subset j) → w k n ≡ Some (Subset j)
  earlier k n j s e = sym (front k n s) ∙ e

  pub one_joined : AreJoined g h a b start to long (i + 1) v
  one_joined = record {
    some = let s = are.some in omega (arith, s, longer);
    within = omega (arith, next, longer);
    first = kept 0 are.some ∙ are.first;
    alike = λ k n l. ⊎_elim
        (λ (s : k < i).
        ap (λ (x : Pair). both a b (g x.first n) (h x.second n)) (kept k (omega (arith, s, next))) ∙ (are.alike k n s ∙
        (with_same at to (w k n) (λ j e. sym (kept j.0 (are.later k n j s e).1)) ∙ ap (with_pairs to) (sym (front k n s)))))
        (λ (s : k ≡ i).
        subst (λ (m : ℕ). both a b (g (to m).first n) (h (to m).second n) ≡ with_pairs to (v m n)) (sym s) (here n))
        (upto k l);
    later = λ k n j l e. ⊎_elim
        (λ (s : k < i). let r = are.later k n j s (earlier k n j s e) in (r.0, omega (arith, r.1, longer)))
        (λ (s : k ≡ i). let r = range n j (turn k n j s e) in (omega (arith, r.0, s, next), r.1))
        (upto k l);
    once = λ k n l m j s t e d. ⊎_elim
        (λ (p : k < i). ⊎_elim
        (λ (o : l < i). are.once k n l m j p o (earlier k n j p e) (earlier l m j o d))
        (λ (o : l ≡ i). absurd (omega (arith, (are.later k n j p (earlier k n j p e)).1, (range m j (turn l m j o d)).0)))
        (upto l t))
        (λ (p : k ≡ i). ⊎_elim
        (λ (o : l < i). absurd (omega (arith, (are.later l m j o (earlier l m j o d)).1, (range n j (turn k n j p e)).0)))
        (λ (o : l ≡ i). (p ∙ sym o, single n m j (turn k n j p e) (turn l m j o d)))
        (upto l t))
        (upto k s);
    parent = λ j z l. ⊎_elim
        (λ (s : j < count). let p = are.parent j z s in (p.0, omega (arith, p.1), front p.0.0 p.0.1 p.1 ∙ p.2))
        (λ (s : count ≤ j). let n = listed j s l in ((i, n.0), omega arith, n.1))
        (cases_lt j count);
  }

void_no : (x : Pair) → None ≡ Some (Nodes x) → ⊥
void_no x e = cc

whole_no : (x : Pair) → Some Whole ≡ Some (Nodes x) → ⊥
whole_no x e = cc

pair_is : (x y : Pair) → Some (Nodes x) ≡ Some (Nodes y) → x ≡ y
pair_is x y e = cc

-- where the pair has a node of the first set, the first set has it there; and so of the second
first_is : (a b : ℕ) (o p : Option Below) (x : Pair) → both a b o p ≡ Some (Nodes x) → x.first < a →
    o ≡ Some (Subset (record { 0 = x.first }))
first_is a b None None x e l = absurd (void_no x e)
first_is a b None (Some All) x e l = absurd (whole_no x e)
first_is a b None (Some (Subset j)) x e l =
    absurd (omega (arith, l, ap (λ (y : Pair). y.first) (pair_is (record { first = a; second = j.0 }) x e)))
first_is a b (Some All) p x e l = absurd (whole_no x e)
first_is a b (Some (Subset i)) None x e l =
    ap (λ (y : Pair). Some (Subset (record { 0 = y.first }))) (pair_is (record { first = i.0; second = b }) x e)
first_is a b (Some (Subset i)) (Some All) x e l = absurd (whole_no x e)
first_is a b (Some (Subset i)) (Some (Subset j)) x e l =
    ap (λ (y : Pair). Some (Subset (record { 0 = y.first }))) (pair_is (record { first = i.0; second = j.0 }) x e)

second_is : (a b : ℕ) (o p : Option Below) (x : Pair) → both a b o p ≡ Some (Nodes x) → x.second < b →
    p ≡ Some (Subset (record { 0 = x.second }))
second_is a b None None x e l = absurd (void_no x e)
second_is a b None (Some All) x e l = absurd (whole_no x e)
second_is a b None (Some (Subset j)) x e l =
    ap (λ (y : Pair). Some (Subset (record { 0 = y.second }))) (pair_is (record { first = a; second = j.0 }) x e)
second_is a b (Some All) p x e l = absurd (whole_no x e)
second_is a b (Some (Subset i)) None x e l =
    absurd (omega (arith, l, ap (λ (y : Pair). y.second) (pair_is (record { first = i.0; second = b }) x e)))
second_is a b (Some (Subset i)) (Some All) x e l = absurd (whole_no x e)
second_is a b (Some (Subset i)) (Some (Subset j)) x e l =
    ap (λ (y : Pair). Some (Subset (record { 0 = y.second }))) (pair_is (record { first = i.0; second = j.0 }) x e)

-- a pair that is listed has a node of one of the two
some_is : (a b : ℕ) (o p : Option Below) (x : Pair) → both a b o p ≡ Some (Nodes x) → IsAfter 0 a o → IsAfter 0 b p →
    (x.first < a) ⊎ (x.second < b)
some_is a b None None x e l r = absurd (void_no x e)
some_is a b None (Some All) x e l r = absurd (whole_no x e)
some_is a b None (Some (Subset j)) x e l r =
    inr (omega (arith, r.1, ap (λ (y : Pair). y.second) (pair_is (record { first = a; second = j.0 }) x e)))
some_is a b (Some All) p x e l r = absurd (whole_no x e)
some_is a b (Some (Subset i)) None x e l r =
    inl (omega (arith, l.1, ap (λ (y : Pair). y.first) (pair_is (record { first = i.0; second = b }) x e)))
some_is a b (Some (Subset i)) (Some All) x e l r = absurd (whole_no x e)
some_is a b (Some (Subset i)) (Some (Subset j)) x e l r =
    inl (omega (arith, l.1, ap (λ (y : Pair). y.first) (pair_is (record { first = i.0; second = j.0 }) x e)))

-- what ends a path, and what goes on, of what stands under a name in either
abbrev ends_of : Option Both → Part → Bool
ends_of None part = false
ends_of (Some Whole) part = true
ends_of (Some (Nodes x)) part = is_touched part

abbrev goes_of : Option Both → (Pair → Bool) → Bool
goes_of None f = false
goes_of (Some Whole) f = true
goes_of (Some (Nodes x)) f = f x

ends_both : (a b : ℕ) (o p : Option Below) (part : Part) → ends_of (both a b o p) part ≡ (ends o part || ends p part)
ends_both a b None None part = refl
ends_both a b None (Some All) part = refl
ends_both a b None (Some (Subset j)) part = refl
ends_both a b (Some All) p part = refl
ends_both a b (Some (Subset i)) None part = or_false (is_touched part)
ends_both a b (Some (Subset i)) (Some All) part = sym (or-true (is_touched part))
ends_both a b (Some (Subset i)) (Some (Subset j)) part = or_itself (is_touched part)

ends_listed : (at : ℕ → Pair) (o : Option Below) (part : Part) → ends o part ≡ ends_of (with_pairs at o) part
ends_listed at None part = refl
ends_listed at (Some All) part = refl
ends_listed at (Some (Subset j)) part = refl

-- what a pair is known by: its node of the first set, where it is there, and else that of the second
abbrev key : ℕ → Pair → ℕ
key a x = cond (ltb x.first a) x.first (a + x.second)

key_is : (a : ℕ) (x : Pair) → ((x.first < a) × (key a x ≡ x.first)) ⊎ ((a ≤ x.first) × (key a x ≡ a + x.second))
key_is a x = ⊎_elim
    (λ (l : x.first < a). inl (l, ap (λ c. cond c x.first (a + x.second)) (lt-ltb x.first a l)))
    (λ (l : a ≤ x.first). inr (l, ap (λ c. cond c x.first (a + x.second)) (le-ltb x.first a l)))
    (cases_lt x.first a)

module _ (g h w : Graph) (a b i count : ℕ) (start : Pair) (at : ℕ → Pair) (g_forest : IsForest g a) (h_forest : IsForest h b)
    (are : AreJoined g h a b start at count i w) where
  listed_pair : (k : ℕ) (n : Name) (j : ℕ) → k < i → w k n ≡ Some (Subset (record { 0 = j })) →
      both a b (g (at k).first n) (h (at k).second n) ≡ Some (Nodes (at j))
  listed_pair k n j l e = are.alike k n l ∙ ap (with_pairs at) e

  first_referred : (j : ℕ) → 0 < j → j < count → IsReferred g w a (λ k. (at k).first) j
  first_referred j z l =
      let p = are.parent j z l in
      record {
        from = p.0.0;
        name = p.0.1;
        before = (are.later p.0.0 p.0.1 (record { 0 = j }) p.1 p.2).0;
        lists = p.2;
        refers = first_is a b (g (at p.0.0).first p.0.1) (h (at p.0.0).second p.0.1) (at j) (listed_pair p.0.0 p.0.1 j p.1 p.2);
      }

  second_referred : (j : ℕ) → 0 < j → j < count → IsReferred h w b (λ k. (at k).second) j
  second_referred j z l =
      let p = are.parent j z l in
      record {
        from = p.0.0;
        name = p.0.1;
        before = (are.later p.0.0 p.0.1 (record { 0 = j }) p.1 p.2).0;
        lists = p.2;
        refers = second_is a b (g (at p.0.0).first p.0.1) (h (at p.0.0).second p.0.1) (at j) (listed_pair p.0.0 p.0.1 j p.1 p.2);
      }

  -- each pair but the first has a node of one of the two
  pub some_node : (j : ℕ) → 0 < j → j < count → ((at j).first < a) ⊎ ((at j).second < b)
  some_node j z l =
      let p = are.parent j z l in
      some_is a b (g (at p.0.0).first p.0.1) (h (at p.0.0).second p.0.1) (at j) (listed_pair p.0.0 p.0.1 j p.1 p.2)
      (forest_after g a g_forest 0 (at p.0.0).first p.0.1 (omega arith)) (forest_after h b h_forest 0 (at p.0.0).second p.0.1 (omega arith))

  second_there : (j : ℕ) → 0 < j → j < count → a ≤ (at j).first → (at j).second < b
  second_there j z l none = ⊎_elim (λ (t : (at j).first < a). absurd (omega (arith, t, none))) (λ (t : (at j).second < b). t)
      (some_node j z l)

  key_low : (j : ℕ) → 0 < j → j < count → key a (at j) < a + b
  key_low j z l = ⊎_elim
      (λ (t : ((at j).first < a) × (key a (at j) ≡ (at j).first)). omega (arith, t.0, t.1))
      (λ (t : (a ≤ (at j).first) × (key a (at j) ≡ a + (at j).second)). omega (arith, t.1, second_there j z l t.0))
      (key_is a (at j))

  key_apart : (k j : ℕ) → 0 < k → k < j → j < count → key a (at k) ≡ key a (at j) → ⊥
  key_apart k j z s l e = ⊎_elim
      (λ (t : ((at j).first < a) × (key a (at j) ≡ (at j).first)). ⊎_elim
      (λ (u : ((at k).first < a) × (key a (at k) ≡ (at k).first)).
      apart g w a start.first count (λ m. (at m).first) g_forest (ap (λ (x : Pair). x.first) are.first) first_referred k j s l t.0
      (sym u.1 ∙ (e ∙ t.1)))
      (λ (u : (a ≤ (at k).first) × (key a (at k) ≡ a + (at k).second)). omega (arith, t.0, t.1, u.1, e))
      (key_is a (at k)))
      (λ (t : (a ≤ (at j).first) × (key a (at j) ≡ a + (at j).second)). ⊎_elim
      (λ (u : ((at k).first < a) × (key a (at k) ≡ (at k).first)). omega (arith, u.0, u.1, t.1, e))
      (λ (u : (a ≤ (at k).first) × (key a (at k) ≡ a + (at k).second)).
      apart h w b start.second count (λ m. (at m).second) h_forest (ap (λ (x : Pair). x.second) are.first) second_referred k j s l
      (second_there j (omega (arith, s)) l t.0) (omega (arith, u.1, t.1, e)))
      (key_is a (at k)))
      (key_is a (at j))

  -- the queue is no longer than both sets have nodes, and one more
  pub pairs_bound : count ≤ a + b + 1
  pairs_bound =
      let some = are.some in
      let upto = count_upto (λ k. key a (at (k + 1))) (count - 1) (a + b)
      (λ k l. key_low (k + 1) (omega arith) (omega (arith, l, some)))
      (λ k j s l e. key_apart (k + 1) (j + 1) (omega arith) (omega (arith, s)) (omega (arith, l, some)) e) in
      omega (arith, upto, some)

  -- all are joined
  module _ (done : count ≤ i) (past : (k : ℕ) (n : Name) → i ≤ k → w k n ≡ None) (g_past : (n : Name) → g a n ≡ None)
      (h_past : (n : Name) → h b n ≡ None) where
    in_nodes : (k : ℕ) (n : Name) (j : NodeNo) → w k n ≡ Some (Subset j) → k < i
    in_nodes k n j e = ⊎_elim (λ (l : k < i). l) (λ (l : i ≤ k). absurd (none_no_subset j (sym (past k n l) ∙ e))) (cases_lt k i)

    pub tree_joined : IsTree w count
    tree_joined = record {
      later = λ k n j e. are.later k n j (in_nodes k n j e) e;
      once = λ k n l m j e d. are.once k n l m j (in_nodes k n j e) (in_nodes l m j d) e d;
      parent = λ j z l. let p = are.parent j z l in ∣ (p.0, p.2) ∣₁;
    }

    -- what goes on at a pair
    abbrev rest_of : Part → Name → Path → Pair → Bool
    rest_of part n q x = reach g (g x.first n) part q || reach h (h x.second n) part q

    first_past : (x : Bool) (n : Name) (part : Part) (q : Path) → (reach g (g a n) part q || x) ≡ x
    first_past x n part q = ap (λ o. reach g o part q || x) (g_past n) ∙ ap (λ c. c || x) (none_is g part q)

    second_past : (x : Bool) (n : Name) (part : Part) (q : Path) → (x || reach h (h b n) part q) ≡ (x || false)
    second_past x n part q = ap (λ o. x || reach h o part q) (h_past n) ∙ ap (λ c. x || c) (none_is h part q)

    goes_both : (o p : Option Below) (part : Part) (n : Name) (q : Path) →
        goes_of (both a b o p) (rest_of part n q) ≡ (reach g o part (n ∷ q) || reach h p part (n ∷ q))
    goes_both None None part n q = refl
    goes_both None (Some All) part n q = refl
    goes_both None (Some (Subset j)) part n q = first_past (reach h (h j.0 n) part q) n part q
    goes_both (Some All) p part n q = refl
    goes_both (Some (Subset i)) None part n q = second_past (reach g (g i.0 n) part q) n part q
    goes_both (Some (Subset i)) (Some All) part n q = sym (or-true (reach g (g i.0 n) part q))
    goes_both (Some (Subset i)) (Some (Subset j)) part n q = refl

    joined_reach : (o p z : Option Below) → both a b o p ≡ with_pairs at z → IsAfter 0 count z → (part : Part) (q : Path) →
        reach w z part q ≡ (reach g o part q || reach h p part q)
    joined_reach o p z e l part [] = ends_listed at z part ∙ (ap (λ x. ends_of x part) (sym e) ∙ ends_both a b o p part)
    joined_reach o p None e l part (n ∷ q) = ap (λ x. goes_of x (rest_of part n q)) (sym e) ∙ goes_both o p part n q
    joined_reach o p (Some All) e l part (n ∷ q) = ap (λ x. goes_of x (rest_of part n q)) (sym e) ∙ goes_both o p part n q
    joined_reach o p (Some (Subset j)) e l part (n ∷ q) =
        joined_reach (g (at j.0).first n) (h (at j.0).second n) (w j.0 n) (are.alike j.0 n (omega (arith, l.1, done)))
        (is_after w count tree_joined 0 j.0 n (omega arith)) part q ∙
        (ap (λ x. goes_of x (rest_of part n q)) (sym e) ∙ goes_both o p part n q)

    -- they have the paths of both
    pub same_joined : IsJoin (below_node g start.first) (below_node h start.second) (below_node w 0)
    same_joined part [] = refl
    same_joined part (n ∷ q) =
        joined_reach (g (at 0).first n) (h (at 0).second n) (w 0 n)
        (are.alike 0 n (let s = are.some in omega (arith, s, done))) (is_after w count tree_joined 0 0 n (omega arith)) part q ∙
        ap (rest_of part n q) are.first

-- the same over vectors: the pair whose turn it is
pub next_joined : (g h : Graph) (a b : ℕ) (start : Pair) (nodes : List Node) (queue longer : List Pair) (i : ℕ) (node : Node) →
    AreJoined g h a b start (pair_at queue) (length queue) i (entry nodes) → length nodes ≡ i → i < length queue →
    IsMade queue longer (found node.names.items)
    (λ n. both a b (g (pair_at queue i).first n) (h (pair_at queue i).second n)) →
    AreJoined g h a b start (pair_at longer) (length longer) (i + 1) (entry (nodes ++ node ∷ []))
next_joined g h a b start nodes queue longer i node are count next made =
    let long = length-append queue made.more in
    let kept : (k : ℕ) → k < length queue → pair_at longer k ≡ pair_at queue k = λ k l.
    ap (λ ks. pair_at ks k) made.gained ∙ pair_front queue made.more k l in
    let turn : (n : Name) → entry (nodes ++ node ∷ []) i n ≡ found node.names.items n = λ n.
    let last : i ≡ length nodes + 0 = omega (arith, count) in
    ap (λ m. entry (nodes ++ node ∷ []) m n) last ∙ entry_behind nodes (node ∷ []) 0 n in
    one_joined g h (entry nodes) (entry (nodes ++ node ∷ [])) a b i (length queue) (length longer) start (pair_at queue) (pair_at longer)
    are next (omega (arith, long, ap length made.gained)) kept
    (λ k n l. entry_front nodes (node ∷ []) k n (omega (arith, l, count)))
    (λ n. ap (λ (x : Pair). both a b (g x.first n) (h x.second n)) (kept i next) ∙
    (made.same n ∙ ap (with_pairs (pair_at longer)) (sym (turn n))))
    (λ n j e. made.range n j (sym (turn n) ∙ e))
    (λ n m j e d. made.once n m j (sym (turn n) ∙ e) (sym (turn m) ∙ d))
    (λ j low high. let l = made.each j low high in (l.0, turn l.0 ∙ l.1))

pub pair_queued : (g h : Graph) (a b : ℕ) (start : Pair) (queue before : List Pair) (w : Graph) → before ≡ [] → queue ≡ before ++ start ∷ [] →
    AreJoined g h a b start (pair_at queue) (length queue) 0 w
pair_queued g h a b start queue before w none e =
    let Q : List Pair → Type 0 = λ q. AreJoined g h a b start (pair_at q) (length q) 0 w in
    subst Q (sym (e ∙ ap (λ ps. ps ++ start ∷ []) none)) (none_joined g h a b start (pair_at (start ∷ [])) w refl)
