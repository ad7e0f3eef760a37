-- Each node but the root stands at one path that is touched and not covered, and each such path has its node.
use Rattle.std.proofs.Common.{◌≡◌, ◌≢◌, ◌∙◌, sym, ap, refl, subst, ⊎_elim, ◌⊎◌, inl, inr, ℕ, zero, suc, ◌-◌, ◌<◌, ◌≤◌, Bool, true, false}
use Rattle.std.proofs.Common.{◌&&◌, not, List, [], ◌∷◌, ◌++◌, Option, Some, None, arith, length, get_or, AllPairs}
use Rattle.std.specs.List.{Contains}
use Rattle.std.proofs.lemmas.Bool.{false≢true, cases_lt}
use Rattle.std.proofs.lemmas.List.{append-nil, get_or_append_left, get_or_push, length_push}
use Rattle.fast_check_finder_lattice.specs.declared.lattice.node.Below.{Below}
use Rattle.fast_check_finder_lattice.specs.declared.lattice.node.Below.TheVariants.{All, Subset}
use Rattle.fast_check_finder_lattice.specs.Order.{Name}
use Rattle.fast_check_finder_lattice.specs.Graph.{Path, Part, Touched, Covered, is_touched, NameSet, Graph, reach, rooted, IsTree}
use Rattle.fast_check_finder_lattice.specs.Names.{has_subset, AreSubsets}
use Rattle.fast_check_finder_lattice.proofs.Walks.{parent_of}

-- the names lead from the root to node k, the last name first
abbrev leads : Graph → Path → ℕ → Type 0
leads g [] k = k ≡ 0
leads g (n ∷ r) k = (p : ℕ) × leads g r p × (g p n ≡ Some (Subset (record { 0 = k })))

-- the names of the first path, the last one first, before the second
abbrev onto : Path → Path → Path
onto [] q = q
onto (n ∷ r) q = onto r (n ∷ q)

onto_onto : (r q p : Path) → onto (onto r q) p ≡ onto q (r ++ p)
onto_onto [] q p = refl
onto_onto (n ∷ r) q p = onto_onto r (n ∷ q) p

onto_same : (r s : Path) → onto r [] ≡ onto s [] → r ≡ s
onto_same r s e = sym (onto_onto r [] [] ∙ append-nil r) ∙ (ap (λ p. onto p []) e ∙ (onto_onto s [] [] ∙ append-nil s))

number_is : (k l : ℕ) → Some (Subset (record { 0 = k })) ≡ Some (Subset (record { 0 = l })) → k ≡ l
number_is k l e = let f : Option Below → ℕ = number in ap f e
  where
    number : Option Below → ℕ
    number None = 0
    number (Some All) = 0
    number (Some (Subset j)) = j.0

leads_to_one : (g : Graph) (r : Path) (k l : ℕ) → leads g r k → leads g r l → k ≡ l
leads_to_one g [] k l a b = a ∙ sym b
leads_to_one g (n ∷ r) k l a b =
    number_is k l (sym a.2 ∙ (ap (λ i. g i n) (leads_to_one g r a.0 b.0 a.1 b.1) ∙ b.2))

module _ (g : Graph) (size : ℕ) (tree : IsTree g size) where
  -- no two paths lead to a node
  pub leads_once : (r s : Path) (k l : ℕ) → k ≡ l → leads g r k → leads g s l → r ≡ s
  leads_once [] [] k l e a b = refl
  leads_once [] (n ∷ s) k l e a b = let h = tree.later b.0 n (record { 0 = l }) b.2 in absurd (omega (arith, e, a, h.0))
  leads_once (m ∷ r) [] k l e a b = let h = tree.later a.0 m (record { 0 = k }) a.2 in absurd (omega (arith, e, b, h.0))
  leads_once (m ∷ r) (n ∷ s) k l e a b =
      let same = tree.once a.0 m b.0 n (record { 0 = l }) (a.2 ∙ ap (λ i. Some (Subset (record { 0 = i }))) e) b.2 in
      ap (λ (x : Name). x ∷ r) same.1 ∙ ap (λ (q : Path). n ∷ q) (leads_once r s a.0 b.0 same.0 a.1 b.1)

  leads_within : (r : Path) (k : ℕ) → 0 < size → leads g r k → k < size
  leads_within [] k some a = omega (arith, a, some)
  leads_within (n ∷ r) k some a = (tree.later a.0 n (record { 0 = k }) a.2).1

  abbrev Label : ℕ → Type 0
  Label k = (r : Path) × leads g r k

  label : (fuel k : ℕ) → k < fuel → k < size → Label k
  label zero k h w = absurd (omega (arith, h))
  label (suc fuel) zero h w = ([], refl)
  label (suc fuel) (suc k) h w =
      let p = parent_of g size tree (suc k) (omega arith) w in
      let l = tree.later p.0.0 p.0.1 (record { 0 = suc k }) p.1 in
      let up = label fuel p.0.0 (omega (arith, l.0, h)) (omega (arith, l.0, w)) in
      (p.0.1 ∷ up.0, (p.0.0, up.1, p.1))

  -- below the path of a node stands what the node lists
  below_leads : (r : Path) (k : ℕ) → leads g r k → (n : Name) (part : Part) (q : Path) →
      rooted g part (onto r (n ∷ q)) ≡ reach g (g k n) part q
  below_leads [] k a n part q = ap (λ i. reach g (g i n) part q) (sym a)
  below_leads (m ∷ r) k a n part q = below_leads r a.0 a.1 m part (n ∷ q) ∙ ap (λ o. reach g o part (n ∷ q)) a.2

  node_subset : (r : Path) (k : ℕ) → 0 < k → leads g r k → has_subset (rooted g) (onto r []) ≡ true
  node_subset [] k some a = absurd (omega (arith, some, a))
  node_subset (m ∷ r) k some a =
      let at : (part : Part) → rooted g part (onto r (m ∷ [])) ≡ is_touched part = λ part. below_leads r a.0 a.1 m part [] ∙
      ap (λ o. reach g o part []) a.2 in
      ap (λ b. b && not (rooted g Covered (onto r (m ∷ [])))) (at Touched) ∙ ap not (at Covered)

  record IsAt (p : Path) : Type 0 where
    names : Path
    node : ℕ
    leads_there : leads g names node
    is : p ≡ onto names []
    deep : 0 < node

  and_not : (x y : Bool) → y ≡ true → (x && not y) ≡ true → ⊥
  and_not true y e h = let f : not y ≡ false = ap not e in false≢true (sym f ∙ h)
  and_not false y e h = false≢true h

  -- where a subset stands below a node, there is a node
  walked : (q : Path) (r : Path) (k : ℕ) (n : Name) → leads g r k → (o : Option Below) → g k n ≡ o →
      (reach g o Touched q && not (reach g o Covered q)) ≡ true → IsAt (onto r (n ∷ q))
  walked [] r k n a None e h = absurd (false≢true h)
  walked [] r k n a (Some All) e h = absurd (false≢true h)
  walked [] r k n a (Some (Subset j)) e h =
      record { names = n ∷ r; node = j.0; leads_there = (k, a, e); is = refl; deep = omega (arith, (tree.later k n j e).0) }
  walked (m ∷ q) r k n a None e h = absurd (false≢true h)
  walked (m ∷ q) r k n a (Some All) e h = absurd (false≢true h)
  walked (m ∷ q) r k n a (Some (Subset j)) e h = walked q (n ∷ r) j.0 m (k, a, e) (g j.0 m) refl h

  subset_node : (p : Path) → has_subset (rooted g) p ≡ true → IsAt p
  subset_node [] h = absurd (false≢true h)
  subset_node (n ∷ q) h = walked q [] 0 n refl (g 0 n) refl h

  -- the path of a node
  path_by : (k : ℕ) → (k < size) ⊎ (size ≤ k) → Path
  path_by k (inl w) = onto (label (suc k) k (omega arith) w).0 []
  path_by k (inr w) = []

  path_at : ℕ → Path
  path_at k = path_by k (cases_lt k size)

  at_by : (k : ℕ) (c : (k < size) ⊎ (size ≤ k)) → k < size → (l : Label k) × (path_by k c ≡ onto l.0 [])
  unfolding path_by
  at_by k (inl w) h = (label (suc k) k (omega arith) w, refl)
  at_by k (inr w) h = absurd (omega (arith, w, h))

  at : (k : ℕ) → k < size → (l : Label k) × (path_at k ≡ onto l.0 [])
  unfolding path_at
  at k h = at_by k (cases_lt k size) h

  all : ℕ → List Path
  all zero = []
  all (suc m) = all m ++ path_at (suc m) ∷ []

  all_length : (m : ℕ) → length (all m) ≡ m
  unfolding all
  all_length zero = refl
  all_length (suc m) = length_push (all m) (path_at (suc m)) ∙ omega (arith, all_length m)

  all_at : (m k : ℕ) (d : Path) → k < m → get_or (all m) k d ≡ path_at (suc k)
  unfolding all
  all_at zero k d h = absurd (omega (arith, h))
  all_at (suc m) k d h = ⊎_elim
      (λ (l : k < m). get_or_append_left (all m) (path_at (suc m) ∷ []) d k (omega (arith, l, all_length m)) ∙ all_at m k d l)
      (λ (l : m ≤ k). let e : k ≡ m = omega (arith, l, h) in
      ap (λ i. get_or (all m ++ path_at (suc m) ∷ []) i d) e ∙
      (get_or_push (all m) (path_at (suc m)) d m (all_length m) ∙ ap (λ i. path_at (suc i)) (sym e)))
      (cases_lt k m)

  module _ (m : ℕ) (m_is : size ≡ suc m) where
    each_to : (p : Path) → has_subset (rooted g) p ≡ true → Contains (all m) p
    each_to p h =
        let there = subset_node p h in
        let w = leads_within there.names there.node (omega (arith, m_is)) there.leads_there in
        let l = at there.node w in
        let same : path_at there.node ≡ p = l.1 ∙
        (ap (λ r. onto r []) (leads_once l.0.0 there.names there.node there.node refl l.0.1 there.leads_there) ∙ sym there.is) in (
          there.node - 1,
          omega (arith, w, m_is, there.deep, all_length m),
          all_at m (there.node - 1) p (omega (arith, w, m_is, there.deep)) ∙
              (ap path_at (let e : suc (there.node - 1) ≡ there.node = omega (arith, there.deep) in e) ∙ same),
        )

    each_from : (p : Path) → Contains (all m) p → has_subset (rooted g) p ≡ true
    each_from p c =
        let w : c.0 < m = omega (arith, c.1, all_length m) in
        let l = at (suc c.0) (omega (arith, w, m_is)) in
        let is : p ≡ onto l.0.0 [] = sym c.2 ∙ (all_at m c.0 p w ∙ l.1) in
        ap (λ p. has_subset (rooted g) p) is ∙ node_subset l.0.0 (suc c.0) (omega arith) l.0.1

    apart : AllPairs (λ p q. p ≢ q) (all m)
    apart i j d h w e =
        let wj : j < m = omega (arith, w, all_length m) in
        let li = at (suc i) (omega (arith, wj, h, m_is)) in
        let lj = at (suc j) (omega (arith, wj, m_is)) in
        let same : li.0.0 ≡ lj.0.0 =
        onto_same li.0.0 lj.0.0 (sym li.1 ∙ (sym (all_at m i d (omega (arith, h, wj))) ∙ (e ∙ (all_at m j d wj ∙ lj.1)))) in
        let n : suc i ≡ suc j = leads_to_one g li.0.0 (suc i) (suc j) li.0.1 (subst (λ (r : Path). leads g r (suc j)) (sym same) lj.0.1) in
        omega (arith, n, h)

    pub subsets_are : (ps : List Path) × AreSubsets (rooted g) ps × (length ps ≡ m)
    subsets_are = (all m, record { each = λ p. (each_to p, each_from p); once = apart }, all_length m)

-- of no nodes there is no such path
pub no_subsets : (f : NameSet) → ((part : Part) (p : Path) → f part p ≡ false) → AreSubsets f []
no_subsets f h = record {
  each = λ p. (λ t. absurd (false≢true (sym (ap (λ b. b && not (f Covered p)) (h Touched p)) ∙ t)), λ c. absurd (omega (arith, c.1)));
  once = λ i j d a b. absurd (omega (arith, b));
}
