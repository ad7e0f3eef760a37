-- A queue of nodes of a forest: each place but the first is listed at one before it. No node stands twice in such a queue.
use Rattle.std.proofs.Common.{◌≡◌, ◌≢◌, ◌∙◌, sym, ap, ⊎_elim, ℕ, zero, suc, ◌<◌, ◌≤◌, true, eqb, List, [], ◌∷◌, Some, arith, map, length}
use Rattle.std.proofs.Common.{get_or, AllPairs}
use Rattle.std.specs.Prelude.{Vec}
use Rattle.std.specs.List.{list_any, range_with_len}
use Rattle.std.specs.declared.alloc.Global.{Global}
use Rattle.std.proofs.lemmas.Bool.{false≢true, cases_lt, cases_order, or_cases, eqb-true}
use Rattle.std.proofs.lemmas.Bool.Decides.{Decides-eqb}
use Rattle.std.proofs.lemmas.List.{get_or_default}
use Rattle.std.proofs.lemmas.List.FromFn.{length-map-range_with_len, get_or-map-range_with_len}
use Rattle.std.proofs.lemmas.Map.Made.{IsDistinct-from_AllPairs}
use Rattle.std.proofs.lemmas.Map.Steps.{length-le_from_distinct_below}
use Rattle.fast_check_finder_lattice.specs.declared.lattice.node.NodeNo.{NodeNo}
use Rattle.fast_check_finder_lattice.specs.declared.lattice.node.Below.TheVariants.{Subset}
use Rattle.fast_check_finder_lattice.specs.Order.{Name}
use Rattle.fast_check_finder_lattice.specs.Graph.{Graph, IsForest}

-- the place j is listed at one before it, and where it has a node of the forest, the node there lists that
pub record IsReferred (g w : Graph) (size : ℕ) (q : ℕ → ℕ) (j : ℕ) : Type 0 where
  pub from : ℕ
  pub name : Name
  pub before : from < j
  pub lists : w from name ≡ Some (Subset (record { 0 = j }))
  pub refers : q j < size → g (q from) name ≡ Some (Subset (record { 0 = q j }))

-- the next place of a queue, and what stands there
pub next_place : {X : Type 0} (queue : Vec X Global) (i count : ℕ) → count ≡ queue.len → i < count → i < length queue.items
next_place queue i count e l = omega (arith, e, l, queue.ok.0)

pub next_item : {X : Type 0} (queue : List X) (i : ℕ) (x d : X) → i < length queue → x ≡ get_or queue i x → x ≡ get_or queue i d
next_item queue i x d l e = e ∙ get_or_default queue i x d l

pub subset_is : (i j : NodeNo) → Some (Subset i) ≡ Some (Subset j) → i.0 ≡ j.0
subset_is i j e = let same : i ≡ j = cc in ap (λ (x : NodeNo). x.0) same

module _ (g w : Graph) (size at count : ℕ) (q : ℕ → ℕ) (forest : IsForest g size) (first : q 0 ≡ at)
    (referred : (j : ℕ) → 0 < j → j < count → IsReferred g w size q j) where
  -- each node stands behind the first
  behind : (most j : ℕ) → j < most → 0 < j → j < count → q j < size → at < q j
  behind zero j l some h t = absurd (omega (arith, l))
  behind (suc most) j l some h t =
      let r = referred j some h in
      let b = r.before in
      let later = forest.later (q r.from) r.name (record { 0 = q j }) (r.refers t) in ⊎_elim
      (λ (z : 0 < r.from).
      let a = behind most r.from (omega (arith, b, l)) z (omega (arith, b, h)) (omega (arith, later.0, t)) in
      omega (arith, a, later.0))
      (λ (z : r.from ≤ 0).
      let e : r.from ≡ 0 = omega (arith, z) in
      let f : q r.from ≡ at = ap q e ∙ first in
      omega (arith, f, later.0))
      (cases_lt 0 r.from)

  apart_below : (most k m : ℕ) → k < m → m < most → m < count → q m < size → q k ≡ q m → ⊥
  apart_below zero k m h l c t e = omega (arith, l)
  apart_below (suc most) k m h l c t e =
      let p = referred m (omega (arith, h)) c in
      let a = p.refers t in
      let b = p.before in
      let low = forest.later (q p.from) p.name (record { 0 = q m }) a in ⊎_elim
      (λ (some : 0 < k).
      let o = referred k some (omega (arith, h, c)) in
      let d = o.refers (omega (arith, e, t)) in
      let f = o.before in
      let same = forest.once (q o.from) o.name (q p.from) p.name (record { 0 = q m })
      (d ∙ ap (λ x. Some (Subset (record { 0 = x }))) e) a in
      ⊎_elim
      (λ (s : o.from ≡ p.from).
      let number = subset_is (record { 0 = k }) (record { 0 = m })
      (sym o.lists ∙ (ap (λ x. w x o.name) s ∙ (ap (λ x. w p.from x) same.1 ∙ p.lists))) in
      omega (arith, number, h))
      (⊎_elim
      (λ (s : o.from < p.from).
      apart_below most o.from p.from s (omega (arith, b, l)) (omega (arith, b, c)) (omega (arith, low.0, t)) same.0)
      (λ (s : p.from < o.from).
      apart_below most p.from o.from s (omega (arith, f, h, l)) (omega (arith, f, h, c)) (omega (arith, low.0, t, same.0)) (sym same.0)))
      (cases_order o.from p.from))
      (λ (none : k ≤ 0).
      let z : k ≡ 0 = omega (arith, none) in
      let start : q k ≡ at = ap q z ∙ first in
      let u = behind (suc m) m (omega arith) (omega (arith, h)) c t in
      omega (arith, u, start, e))
      (cases_lt 0 k)

  -- no node stands at two places
  pub apart : (k m : ℕ) → k < m → m < count → q m < size → q k ≡ q m → ⊥
  apart k m h l = apart_below (suc m) k m h (omega arith) l

-- where a list has a number
place_from : (ks : List ℕ) (x : ℕ) → list_any (eqb x) ks ≡ true → (k : ℕ) × (k < length ks) × (get_or ks k 0 ≡ x)
place_from [] x t = absurd (false≢true t)
place_from (y ∷ ks) x t = ⊎_elim
    (λ (h : eqb x y ≡ true). (0, omega arith, sym (eqb-true x y h)))
    (λ (h : list_any (eqb x) ks ≡ true). let p = place_from ks x h in (suc p.0, omega (arith, p.1), p.2))
    (or_cases (eqb x y) (list_any (eqb x) ks) t)

-- different numbers below a bound are no more than it
module _ (key : ℕ → ℕ) (count bound : ℕ) (low : (k : ℕ) → k < count → key k < bound)
    (differ : (k m : ℕ) → k < m → m < count → key k ≡ key m → ⊥) where
  listed_upto : (ks : List ℕ) → length ks ≡ count → ((k d : ℕ) → k < count → get_or ks k d ≡ key k) → count ≤ bound
  listed_upto ks long is =
      let pairs : AllPairs (λ x y. x ≢ y) ks = λ k m d h l e. differ k m h (omega (arith, l, long))
      (sym (is k d (omega (arith, h, l, long))) ∙ (e ∙ is m d (omega (arith, l, long)))) in
      let b = length-le_from_distinct_below ks bound (IsDistinct-from_AllPairs Decides-eqb ks pairs)
      (λ x m. let p = place_from ks x m in
      let h = low p.0 (omega (arith, p.1, long)) in
      let e : x ≡ key p.0 = sym p.2 ∙ is p.0 0 (omega (arith, p.1, long)) in omega (arith, e, h)) in omega (arith, b, long)

  pub count_upto : count ≤ bound
  count_upto = listed_upto (map key (range_with_len 0 count)) (length-map-range_with_len key 0 count)
      (λ k d h. get_or-map-range_with_len key 0 count k k d h (omega arith))
