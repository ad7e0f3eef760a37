-- What is left of a set, node by node, and that it is the difference.
use Rattle.std.proofs.Common.{◌≡◌, ◌∙◌, sym, ap, refl, subst, ⊎_elim, ℕ, zero, suc, ◌+◌, ◌<◌, ◌≤◌, Bool, true, false, cond, List, [], ◌∷◌}
use Rattle.std.proofs.Common.{Option, Some, None, arith, length, get_or, set, string_bytes}
use Rattle.std.specs.List.{filter}
use Rattle.std.specs.Str.{bytes_eq}
use Rattle.std.proofs.lemmas.Bool.{false≢true, cases_Bool, cases_lt, cases_eq}
use Rattle.std.proofs.lemmas.List.{get_or-set_same, get_or-set_other}
use Rattle.fast_check_finder_lattice.specs.declared.lattice.node.NodeNo.{NodeNo}
use Rattle.fast_check_finder_lattice.specs.declared.lattice.node.Below.{Below}
use Rattle.fast_check_finder_lattice.specs.declared.lattice.node.Below.TheVariants.{All, Subset}
use Rattle.fast_check_finder_lattice.specs.Order.{Name, Entry, found, IsOnce}
use Rattle.fast_check_finder_lattice.specs.Graph.{Touched, Graph, listed, reach, below_node, subset_of, IsTree, IsForest}
use Rattle.fast_check_finder_lattice.specs.Names.{nothing, everything, IsSame, IsDifference, IsRestBelow}
use Rattle.fast_check_finder_lattice.specs.Pruned.{under, place_at, is_filled, has_names, lacks, lacks_at, kept_at, left_of, AreBeside, IsPruned}
use Rattle.fast_check_finder_lattice.proofs.Walks.{name_shows}
use Rattle.fast_check_finder_lattice.proofs.Places.{found_none}
use Rattle.fast_check_finder_lattice.specs.EqualityProof.{none_is, all_is}
use Rattle.fast_check_finder_lattice.proofs.Extends.{itself}
use Rattle.fast_check_finder_lattice.proofs.Numbers.{first_absent, once_behind}
use Rattle.fast_check_finder_lattice.proofs.Copies.{some_touched, subset_reach}
use Rattle.fast_check_finder_lattice.proofs.Rest.{rest_along, rest_nothing, rest_respects, difference_each, below_absent, below_all_before}
use Rattle.fast_check_finder_lattice.proofs.Rest.{below_whole, below_no_rest, below_rest}

filled_some : (es : List Entry) → is_filled es ≡ true → (n : Name) × (b : Below) × (found es n ≡ Some b)
filled_some [] e = absurd (false≢true e)
filled_some (d ∷ es) e =
    (string_bytes d.0, d.1, ap (λ b. cond b (Some d.1) (found es (string_bytes d.0))) (itself (string_bytes d.0)))

filled_none : (es : List Entry) → is_filled es ≡ false → (n : Name) → found es n ≡ None
filled_none [] e n = refl
filled_none (d ∷ es) e n = absurd (false≢true (sym e))

none_some : (b : Below) → None ≡ Some b → ⊥
none_some b e = cc

-- beside nothing, all is left
all_left : (filled : ℕ → Bool) (o : Option Below) → left_of filled None o ≡ o
all_left filled None = refl
all_left filled (Some b) = refl

-- what is left was there
left_is : (filled : ℕ → Bool) (p o : Option Below) (b : Below) → left_of filled p o ≡ Some b → o ≡ Some b
left_is filled p None b e = absurd (none_some b e)
left_is filled p (Some d) b e = ⊎_elim
    (λ (t : lacks filled p d ≡ true). sym (ap (λ x. cond x (Some d) None) t) ∙ e)
    (λ (t : lacks filled p d ≡ false). absurd (none_some b (sym (ap (λ x. cond x (Some d) None) t) ∙ e)))
    (cases_Bool (lacks filled p d))

module _ (f h : ℕ → Bool) where
  lacks_same : (p : Option Below) (b : Below) → ((j : NodeNo) → b ≡ Subset j → h j.0 ≡ f j.0) → lacks h p b ≡ lacks f p b
  lacks_same None b same = refl
  lacks_same (Some All) b same = refl
  lacks_same (Some (Subset o)) All same = refl
  lacks_same (Some (Subset o)) (Subset j) same = same j refl

  -- where the tests agree on a node, the same is left
  left_same : (p o : Option Below) → ((j : NodeNo) → o ≡ Some (Subset j) → h j.0 ≡ f j.0) → left_of h p o ≡ left_of f p o
  left_same p None same = refl
  left_same p (Some b) same =
      ap (λ x. cond x (Some b) None) (lacks_same p b (λ j e. same j (ap (λ (d : Below). Some d) e)))

both : (b : Bool) (o : Option Below) → o ≡ cond b o o
both true o = refl
both false o = refl

-- a name that goes or stays, before others
first_kept : (m : Bool) (e : Entry) (es : List Entry) (n : Name) →
    found (cond m (e ∷ es) es) n ≡ cond (bytes_eq (string_bytes e.0) n) (cond m (Some e.1) (found es n)) (found es n)
first_kept true e es n = refl
first_kept false e es n = both (bytes_eq (string_bytes e.0) n) (found es n)

-- what a list has under a name, of which those stay that something lacks
pub found_kept : (filled : ℕ → Bool) (held : Name → Option Below) (es : List Entry) → IsOnce es → (n : Name) →
    found (filter (lacks_at filled held) es) n ≡ left_of filled (held n) (found es n)
found_kept filled held [] once n = refl
found_kept filled held (e ∷ es) once n =
    let rest = filter (lacks_at filled held) es in
    let is : found rest n ≡ left_of filled (held n) (found es n) = found_kept filled held es (once_behind e es once) n in
    first_kept (lacks_at filled held e) e rest n ∙ ⊎_elim
    (λ (t : (bytes_eq (string_bytes e.0) n ≡ true) × (string_bytes e.0 ≡ n)).
    let none : found es n ≡ None = ap (λ (m : Name). found es m) (sym t.1) ∙ found_none es (string_bytes e.0) (first_absent e es once) in
    ap (λ b. cond b (cond (lacks_at filled held e) (Some e.1) (found rest n)) (found rest n)) t.0 ∙
    (ap (λ o. cond (lacks_at filled held e) (Some e.1) o) (is ∙ ap (left_of filled (held n)) none) ∙
    (ap (λ (m : Name). cond (lacks filled (held m) e.1) (Some e.1) None) t.1 ∙
    ap (λ b. left_of filled (held n) (cond b (Some e.1) (found es n))) (sym t.0))))
    (λ (t : (bytes_eq (string_bytes e.0) n ≡ false) × (string_bytes e.0 ≡ n → ⊥)).
    ap (λ b. cond b (cond (lacks_at filled held e) (Some e.1) (found rest n)) (found rest n)) t.0 ∙
    (is ∙ ap (λ b. left_of filled (held n) (cond b (Some e.1) (found es n))) (sym t.0)))
    (name_shows (string_bytes e.0) n)

-- the nodes from a number on list what is left, and those before list what they listed
pub record IsPruning (g : Graph) (places : List (Option Below)) (h : Graph) (from : ℕ) (ls : List (List Entry)) : Type 0 where
  pub before : (k : ℕ) (n : Name) → k < from → listed ls k n ≡ h k n
  pub done : (k : ℕ) (n : Name) → from ≤ k → listed ls k n ≡ left_of (has_names ls) (under g (place_at places k) n) (h k n)

-- the node before
module _ (g : Graph) (places : List (Option Below)) (h : Graph) (size from at : ℕ) (ls new : List (List Entry)) (tree : IsTree h size)
    (is : IsPruning g places h from ls)
    (next : at + 1 ≡ from) (within : at < length ls) (once : IsOnce (get_or ls at []))
    (new_is : new ≡ kept_at (under g (place_at places at)) at ls) where
  abbrev bare : List (List Entry)
  bare = set ls at []

  here : (k : ℕ) → k ≡ at → get_or new k [] ≡ filter (lacks_at (has_names bare) (under g (place_at places at))) (get_or ls at [])
  here k e =
      let es = filter (lacks_at (has_names bare) (under g (place_at places at))) (get_or ls at []) in
      ap (λ (xs : List (List Entry)). get_or xs k []) new_is ∙
      (ap (λ (m : ℕ). get_or (set ls at es) m []) e ∙ get_or-set_same ls at es [] within)

  other : (k : ℕ) → (k ≡ at → ⊥) → get_or new k [] ≡ get_or ls k []
  other k d = ap (λ (xs : List (List Entry)). get_or xs k []) new_is ∙
      get_or-set_other ls at k (filter (lacks_at (has_names bare) (under g (place_at places at))) (get_or ls at [])) [] d

  -- what is left of a node from the one on that is pruned hangs on later ones alone
  as_before : (ks : List (List Entry)) → ((k : ℕ) → (k ≡ at → ⊥) → get_or ks k [] ≡ get_or ls k []) → (k : ℕ) (n : Name) → at ≤ k →
      left_of (has_names ks) (under g (place_at places k) n) (h k n) ≡ left_of (has_names ls) (under g (place_at places k) n) (h k n)
  as_before ks same k n l = left_same (has_names ls) (has_names ks) (under g (place_at places k) n) (h k n)
      (λ j e. ap is_filled (same j.0 (λ s. let b = tree.later k n j e in omega (arith, s, b.0, l))))

  pruned_here : (n : Name) → listed new at n ≡ left_of (has_names new) (under g (place_at places at) n) (h at n)
  pruned_here n =
      let upto : at ≤ at = omega arith in
      ap (λ (es : List Entry). found es n) (here at refl) ∙
      (found_kept (has_names bare) (under g (place_at places at)) (get_or ls at []) once n ∙
      (ap (left_of (has_names bare) (under g (place_at places at) n)) (is.before at n (omega (arith, next))) ∙
      (as_before bare (λ k d. get_or-set_other ls at k [] [] d) at n upto ∙ sym (as_before new other at n upto))))

  pub one_pruned : IsPruning g places h at new
  one_pruned = record {
    before = λ k n l. ap (λ (es : List Entry). found es n) (other k (λ e. omega (arith, e, l))) ∙ is.before k n (omega (arith, l, next));
    done = λ k n l. ⊎_elim
        (λ (e : k ≡ at). subst (λ (m : ℕ). listed new m n ≡ left_of (has_names new) (under g (place_at places m) n) (h m n)) (sym e)
        (pruned_here n))
        (λ (d : k ≡ at → ⊥).
        ap (λ (es : List Entry). found es n) (other k d) ∙
        (is.done k n (⊎_elim (λ (s : at < k). omega (arith, s, next)) (λ (s : k ≤ at). absurd (d (omega (arith, s, l)))) (cases_lt at k)) ∙
        sym (as_before new other k n l)))
        (cases_eq k at);
  }

-- where all nodes are pruned
module _ (g h : Graph) (places : List (Option Below)) (beside : AreBeside g h places) (ls : List (List Entry))
    (is : IsPruned g places h ls) where
  was : (k : ℕ) (n : Name) (j : NodeNo) → listed ls k n ≡ Some (Subset j) → h k n ≡ Some (Subset j)
  was k n j e = left_is (has_names ls) (under g (place_at places k) n) (h k n) (Subset j) (sym (is k n) ∙ e)

  -- what was a tree is a forest
  pub forest_left : (size : ℕ) → IsTree h size → IsForest (listed ls) size
  forest_left size tree = record {
    later = λ k n j e. tree.later k n j (was k n j e);
    once = λ k n l m j e d. tree.once k n l m j (was k n j e) (was l m j d);
  }

  -- what holds of a node: beside nothing its paths are what they were, and beside a node they are the difference
  abbrev IsLeft : ℕ → Type 0
  IsLeft k = (place_at places k ≡ None → IsSame (below_node (listed ls) k) (below_node h k)) ×
      ((o : NodeNo) → place_at places k ≡ Some (Subset o) → IsDifference (below_node g o.0) (below_node h k) (below_node (listed ls) k))

  same_reach : (o : Option Below) → ((j : NodeNo) → o ≡ Some (Subset j) → IsSame (below_node (listed ls) j.0) (below_node h j.0)) →
      IsSame (reach (listed ls) o) (reach h o)
  same_reach None same part q = none_is (listed ls) part q ∙ sym (none_is h part q)
  same_reach (Some All) same part q = all_is (listed ls) part q ∙ sym (all_is h part q)
  same_reach (Some (Subset j)) same part [] = refl
  same_reach (Some (Subset j)) same part (n ∷ q) = same j refl part (n ∷ q)

  no_names : (k : ℕ) → has_names ls k ≡ false → IsSame (below_node (listed ls) k) nothing
  no_names k e part [] = refl
  no_names k e part (n ∷ q) = ap (λ (o : Option Below). reach (listed ls) o part q) (filled_none (get_or ls k []) e n) ∙
      none_is (listed ls) part q

  -- below a name under which both have a subset
  rest_subset : (o j : NodeNo) → IsDifference (below_node g o.0) (below_node h j.0) (below_node (listed ls) j.0) →
      IsRestBelow (reach g (Some (Subset o))) (reach h (Some (Subset j)))
      (reach (listed ls) (cond (has_names ls j.0) (Some (Subset j)) None))
  rest_subset o j differs =
      let R : Option Below → Type 0 = λ z. IsRestBelow (reach g (Some (Subset o))) (reach h (Some (Subset j))) (reach (listed ls) z) in
      ⊎_elim
      (λ (t : has_names ls j.0 ≡ true).
      let some = filled_some (get_or ls j.0 []) t in
      subst (λ (b : Bool). R (cond b (Some (Subset j)) None)) (sym t)
      (rest_respects (reach g (Some (Subset o))) (reach h (Some (Subset j))) (subset_of (below_node (listed ls) j.0))
      (reach (listed ls) (Some (Subset j))) (subset_reach (listed ls) j)
      (below_rest g h o j (below_node (listed ls) j.0) (λ part. refl) differs some.0
      (ap (λ (z : Option Below). reach (listed ls) z Touched []) some.2 ∙ some_touched (listed ls) some.1))))
      (λ (t : has_names ls j.0 ≡ false).
      subst (λ (b : Bool). R (cond b (Some (Subset j)) None)) (sym t)
      (rest_respects (reach g (Some (Subset o))) (reach h (Some (Subset j))) nothing (reach (listed ls) None)
      (λ part q. sym (none_is (listed ls) part q))
      (below_no_rest g h o j (below_node (listed ls) j.0) (λ part. refl) differs (no_names j.0 t))))
      (cases_Bool (has_names ls j.0))

  -- below a name: what g has there, and what h has
  rest_left : (p o : Option Below) → ((j : NodeNo) → o ≡ Some (Subset j) → IsLeft j.0 × (place_at places j.0 ≡ p)) →
      IsRestBelow (reach g p) (reach h o) (reach (listed ls) (left_of (has_names ls) p o))
  rest_left p None later = rest_along (reach g p) nothing nothing (reach g p) (reach h None) (reach (listed ls) None) (λ part q. refl)
      (λ part q. sym (none_is h part q)) (λ part q. sym (none_is (listed ls) part q)) (rest_nothing (reach g p))
  rest_left None (Some b) later = below_absent g (reach h (Some b)) (reach (listed ls) (Some b))
      (same_reach (Some b) (λ j e. (later j e).0.0 (later j e).1))
  rest_left (Some All) (Some b) later = rest_respects (reach g (Some All)) (reach h (Some b)) nothing (reach (listed ls) None)
      (λ part q. sym (none_is (listed ls) part q)) (below_all_before g (reach h (Some b)))
  rest_left (Some (Subset o)) (Some All) later = rest_respects (reach g (Some (Subset o))) (reach h (Some All)) everything
      (reach (listed ls) (Some All)) (λ part q. sym (all_is (listed ls) part q)) (below_whole g h o)
  rest_left (Some (Subset o)) (Some (Subset j)) later = rest_subset o j ((later j refl).0.1 o (later j refl).1)

  -- a node, after those that it lists
  node_left : (k : ℕ) → ((n : Name) (j : NodeNo) → h k n ≡ Some (Subset j) → IsLeft j.0) → IsLeft k
  node_left k later = (alone, differs)
    where
      alone : place_at places k ≡ None → IsSame (below_node (listed ls) k) (below_node h k)
      alone e part [] = refl
      alone e part (n ∷ q) =
          ap (λ (o : Option Below). reach (listed ls) o part q)
          (is k n ∙ (ap (λ (p : Option Below). left_of (has_names ls) (under g p n) (h k n)) e ∙ all_left (has_names ls) (h k n))) ∙
          same_reach (h k n) (λ j d. (later n j d).0 (beside.each k n j d ∙ ap (λ (p : Option Below). under g p n) e)) part q

      differs : (o : NodeNo) → place_at places k ≡ Some (Subset o) →
          IsDifference (below_node g o.0) (below_node h k) (below_node (listed ls) k)
      differs o e = difference_each (below_node g o.0) (below_node h k) (below_node (listed ls) k) (λ part. refl) (λ part. refl) (λ n.
          subst (λ (z : Option Below). IsRestBelow (reach g (g o.0 n)) (reach h (h k n)) (reach (listed ls) z))
          (sym (is k n ∙ ap (λ (p : Option Below). left_of (has_names ls) (under g p n) (h k n)) e))
          (rest_left (g o.0 n) (h k n) (λ j d. (later n j d, beside.each k n j d ∙ ap (λ (p : Option Below). under g p n) e))))

  -- each node, the last ones first
  all_left_at : (size : ℕ) → IsTree h size → (most k : ℕ) → size ≤ most + k → IsLeft k
  all_left_at size tree zero k h = node_left k (λ n j e. let l = tree.later k n j e in absurd (omega (arith, l.0, l.1, h)))
  all_left_at size tree (suc most) k h = node_left k (λ n j e.
      let l = tree.later k n j e in all_left_at size tree most j.0 (omega (arith, l.0, h)))

  -- the difference is left
  pub difference_left : (size : ℕ) → IsTree h size → IsDifference (below_node g 0) (below_node h 0) (below_node (listed ls) 0)
  difference_left size tree = (all_left_at size tree size 0 (omega arith)).1 (record { 0 = 0 }) beside.first
