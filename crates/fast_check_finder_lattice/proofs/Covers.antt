-- All is written over a subset, whose node is taken out with all below it.
use Rattle.std.proofs.Common.{◌≡◌, ◌∙◌, sym, ap, refl, subst, ⊎_elim, ℕ, ◌+◌, ◌<◌, ◌≤◌, ◌++◌, Bool, true, false, ◌&&◌, cond, eqb}
use Rattle.std.proofs.Common.{[], ◌∷◌, List, Option, Some, None, arith, get_or, length, map, string_bytes}
use Rattle.std.specs.Str.{bytes_eq}
use Rattle.std.proofs.lemmas.Bool.{false≢true, eq-eqb, cases_Bool, cases_lt, cases_order}
use Rattle.std.proofs.lemmas.List.{length_push, get_or_append_left, get_or_at}
use Rattle.fast_check_finder_lattice.specs.declared.lattice.node.Below.{Below}
use Rattle.fast_check_finder_lattice.specs.declared.lattice.node.NodeNo.{NodeNo}
use Rattle.fast_check_finder_lattice.specs.declared.lattice.node.Below.TheVariants.{All, Subset}
use Rattle.fast_check_finder_lattice.specs.declared.lattice.node.Node.{Node}
use Rattle.fast_check_finder_lattice.specs.Order.{Name, found}
use Rattle.fast_check_finder_lattice.specs.Graph.{Graph, IsTree, IsWritten, listings, entry, moved, moved_below}
use Rattle.fast_check_finder_lattice.specs.Names.{whole_below, everything, IsAdded}
use Rattle.fast_check_finder_lattice.specs.Numbers.{stays, number, number_or_zero, rank, moved_entries, AreBehind, IsWithout, AreRanks, AreMovedDown}
use Rattle.fast_check_finder_lattice.proofs.Lists.{mapped_at}
use Rattle.std.proofs.lemmas.Map.Made.{lookup-map_values}
use Rattle.fast_check_finder_lattice.proofs.Walks.{grown, parent_of, all_no_subset, subset_is, no_is}
use Rattle.fast_check_finder_lattice.proofs.Grafts.{at_or_not}
use Rattle.fast_check_finder_lattice.proofs.Puts.{put_all}
use Rattle.fast_check_finder_lattice.proofs.Extends.{itself}
use Rattle.fast_check_finder_lattice.proofs.Copies.{past_none}
use Rattle.fast_check_finder_lattice.proofs.Compacted.{IsCompacted, tree_compacted, rooted_compacted}
use Rattle.fast_check_finder_lattice.proofs.Numbers.{rank_rises, rank_onto}

-- the nodes that stay have other numbers: those from 0 on, each once, and a node a lower one than those that it lists
pub record IsRenamed (g : Graph) (size : ℕ) (f : ℕ → Bool) (to : ℕ → ℕ) (count : ℕ) : Type 0 where
  pub first : to 0 ≡ 0
  pub rises : (k : ℕ) (n : Name) (j : NodeNo) → f k ≡ true → f j.0 ≡ true → g k n ≡ Some (Subset j) → to k < to j.0
  pub one : (j k : ℕ) → j < size → k < size → f j ≡ true → f k ≡ true → to j ≡ to k → j ≡ k
  pub within : (k : ℕ) → k < size → f k ≡ true → to k < count
  pub onto : (m : ℕ) → m < count → (k : ℕ) × (k < size) × (f k ≡ true) × (to k ≡ m)

module _ (g h : Graph) (size at : ℕ) (name : Name) (no : NodeNo) (f : ℕ → Bool) (tree : IsTree g size)
    (link : g at name ≡ Some (Subset no)) (without : IsWithout g no.0 f) (written : IsWritten g at name (Some All) h) where
  pub ends : (at < no.0) × (no.0 < size)
  ends = tree.later at name no link

  -- a reference that is left was there before, and is not the one that went
  pub was : (k : ℕ) (n : Name) (j : NodeNo) → h k n ≡ Some (Subset j) → g k n ≡ Some (Subset j)
  was k n j e = ⊎_elim
      (λ (s : (k ≡ at) × (name ≡ n) × ((eqb k at && bytes_eq name n) ≡ true)).
      absurd (all_no_subset j (sym (written k n ∙ ap (λ b. cond b (Some All) (g k n)) s.2) ∙ e)))
      (λ s. sym (written k n ∙ ap (λ b. cond b (Some All) (g k n)) s) ∙ e)
      (at_or_not k at name n)

  pub kept : (k : ℕ) (n : Name) (j : NodeNo) → (j.0 ≡ no.0 → ⊥) → g k n ≡ Some (Subset j) → h k n ≡ Some (Subset j)
  kept k n j d e = ⊎_elim
      (λ (s : (k ≡ at) × (name ≡ n) × ((eqb k at && bytes_eq name n) ≡ true)).
      let found : g k n ≡ Some (Subset no) = subst (λ (m : Name). g k m ≡ Some (Subset no)) s.1
      (subst (λ (i : ℕ). g i name ≡ Some (Subset no)) (sym s.0) link) in
      absurd (d (ap (λ (x : NodeNo). x.0) (subset_is j no (sym e ∙ found)))))
      (λ s. written k n ∙ (ap (λ b. cond b (Some All) (g k n)) s ∙ e))
      (at_or_not k at name n)

  covered : h at name ≡ Some All
  covered = written at name ∙ ⊎_elim
      (λ (s : (at ≡ at) × (name ≡ name) × ((eqb at at && bytes_eq name name) ≡ true)). ap (λ b. cond b (Some All) (g at name)) s.2)
      (λ s. absurd (false≢true (sym s ∙ (ap (λ b. b && bytes_eq name name) (eq-eqb at at refl) ∙ itself name)))) (at_or_not at at name name)

  pub not_gone : (k : ℕ) (n : Name) (j : NodeNo) → h k n ≡ Some (Subset j) → j.0 ≡ no.0 → ⊥
  not_gone k n j e same =
      let old : g k n ≡ Some (Subset no) = was k n j e ∙ ap (λ (x : NodeNo). Some (Subset x)) (no_is j no same) in
      let o = tree.once k n at name no old link in
      all_no_subset j (sym covered ∙ (subst (λ (i : ℕ). h i name ≡ Some (Subset j)) o.0 (subst (λ (m : Name). h k m ≡ Some (Subset j)) o.1 e)))

  -- what refers to a node that stays, stays
  pub parent_stays : (k : ℕ) (n : Name) (j : NodeNo) → g k n ≡ Some (Subset j) → f j.0 ≡ true → f k ≡ true
  parent_stays k n j e t = ⊎_elim (λ (s : f k ≡ true). s)
      (λ (s : f k ≡ false). absurd (false≢true (sym (without.down k n j e s) ∙ t)))
      (cases_Bool (f k))

  -- below the root there is all below the name too
  pub written_added : IsAdded g at (whole_below (name ∷ [])) h
  written_added part n q =
      let put = put_all g h size at name written in
      grown g h size at name put.now everything (whole_below (name ∷ [])) tree put.low (λ part x q. refl) put.gain 0
      (omega (arith, ends.1)) n part q

  module _ (w : Graph) (to : ℕ → ℕ) (count : ℕ) (renamed : IsRenamed g size f to count)
      (left : (k : ℕ) (n : Name) → k < size → f k ≡ true → w (to k) n ≡ moved to (h k n))
      (past : (k : ℕ) (n : Name) → count ≤ k → w k n ≡ None) where
    compacted : IsCompacted h size f to w count
    compacted = record {
      later = λ k n j e. tree.later k n j (was k n j e);
      once = λ k n l m j e d. tree.once k n l m j (was k n j e) (was l m j d);
      root = without.before 0 (omega (arith, ends.0));
      children = λ k n j t e. without.up k n j (was k n j e) t (not_gone k n j e);
      parent = λ j some high t.
          let p = parent_of g size tree j some high in
          let l = tree.later p.0.0 p.0.1 (record { 0 = j }) p.1 in (
            p.0,
            parent_stays p.0.0 p.0.1 (record { 0 = j }) p.1 t,
            omega (arith, l.0, l.1),
            kept p.0.0 p.0.1 (record { 0 = j }) (λ e. false≢true (sym without.itself ∙ (ap f (sym e) ∙ t))) p.1,
          );
      first = renamed.first;
      rises = λ k n j t d e. renamed.rises k n j t d (was k n j e);
      one = renamed.one;
      within = renamed.within;
      onto = renamed.onto;
      keeps = left;
      past = past;
    }

    pub tree_covered : IsTree w count
    tree_covered = tree_compacted h size f to w count compacted

    pub cover_added : IsAdded g at (whole_below (name ∷ [])) w
    cover_added part n q = rooted_compacted h size f to w count compacted (omega (arith, ends.1)) part (n ∷ q) ∙ written_added part n q

-- All is written, what stands under the names is renumbered, and the nodes that stay move down
module _ (nodes written moving all : List Node) (size count len at : ℕ) (name : Name) (no : NodeNo) (numbers : List (Option ℕ))
    (tree : IsTree (entry nodes) size) (link : entry nodes at name ≡ Some (Subset no))
    (without : IsWithout (entry nodes) no.0 (stays numbers)) (ranks : AreRanks numbers)
    (is_written : IsWritten (entry nodes) at name (Some All) (entry written))
    (renumbered : listings moving ≡ map (moved_entries (number numbers)) (listings written))
    (same : count ≡ size) (down : AreMovedDown (stays numbers) count (listings moving) (listings all))
    (len_is : len ≡ rank (stays numbers) count) (long : length all ≡ len) where
  count_is : len ≡ rank (stays numbers) size
  count_is = len_is ∙ ap (λ (m : ℕ). rank (stays numbers) m) same

  bounds : (at < no.0) × (no.0 < size)
  bounds = tree.later at name no link

  renamed : IsRenamed (entry nodes) size (stays numbers) (number numbers) (rank (stays numbers) size)
  renamed = record {
    first = ranks 0 (without.before 0 (omega (arith, bounds.0)));
    rises = λ k n j a b e.
        omega (arith, ranks k a, ranks j.0 b, rank_rises (stays numbers) k j.0 a (tree.later k n j e).0);
    one = λ j k w v a b e. ⊎_elim (λ (h : j ≡ k). h) (⊎_elim
        (λ (h : j < k). absurd (omega (arith, ranks j a, ranks k b, rank_rises (stays numbers) j k a h, e)))
        (λ (h : k < j). absurd (omega (arith, ranks j a, ranks k b, rank_rises (stays numbers) k j b h, e)))) (cases_order j k);
    within = λ k l t. omega (arith, ranks k t, rank_rises (stays numbers) k size t l);
    onto = λ m l. let r = rank_onto (stays numbers) size m l in (r.0, r.1, r.2, ranks r.0 r.2 ∙ r.3);
  }

  left : (k : ℕ) (n : Name) → k < size → stays numbers k ≡ true →
      entry all (number numbers k) n ≡ moved (number numbers) (entry written k n)
  left k n l t =
      ap (λ (m : ℕ). entry all m n) (ranks k t) ∙
      (ap (λ es. found es n) (down k (omega (arith, l, same)) t) ∙
      (ap (λ ls. found (get_or ls k []) n) renumbered ∙
      (ap (λ es. found es n) (mapped_at (moved_below (number numbers)) (listings written) k) ∙
      lookup-map_values (moved_below (number numbers)) (λ s. bytes_eq (string_bytes s) n) (get_or (listings written) k []))))

  past : (k : ℕ) (n : Name) → rank (stays numbers) size ≤ k → entry all k n ≡ None
  past k n l = past_none all k (omega (arith, l, count_is, long)) n

  pub tree_left : IsTree (entry all) len
  tree_left = subst (λ (m : ℕ). IsTree (entry all) m) (sym count_is)
      (tree_covered (entry nodes) (entry written) size at name no (stays numbers) tree link without is_written (entry all)
      (number numbers) (rank (stays numbers) size) renamed left past)

  pub added_left : IsAdded (entry nodes) at (whole_below (name ∷ [])) (entry all)
  added_left = cover_added (entry nodes) (entry written) size at name no (stays numbers) tree link without is_written (entry all)
      (number numbers) (rank (stays numbers) size) renamed left past

-- the numbers behind others, and one more
pub behind_more : (first place : ℕ) (numbers : List (Option ℕ)) → length numbers ≡ place → AreBehind first place numbers →
    (length (numbers ++ Some (first + place) ∷ []) ≡ place + 1) × AreBehind first (place + 1) (numbers ++ Some (first + place) ∷ [])
behind_more first place numbers long are = (
  length_push numbers (Some (first + place)) ∙ ap (λ m. m + 1) long,
  λ k h. ⊎_elim
      (λ (l : k < place). get_or_append_left numbers (Some (first + place) ∷ []) None k (omega (arith, l, long)) ∙ are k l)
      (λ (l : place ≤ k). let e : k ≡ place = omega (arith, l, h) in
      ap (λ m. get_or (numbers ++ Some (first + place) ∷ []) m None) e ∙
      (get_or_at numbers (Some (first + place)) [] None place long ∙ ap (λ m. Some (first + m)) (sym e)))
      (cases_lt k place),
)

-- a tree under the numbers behind others
pub behind_shifted : (tree shifted : List Node) (first count : ℕ) (numbers : List (Option ℕ)) → IsTree (entry tree) count →
    AreBehind first count numbers → listings shifted ≡ map (moved_entries (number numbers)) (listings tree) → (k : ℕ) (n : Name) →
    entry shifted k n ≡ moved (λ m. first + m) (entry tree k n)
behind_shifted tree shifted first count numbers is are same k n =
    ap (λ ls. found (get_or ls k []) n) same ∙ (ap (λ es. found es n) (mapped_at (moved_below (number numbers)) (listings tree) k) ∙
    (lookup-map_values (moved_below (number numbers)) (λ s. bytes_eq (string_bytes s) n) (get_or (listings tree) k []) ∙
    each (entry tree k n) refl))
  where
    each : (o : Option Below) → entry tree k n ≡ o → moved (number numbers) o ≡ moved (λ m. first + m) o
    each None e = refl
    each (Some All) e = refl
    each (Some (Subset j)) e = ap (λ o. Some (Subset (record { 0 = number_or_zero o }))) (are j.0 (is.later k n j e).1)
