-- The nodes of one path: they are a tree, and its paths are those of the path whole.
use Rattle.std.proofs.Common.{◌≡◌, ◌∙◌, sym, ap, refl, ⊎_elim, ℕ, suc, ◌+◌, ◌-◌, ◌<◌, ◌≤◌, true, false, ◌&&◌, cond, eqb}
use Rattle.std.proofs.Common.{List, [], ◌∷◌, ◌++◌, Some, None, arith, length, get_or, String}
use Rattle.std.specs.declared.alloc.Global.{Global}
use Rattle.std.specs.Str.{bytes_eq}
use Rattle.std.proofs.lemmas.Bool.{cases_lt, eq-eqb, ne_eqb}
use Rattle.std.proofs.lemmas.Bool.Decides.{eqb_tells}
use Rattle.std.proofs.lemmas.List.{length-append}
use Rattle.fast_check_finder_lattice.specs.declared.lattice.node.Below.TheVariants.{All, Subset}
use Rattle.fast_check_finder_lattice.specs.declared.lattice.node.Node.{Node}
use Rattle.fast_check_finder_lattice.specs.declared.lattice.node.NodeNo.{NodeNo}
use Rattle.fast_check_finder_lattice.specs.Order.{Name, found}
use Rattle.fast_check_finder_lattice.specs.Graph.{Graph, Path, Part, entry, reach, below_node, rooted, IsTree, link_at, IsLine}
use Rattle.fast_check_finder_lattice.specs.Names.{whole_below, whole_path, everything, path_of, subset_of, NameSet, IsSame}
use Rattle.fast_check_finder_lattice.proofs.Lists.{entry_front, entry_behind}
use Rattle.fast_check_finder_lattice.proofs.Extends.{itself}
use Rattle.fast_check_finder_lattice.specs.EqualityProof.{none_is, all_is}
use Rattle.fast_check_finder_lattice.proofs.Walks.{name_shows, all_no_subset, none_no_subset, subset_is}

module _ (g : Graph) (p : Path) (is : IsLine p (length p) g) (past : (k : ℕ) (n : Name) → length p ≤ k → g k n ≡ None) where
  last_link : (k : ℕ) → k + 1 ≡ length p → link_at (length p) k ≡ All
  last_link k e = ap (λ b. cond b All (Subset (record { 0 = k + 1 }))) (eq-eqb (k + 1) (length p) e)

  next_link : (k : ℕ) → (k + 1 ≡ length p → ⊥) → link_at (length p) k ≡ Subset (record { 0 = k + 1 })
  next_link k d = ap (λ b. cond b All (Subset (record { 0 = k + 1 }))) (ne_eqb (k + 1) (length p) d)

  -- a subset is the next node, under the name of its place
  says : (k : ℕ) (n : Name) (j : NodeNo) → g k n ≡ Some (Subset j) → (j.0 ≡ k + 1) × (k + 1 < length p) × (get_or p k [] ≡ n)
  says k n j e = ⊎_elim
      (λ (l : k < length p). ⊎_elim
      (λ (t : (bytes_eq (get_or p k []) n ≡ true) × (get_or p k [] ≡ n)).
      let link : Some (link_at (length p) k) ≡ Some (Subset j) =
      sym (is k n l ∙ ap (λ b. cond b (Some (link_at (length p) k)) None) t.0) ∙ e in ⊎_elim
      (λ (last : (eqb (k + 1) (length p) ≡ true) × (k + 1 ≡ length p)).
      absurd (all_no_subset j (sym (ap Some (last_link k last.1)) ∙ link)))
      (λ (next : (eqb (k + 1) (length p) ≡ false) × (k + 1 ≡ length p → ⊥)).
      let same = subset_is (record { 0 = k + 1 }) j (sym (ap Some (next_link k next.1)) ∙ link) in (
        ap (λ (x : NodeNo). x.0) (sym same),
        ⊎_elim (λ (h : k + 1 < length p). h) (λ h. absurd (next.1 (omega (arith, l, h))))
            (cases_lt (k + 1) (length p)),
        t.1,
      ))
      (eqb_tells (k + 1) (length p)))
      (λ (f : (bytes_eq (get_or p k []) n ≡ false) × (get_or p k [] ≡ n → ⊥)).
      absurd (none_no_subset j (sym (is k n l ∙ ap (λ b. cond b (Some (link_at (length p) k)) None) f.0) ∙ e)))
      (name_shows (get_or p k []) n))
      (λ (l : length p ≤ k). absurd (none_no_subset j (sym (past k n l) ∙ e)))
      (cases_lt k (length p))

  pub tree_line : IsTree g (length p)
  tree_line = record {
    later = λ k n j e. let s = says k n j e in (omega (arith, s.0), omega (arith, s.0, s.1));
    once = λ k n l m j e d.
        let s = says k n j e in
        let t = says l m j d in
        let same : k ≡ l = omega (arith, s.0, t.0) in
        (same, sym s.2 ∙ (ap (λ x. get_or p x []) same ∙ t.2));
    parent = λ j low high.
        let k = j - 1 in
        let next : k + 1 ≡ j = omega (arith, low) in
        ∣ (
          (k, get_or p k []),
          is k (get_or p k []) (omega (arith, low, high)) ∙
              (ap (λ b. cond b (Some (link_at (length p) k)) None) (itself (get_or p k [])) ∙
              (ap Some (next_link k (λ e. omega (arith, e, low, high))) ∙ ap (λ i. Some (Subset (record { 0 = i }))) next)),
        ) ∣₁;
  }

  -- what stands under a name, where the next nodes are the rest of the path
  link_whole : (r : Path) (k : ℕ) → k + 1 + length r ≡ length p →
      ((part : Part) (q : Path) → below_node g (k + 1) part q ≡ whole_path r part q) → (part : Part) (q : Path) →
      reach g (Some (link_at (length p) k)) part q ≡ whole_below r part q
  link_whole [] k end rest part q = ap (λ b. reach g (Some b) part q) (last_link k (omega (arith, end))) ∙ all_is g part q
  link_whole (x ∷ r) k end rest part [] = ap (λ b. reach g (Some b) part []) (next_link k (λ e. omega (arith, e, end)))
  link_whole (x ∷ r) k end rest part (m ∷ q) =
      ap (λ b. reach g (Some b) part (m ∷ q)) (next_link k (λ e. omega (arith, e, end))) ∙ rest part (m ∷ q)

  rest_whole : (r : Path) (k : ℕ) → k + length r ≡ length p → ((i : ℕ) → i < length r → get_or r i [] ≡ get_or p (k + i) []) →
      IsSame (below_node g k) (whole_path r)
  rest_whole [] k end same part [] = refl
  rest_whole [] k end same part (n ∷ q) = ap (λ o. reach g o part q) (past k n (omega (arith, end))) ∙ none_is g part q
  rest_whole (m ∷ r) k end same part [] = refl
  rest_whole (m ∷ r) k end same part (n ∷ q) =
      let here : k + 0 ≡ k = omega arith in
      let name : get_or p k [] ≡ m = sym (same 0 (omega arith) ∙ ap (λ i. get_or p i []) here) in
      let rest = rest_whole r (k + 1) (omega (arith, end)) (λ i l.
      let up : k + suc i ≡ k + 1 + i = omega arith in same (suc i) (omega (arith, l)) ∙ ap (λ i. get_or p i []) up) in
      ap (λ o. reach g o part q) (is k n (omega (arith, end)) ∙ ap (λ x. cond (bytes_eq x n) (Some (link_at (length p) k)) None) name) ∙
      (elim (bytes_eq m n) as (λ b. reach g (cond b (Some (link_at (length p) k)) None) part q ≡ (b && whole_below r part q)) [
        | true ↦ link_whole r k (omega (arith, end)) rest part q
        | false ↦ none_is g part q
      ])

  pub line_whole : IsSame (rooted g) (whole_path p)
  line_whole = rest_whole p 0 (omega arith) (λ i l. let e : i ≡ 0 + i = omega arith in ap (λ m. get_or p m []) e)

-- the nodes of the first places
abbrev pub IsBegun : Path → List Node → ℕ → Type 0
IsBegun p nodes place = (length nodes ≡ place) × IsLine p place (entry nodes)

pub line_more : (p : Path) (nodes : List Node) (place : ℕ) (x : Node) → IsBegun p nodes place →
    ((n : Name) → found x.names.items n ≡ cond (bytes_eq (get_or p place []) n) (Some (link_at (length p) place)) None) →
    IsBegun p (nodes ++ x ∷ []) (place + 1)
line_more p nodes place x begun is = (
  omega (arith, length-append nodes (x ∷ []), begun.0),
  λ k n h. ⊎_elim
      (λ (l : k < place). entry_front nodes (x ∷ []) k n (omega (arith, l, begun.0)) ∙ begun.1 k n l)
      (λ (l : place ≤ k).
      let e : k ≡ length nodes + 0 = omega (arith, l, h, begun.0) in
      let f : place ≡ k = omega (arith, l, h) in
      ap (λ m. entry (nodes ++ x ∷ []) m n) e ∙ (entry_behind nodes (x ∷ []) 0 n ∙ (is n ∙
      ap (λ m. cond (bytes_eq (get_or p m []) n) (Some (link_at (length p) m)) None) f)))
      (cases_lt k place),
)

-- below a name, a path of no parts is all
pub all_whole : (parts : List (String Global)) → length parts ≡ 0 → IsSame everything (whole_below (path_of parts))
all_whole [] none part [] = refl
all_whole [] none part (n ∷ q) = refl
all_whole (s ∷ parts) none part q = absurd (omega (arith, none))

-- below a name, the set of a path is the path whole
pub subset_whole : (f : NameSet) (parts : List (String Global)) → (length parts ≡ 0 → ⊥) → IsSame f (whole_path (path_of parts)) →
    IsSame (subset_of f) (whole_below (path_of parts))
subset_whole f [] some is part q = absurd (some refl)
subset_whole f (s ∷ parts) some is part [] = refl
subset_whole f (s ∷ parts) some is part (n ∷ q) = is part (n ∷ q)
