-- Inner: no contract of a public call cites what stands here.
-- The test of equality holds exactly of equal sets, and so it is an equivalence.
use Rattle.std.proofs.Common.{◌≡◌, ◌∙◌, sym, ap, refl, ⊎_elim, ℕ, zero, suc, ◌+◌, ◌<◌, ◌≤◌, Bool, true, false, ◌&&◌, cond, List}
use Rattle.std.proofs.Common.{[], ◌∷◌, Option, Some, None, string_bytes, ◌↔◌, length, get_or, arith, subst}
use Rattle.std.specs.List.{list_all}
use Rattle.std.specs.Option.{is_some}
use Rattle.std.specs.Str.{bytes_eq}
use Rattle.std.specs.Cmp.{IsEquivalence, IsPartialEquivalence, both_ways, partial_equiv_from_equiv}
use Rattle.std.proofs.lemmas.Bool.{false≢true, cases_Bool, and_parts, and_from}
use Rattle.std.proofs.lemmas.Slice.Eq.{bytes_eq-Decides}
use Rattle.fast_check_finder_lattice.specs.declared.lattice.named_subset.Exports.{Exports}
use Rattle.fast_check_finder_lattice.specs.declared.lattice.named_subset.Exports.TheVariants.{All, Subset}
use Rattle.fast_check_finder_lattice.specs.declared.lattice.named_subset.NamedSubset.{NamedSubset}
use Rattle.fast_check_finder_lattice.specs.declared.lattice.node.NodeNo.{NodeNo}
use Rattle.fast_check_finder_lattice.specs.declared.lattice.node.Below.{Below}
use Rattle.fast_check_finder_lattice.specs.declared.lattice.node.Below.TheVariants as below
use Rattle.fast_check_finder_lattice.specs.Order.{Entry, found}
use Rattle.fast_check_finder_lattice.specs.Graph.{Graph, listings, listed, reach, below_node, IsTree}
use Rattle.fast_check_finder_lattice.specs.Names.{Name, Part, Path, Touched, Covered, NameSet, paths, paths_below, subset_of}
use Rattle.fast_check_finder_lattice.specs.Names.{IsSame, IsBelow}
use Rattle.fast_check_finder_lattice.specs.Equality.{has_below, has_node, is_within, same_names, same_exports}

pub none_is : (g : Graph) (part : Part) (q : Path) → reach g None part q ≡ false
none_is g part [] = refl
none_is g part (n ∷ q) = refl

pub all_is : (g : Graph) (part : Part) (q : Path) → reach g (Some below.All) part q ≡ true
all_is g part [] = refl
all_is g part (n ∷ q) = refl

-- a test of each entry holds of each name that is found
all_found : (P : Name → Bool) (es : List Entry) → list_all (λ e. P (string_bytes e.0)) es ≡ true → (n : Name) →
    is_some (found es n) ≡ true → P n ≡ true
all_found P [] h n t = absurd (false≢true t)
all_found P (e ∷ es) h n t = ⊎_elim
    (λ (s : bytes_eq (string_bytes e.0) n ≡ true). subst (λ (m : Name). P m ≡ true)
    ((bytes_eq-Decides (string_bytes e.0) n).0 s)
    (and_parts (P (string_bytes e.0)) (list_all (λ e. P (string_bytes e.0)) es) h).0)
    (λ (s : bytes_eq (string_bytes e.0) n ≡ false). all_found P es
    (and_parts (P (string_bytes e.0)) (list_all (λ e. P (string_bytes e.0)) es) h).1 n
    (sym (ap (λ b. is_some (cond b (Some e.1) (found es n))) s) ∙ t))
    (cases_Bool (bytes_eq (string_bytes e.0) n))

all_listed : (P : Name → Bool) (es : List Entry) → ((n : Name) → P n ≡ true) →
    list_all (λ e. P (string_bytes e.0)) es ≡ true
all_listed P [] h = refl
all_listed P (e ∷ es) h = ap (λ b. b && list_all (λ e. P (string_bytes e.0)) es) (h (string_bytes e.0)) ∙
    all_listed P es h

module _ (g h : Graph) where
  pub reached_some : (o : Option Below) (part : Part) (q : Path) → reach g o part q ≡ true → is_some o ≡ true
  reached_some None part q u = absurd (false≢true (sym (none_is g part q) ∙ u))
  reached_some (Some b) part q u = refl

  pub subset_within : (i j : NodeNo) → IsBelow (below_node g i.0) (below_node h j.0) →
      IsBelow (reach g (Some (below.Subset i))) (reach h (Some (below.Subset j)))
  subset_within i j e part [] u = u
  subset_within i j e part (n ∷ q) u = e part (n ∷ q) u

  pub node_within : (i j : NodeNo) → IsBelow (reach g (Some (below.Subset i))) (reach h (Some (below.Subset j))) →
      IsBelow (below_node g i.0) (below_node h j.0)
  node_within i j e part [] u = u
  node_within i j e part (n ∷ q) u = e part (n ∷ q) u

  module _ (test : ℕ → ℕ → Bool) where
    within : (o p : Option Below) →
        ((i j : NodeNo) → test i.0 j.0 ≡ true → IsBelow (below_node g i.0) (below_node h j.0)) →
        has_below test o p ≡ true → IsBelow (reach g o) (reach h p)
    within None p r t part q u = absurd (false≢true (sym (none_is g part q) ∙ u))
    within (Some below.All) None r t part q u = absurd (false≢true t)
    within (Some below.All) (Some below.All) r t part q u = all_is h part q
    within (Some below.All) (Some (below.Subset j)) r t part q u = absurd (false≢true t)
    within (Some (below.Subset i)) None r t part q u = absurd (false≢true t)
    within (Some (below.Subset i)) (Some below.All) r t part q u = all_is h part q
    within (Some (below.Subset i)) (Some (below.Subset j)) r t part q u = subset_within i j (r i j t) part q u

    has : (o p : Option Below) → ((i j : NodeNo) → o ≡ Some (below.Subset i) →
        IsBelow (below_node g i.0) (below_node h j.0) → test i.0 j.0 ≡ true) →
        IsBelow (reach g o) (reach h p) → has_below test o p ≡ true
    has None p r e = refl
    has (Some below.All) None r e = e Touched [] refl
    has (Some below.All) (Some below.All) r e = refl
    has (Some below.All) (Some (below.Subset j)) r e = e Covered [] refl
    has (Some (below.Subset i)) None r e = e Touched [] refl
    has (Some (below.Subset i)) (Some below.All) r e = refl
    has (Some (below.Subset i)) (Some (below.Subset j)) r e = r i j refl (node_within i j e)

module _ (ls ms : List (List Entry)) (size : ℕ) (tree : IsTree (listed ls) size) where
  forth : (fuel i j : ℕ) → has_node ls ms fuel i j ≡ true →
      IsBelow (below_node (listed ls) i) (below_node (listed ms) j)
  forth zero i j t part q u = absurd (false≢true t)
  forth (suc fuel) i j t part [] u = u
  forth (suc fuel) i j t part (n ∷ q) u =
      within (listed ls) (listed ms) (has_node ls ms fuel) (listed ls i n) (listed ms j n) (λ a b. forth fuel a.0 b.0)
      (all_found (λ n. has_below (has_node ls ms fuel) (listed ls i n) (listed ms j n)) (get_or ls i []) t n
      (reached_some (listed ls) (listed ms) (listed ls i n) part q u)) part q u

  back : (fuel i j : ℕ) → i ≤ size → size < fuel + i →
      IsBelow (below_node (listed ls) i) (below_node (listed ms) j) → has_node ls ms fuel i j ≡ true
  back zero i j w f e = absurd (omega (arith, w, f))
  back (suc fuel) i j w f e =
      all_listed (λ n. has_below (has_node ls ms fuel) (listed ls i n) (listed ms j n)) (get_or ls i []) (λ n.
      has (listed ls) (listed ms) (has_node ls ms fuel) (listed ls i n) (listed ms j n)
      (λ a b is. let l = tree.later i n a is in back fuel a.0 b.0 (omega (arith, l.1)) (omega (arith, l.0, f)))
      (λ part q. e part (n ∷ q)))

pub within_decides : (s t : NamedSubset) → (is_within s t ≡ true) ↔ IsBelow (paths s) (paths t)
within_decides s t =
    let ls = listings s.nodes.items in
    let ms = listings t.nodes.items in
    let n : length s.nodes.items ≡ s.nodes.len = omega (arith, s.nodes.ok.0) in (
      forth ls ms s.nodes.len s.tree (suc (length s.nodes.items)) 0 0,
      back ls ms s.nodes.len s.tree (suc (length s.nodes.items)) 0 0 (omega arith) (omega (arith, n)),
    )

pub both_below : (a b : NameSet) → IsBelow a b → IsBelow b a → IsSame a b
both_below a b f h part p = both_ways (a part p) (b part p) (f part p) (h part p)

pub same_decides : (s t : NamedSubset) → (same_names s t ≡ true) ↔ IsSame (paths s) (paths t)
same_decides s t = (
  λ u. let both = and_parts (is_within s t) (is_within t s) u in
      both_below (paths s) (paths t) ((within_decides s t).0 both.0) ((within_decides t s).0 both.1),
  λ e. and_from (is_within s t) (is_within t s) ((within_decides s t).1 (λ part p u. sym (e part p) ∙ u))
      ((within_decides t s).1 (λ part p u. e part p ∙ u)),
)

pub same_subsets : (f h : NameSet) → IsSame f h → IsSame (subset_of f) (subset_of h)
same_subsets f h e part [] = refl
same_subsets f h e part (m ∷ q) = e part (m ∷ q)

pub subsets_same : (f h : NameSet) → ((part : Part) → f part [] ≡ h part []) → IsSame (subset_of f) (subset_of h) →
    IsSame f h
subsets_same f h n e part [] = n part
subsets_same f h n e part (m ∷ q) = e part (m ∷ q)

pub same_below_decides : (x y : Exports) → (same_exports x y ≡ true) ↔ IsSame (paths_below x) (paths_below y)
same_below_decides All All = (λ t part p. refl, λ e. refl)
same_below_decides All (Subset t) = (λ u. absurd (false≢true u), λ e. sym (e Covered []))
same_below_decides (Subset s) All = (λ u. absurd (false≢true u), λ e. e Covered [])
same_below_decides (Subset s) (Subset t) = (
  λ u. same_subsets (paths s) (paths t) ((same_decides s t).0 u),
  λ e. (same_decides s t).1 (subsets_same (paths s) (paths t) (λ part. refl) e),
)

module _ {X : Type 0} (test : X → X → Bool) (set : X → NameSet)
    (decides : (x y : X) → (test x y ≡ true) ↔ IsSame (set x) (set y)) where
  back_again : (x y : X) → test x y ≡ true → test y x ≡ true
  back_again x y h = (decides y x).1 (λ part p. sym ((decides x y).0 h part p))

  along : (x y z : X) → test x y ≡ true → test y z ≡ true → test x z ≡ true
  along x y z h k = (decides x z).1 (λ part p. (decides x y).0 h part p ∙ (decides y z).0 k part p)

  equivalence : IsEquivalence test
  equivalence = record {
    refl = λ x. (decides x x).1 (λ part p. refl);
    symm = λ x y. both_ways (test x y) (test y x) (back_again x y) (back_again y x);
    congr = λ x y z h. both_ways (test x z) (test y z) (along y x z (back_again x y h)) (along x y z h);
  }

pub names_equiv : IsEquivalence same_names
names_equiv = equivalence same_names paths same_decides

pub exports_equiv : IsEquivalence same_exports
exports_equiv = equivalence same_exports paths_below same_below_decides

pub names_laws : IsPartialEquivalence same_names
names_laws = partial_equiv_from_equiv names_equiv

pub exports_laws : IsPartialEquivalence same_exports
exports_laws = partial_equiv_from_equiv exports_equiv
