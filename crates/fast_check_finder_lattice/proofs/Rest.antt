-- The least difference, name by name.
use Rattle.std.proofs.Common.{◌≡◌, ◌∙◌, sym, refl, subst, Bool, true, false, ◌||◌, [], ◌∷◌, Some, None}
use Rattle.std.proofs.lemmas.Bool.{or_left, or_right, false≢true}
use Rattle.fast_check_finder_lattice.specs.declared.lattice.node.NodeNo.{NodeNo}
use Rattle.fast_check_finder_lattice.specs.declared.lattice.node.Below.TheVariants.{All, Subset}
use Rattle.fast_check_finder_lattice.specs.Graph.{Graph, reach, below_node, is_touched}
use Rattle.fast_check_finder_lattice.specs.Names.{Name, Part, Touched, Covered, NameSet, nothing, everything, subset_of, IsBelow, IsBelowJoin}
use Rattle.fast_check_finder_lattice.specs.Names.{IsClosed, IsNameSet, IsSame, HasMore, IsDifference, IsRestBelow, IsDifferenceBelow, paths_below}
use Rattle.fast_check_finder_lattice.specs.declared.lattice.named_subset.Exports.{Exports}
use Rattle.fast_check_finder_lattice.proofs.Sets.{of_source_along, of_itself, of_nothing, of_subset, of_each}
use Rattle.fast_check_finder_lattice.specs.EqualityProof.{none_is, all_is}
use Rattle.fast_check_finder_lattice.specs.Names.{at_name}
use Rattle.fast_check_finder_lattice.proofs.Copies.{subset_reach}
use Rattle.fast_check_finder_lattice.proofs.Walks.{none_some}

-- along equal sets
pub rest_along : (o n a p m b : NameSet) → IsSame o p → IsSame n m → IsSame a b → IsRestBelow o n a → IsRestBelow p m b
rest_along o n a p m b eo en ea is = record {
  least = λ e closed. (
    λ h part q t. subst (λ (x : Bool). (x || e part q) ≡ true) (eo part q)
        ((is.least e closed).0 (λ part2 r u. h part2 r (sym (ea part2 r) ∙ u)) part q (en part q ∙ t)),
    λ h part q t. (is.least e closed).1
        (λ part2 r u. subst (λ (x : Bool). (x || e part2 r) ≡ true) (sym (eo part2 r)) (h part2 r (sym (en part2 r) ∙ u))) part q
        (ea part q ∙ t),
  );
  of_new = of_source_along a n b m ea en is.of_new;
  progress = λ t. let h = is.progress (ea Touched [] ∙ t) in (h.0, h.1, sym (ea h.0 h.1) ∙ h.2, sym (eo h.0 h.1) ∙ h.3);
}

-- what a name that was absent gives
pub rest_absent : (f z : NameSet) → IsSame z f → IsRestBelow nothing f z
rest_absent f z same = record {
  least = λ e closed. (λ h part p t. h part p (same part p ∙ t), λ h part p t. h part p (sym (same part p) ∙ t));
  of_new = of_source_along f f z f (λ part p. sym (same part p)) (λ part p. refl) (of_itself f);
  progress = λ t. (Touched, [], t, refl);
}

-- of nothing new, nothing
pub rest_nothing : (f : NameSet) → IsRestBelow f nothing nothing
rest_nothing f = record {
  least = λ e closed. (λ h part p t. absurd (false≢true t), λ h part p t. absurd (false≢true t));
  of_new = of_nothing nothing;
  progress = λ t. absurd (false≢true t);
}

-- beside all, nothing is new
pub rest_all_before : (f : NameSet) → IsRestBelow everything f nothing
rest_all_before f = record {
  least = λ e closed. (λ h part p t. refl, λ h part p t. absurd (false≢true t));
  of_new = of_nothing f;
  progress = λ t. absurd (false≢true t);
}

-- beside a subset, all is
pub rest_whole : (o : NameSet) → IsRestBelow (subset_of o) everything everything
rest_whole o = record {
  least = λ e closed.
      (λ h part p t. or_right (subset_of o part p) (e part p) (h part p refl), λ h part p t. closed.longer [] p part (h Covered [] refl));
  of_new = of_itself everything;
  progress = λ t. (Covered, [], refl, refl);
}

-- each set that is closed is one of names
named_set : (e : NameSet) → IsClosed e → IsNameSet e
named_set e closed = λ n. record {
  beginnings = λ p q t. closed.beginnings (n ∷ p) q t;
  longer = λ p q part t. closed.longer (n ∷ p) q part t;
}

module _ (o s d : NameSet) (o_nil : o Covered [] ≡ false) (s_nil : (part : Part) → s part [] ≡ false)
    (d_nil : (part : Part) → d part [] ≡ false)
    (is : IsDifference o s d) where
  -- what lies above of the part of new that old lacks
  above : (e : NameSet) → IsBelowJoin s o e → IsBelowJoin (subset_of s) (subset_of o) e
  above e h part [] t = or_left (is_touched part) (e part []) t
  above e h part (n ∷ p) t = h part (n ∷ p) t

  within : (e : NameSet) → IsBelowJoin (subset_of s) (subset_of o) e → IsBelowJoin s o e
  within e h part [] t = absurd (false≢true (sym (s_nil part) ∙ t))
  within e h part (n ∷ p) t = h part (n ∷ p) t

  -- nothing is left
  pub rest_none : IsSame d nothing → IsRestBelow (subset_of o) (subset_of s) nothing
  rest_none empty = record {
    least = λ e closed. (
      λ h. above e ((is.least e (named_set e closed)).0 (λ part p t. absurd (false≢true (sym (empty part p) ∙ t)))),
      λ h part p t. absurd (false≢true t),
    );
    of_new = of_nothing (subset_of s);
    progress = λ t. absurd (false≢true t);
  }

  -- the difference has a name
  pub rest_some : (n : Name) → d Touched (n ∷ []) ≡ true → IsRestBelow (subset_of o) (subset_of s) (subset_of d)
  rest_some n has = record {
    least = λ e closed. (
      λ h. above e ((is.least e (named_set e closed)).0 (below_d e h)),
      λ h. back e closed ((is.least e (named_set e closed)).1 (within e h)),
    );
    of_new = of_subset d s (d_nil Covered) (s_nil Covered) is.of_new;
    progress = λ t. let h = is.progress n has in (h.0, n ∷ h.1, h.2, h.3);
  }
    where
      below_d : (e : NameSet) → IsBelow (subset_of d) e → IsBelow d e
      below_d e h part [] t = absurd (false≢true (sym (d_nil part) ∙ t))
      below_d e h part (m ∷ p) t = h part (m ∷ p) t

      back : (e : NameSet) → IsClosed e → IsBelow d e → IsBelow (subset_of d) e
      back e closed h Touched [] t = closed.beginnings [] (n ∷ []) (h Touched (n ∷ []) has)
      back e closed h Covered [] t = absurd (false≢true t)
      back e closed h part (m ∷ p) t = h part (m ∷ p) t

-- name by name, of whole sets
pub difference_each : (old new answer : NameSet) → ((part : Part) → new part [] ≡ false) → ((part : Part) → answer part [] ≡ false) →
    ((n : Name) → IsRestBelow (at_name old n) (at_name new n) (at_name answer n)) → IsDifference old new answer
difference_each old new answer n_nil a_nil each = record {
  least = λ e names. (joins e names, backs e names);
  of_new = of_each answer new (a_nil Touched) (a_nil Covered) (n_nil Covered) (λ n. (each n).of_new);
  progress = λ n t. (each n).progress t;
}
  where
    joins : (e : NameSet) → IsNameSet e → IsBelow answer e → IsBelowJoin new old e
    joins e names h part [] t = absurd (false≢true (sym (n_nil part) ∙ t))
    joins e names h part (n ∷ q) t = ((each n).least (at_name e n) (names n)).0 (λ p2 r u. h p2 (n ∷ r) u) part q t

    backs : (e : NameSet) → IsNameSet e → IsBelowJoin new old e → IsBelow answer e
    backs e names h part [] t = absurd (false≢true (sym (a_nil part) ∙ t))
    backs e names h part (n ∷ q) t = ((each n).least (at_name e n) (names n)).1 (λ p2 r u. h p2 (n ∷ r) u) part q t

pub rest_respects : (o n f h : NameSet) → IsSame f h → IsRestBelow o n f → IsRestBelow o n h
rest_respects o n f h e is = rest_along o n f o n h (λ part p. refl) (λ part p. refl) e is

-- along an equal answer
pub difference_respects : (o n a b : NameSet) → IsSame a b → IsDifference o n a → IsDifference o n b
difference_respects o n a b same is = record {
  least = λ e names. (
    λ h part q t. (is.least e names).0 (λ p2 r u. h p2 r (sym (same p2 r) ∙ u)) part q t,
    λ h part q t. (is.least e names).1 h part q (same part q ∙ t),
  );
  of_new = of_source_along a n b n same (λ part q. refl) is.of_new;
  progress = λ m t. let h = is.progress m (same Touched (m ∷ []) ∙ t) in (h.0, h.1, sym (same h.0 (m ∷ h.1)) ∙ h.2, h.3);
}

pub below_absent : (g : Graph) (f z : NameSet) → IsSame z f → IsRestBelow (reach g None) f z
below_absent g f z same = rest_along nothing f z (reach g None) f z (λ part p. sym (none_is g part p)) (λ part p. refl) (λ part p. refl)
    (rest_absent f z same)

pub below_all_before : (g : Graph) (f : NameSet) → IsRestBelow (reach g (Some All)) f nothing
below_all_before g f = rest_along everything f nothing (reach g (Some All)) f nothing (λ part p. sym (all_is g part p)) (λ part p. refl)
    (λ part p. refl) (rest_all_before f)

pub below_whole : (g h : Graph) (o : NodeNo) → IsRestBelow (reach g (Some (Subset o))) (reach h (Some All)) everything
below_whole g h o = rest_along (subset_of (below_node g o.0)) everything everything (reach g (Some (Subset o)))
    (reach h (Some All)) everything
    (subset_reach g o) (λ part p. sym (all_is h part p)) (λ part p. refl) (rest_whole (below_node g o.0))

pub below_no_rest : (g h : Graph) (o n : NodeNo) (d : NameSet) → ((part : Part) → d part [] ≡ false) →
    IsDifference (below_node g o.0) (below_node h n.0) d → IsSame d nothing →
    IsRestBelow (reach g (Some (Subset o))) (reach h (Some (Subset n))) nothing
below_no_rest g h o n d nil is empty = rest_along (subset_of (below_node g o.0)) (subset_of (below_node h n.0)) nothing
    (reach g (Some (Subset o))) (reach h (Some (Subset n))) nothing
    (subset_reach g o) (subset_reach h n) (λ part p. refl)
    (rest_none (below_node g o.0) (below_node h n.0) d refl (λ part. refl) nil is empty)

pub below_rest : (g h : Graph) (o n : NodeNo) (d : NameSet) → ((part : Part) → d part [] ≡ false) →
    IsDifference (below_node g o.0) (below_node h n.0) d → (m : Name) →
    d Touched (m ∷ []) ≡ true → IsRestBelow (reach g (Some (Subset o))) (reach h (Some (Subset n))) (subset_of d)
below_rest g h o n d nil is m has = rest_along (subset_of (below_node g o.0)) (subset_of (below_node h n.0)) (subset_of d)
    (reach g (Some (Subset o))) (reach h (Some (Subset n))) (subset_of d)
    (subset_reach g o) (subset_reach h n) (λ part p. refl)
    (rest_some (below_node g o.0) (below_node h n.0) d refl (λ part. refl) nil is m has)

some_same : (x y : Exports) → Some x ≡ Some y → x ≡ y
some_same x y e = cc

-- over what is handed out
pub of_rest : (x y : Exports) → IsRestBelow (paths_below x) (paths_below y) nothing → IsDifferenceBelow (Some x) (Some y) None
of_rest x y is = record { least = is.least; of_new = is.of_new; progress = λ z e. absurd (none_some z e) }

pub of_rest_some : (x y z : Exports) → paths_below z Touched [] ≡ true → IsRestBelow (paths_below x) (paths_below y) (paths_below z) →
    IsDifferenceBelow (Some x) (Some y) (Some z)
of_rest_some x y z t is = record {
  least = is.least;
  of_new = is.of_new;
  progress = λ v e. subst (λ (v : Exports). HasMore (paths_below v) (paths_below x)) (some_same z v e) (is.progress t);
}
