-- Loops that compare two nodes, name by name.
use Rattle.std.proofs.Common.{◌≡◌, ◌∙◌, sym, ap, refl, subst, ⊎_elim, ℕ, ◌+◌, ◌<◌, ◌↔◌, Bool, true, false, cond, List, [], ◌∷◌, Option, Some}
use Rattle.std.proofs.Common.{None, take, length, get_or, string_bytes}
use Rattle.std.specs.Str.{bytes_eq}
use Rattle.std.proofs.lemmas.Bool.{false≢true}
use Rattle.fast_check_finder_lattice.specs.declared.lattice.node.NodeNo.{NodeNo}
use Rattle.fast_check_finder_lattice.specs.declared.lattice.node.Below.{Below}
use Rattle.fast_check_finder_lattice.specs.declared.lattice.node.Below.TheVariants.{All, Subset}
use Rattle.fast_check_finder_lattice.specs.Order.{Entry, found, IsOnce}
use Rattle.fast_check_finder_lattice.specs.Graph.{Graph, Touched, Covered, reach, below_node}
use Rattle.fast_check_finder_lattice.specs.Names.{Name, IsBelow, paths}
use Rattle.fast_check_finder_lattice.proofs.Walks.{name_shows}
use Rattle.fast_check_finder_lattice.proofs.Built.{one_more}
use Rattle.fast_check_finder_lattice.proofs.Copies.{some_touched}
use Rattle.fast_check_finder_lattice.specs.EqualityProof.{none_is, within_decides}
use Rattle.fast_check_finder_lattice.specs.Equality.{is_within}
use Rattle.std.specs.Cmp.{both_ways}
use Rattle.fast_check_finder_lattice.specs.declared.lattice.named_subset.NamedSubset.{NamedSubset}

-- P holds of what is found
abbrev pub Found : (Below → Type 0) → Option Below → Type 0
Found P None = Unit {0}
Found P (Some b) = P b

-- P holds of each name that came
abbrev pub IsKept : (Name → Below → Type 0) → List Entry → Type 0
IsKept P es = (n : Name) → Found (P n) (found es n)

pub kept_more : (P : Name → Below → Type 0) (es : List Entry) → IsOnce es → (i : ℕ) (e : Entry) → i < length es → e ≡ get_or es i e →
    IsKept P (take i es) → P (string_bytes e.0) e.1 → IsKept P (take (i + 1) es)
kept_more P es once i e within is kept holds n = ⊎_elim
    (λ (t : (bytes_eq (string_bytes e.0) n ≡ true) × (string_bytes e.0 ≡ n)).
    subst (λ (o : Option Below). Found (P n) o)
    (sym (one_more es once i e within is n ∙ ap (λ b. cond b (Some e.1) (found (take i es) n)) t.0))
    (subst (λ (m : Name). P m e.1) t.1 holds))
    (λ (t : (bytes_eq (string_bytes e.0) n ≡ false) × (string_bytes e.0 ≡ n → ⊥)).
    subst (λ (o : Option Below). Found (P n) o)
    (sym (one_more es once i e within is n ∙ ap (λ b. cond b (Some e.1) (found (take i es) n)) t.0)) (kept n))
    (name_shows (string_bytes e.0) n)

-- what the names of a node have below them, stands below them in another
abbrev pub WithinP : Graph → Graph → ℕ → Name → Below → Type 0
WithinP g h b n x = IsBelow (reach g (Some x)) (reach h (h b n))

module _ (g h : Graph) where
  found_within : (o p : Option Below) → Found (λ x. IsBelow (reach g (Some x)) (reach h p)) o → IsBelow (reach g o) (reach h p)
  found_within None p f part q u = absurd (false≢true (sym (none_is g part q) ∙ u))
  found_within (Some x) p f part q u = f part q u

  pub each_within : (a b : ℕ) → ((n : Name) → Found (WithinP g h b n) (g a n)) → IsBelow (below_node g a) (below_node h b)
  each_within a b each part [] u = u
  each_within a b each part (n ∷ q) u = found_within (g a n) (h b n) (each n) part q u

  -- what stands under one name
  pub within_under : (a b : ℕ) (n : Name) (o p : Option Below) → g a n ≡ o → h b n ≡ p → IsBelow (below_node g a) (below_node h b) →
      IsBelow (reach g o) (reach h p)
  within_under a b n o p eo ep e part q u =
      sym (ap (λ x. reach h x part q) ep) ∙ e part (n ∷ q) (ap (λ x. reach g x part q) eo ∙ u)

  pub some_not_none : (x : Below) → IsBelow (reach g (Some x)) (reach h None) → ⊥
  some_not_none x e = false≢true (e Touched [] (some_touched g x))

  pub all_not_subset : (j : NodeNo) → IsBelow (reach g (Some All)) (reach h (Some (Subset j))) → ⊥
  all_not_subset j e = false≢true (e Covered [] refl)

-- a test that tells whether a set is within another is the one of the definition
pub within_value : (s t : NamedSubset) (r : Bool) → (r ≡ true) ↔ IsBelow (paths s) (paths t) → r ≡ is_within s t
within_value s t r w = both_ways r (is_within s t) (λ u. (within_decides s t).1 (w.0 u)) (λ u. w.1 ((within_decides s t).0 u))
