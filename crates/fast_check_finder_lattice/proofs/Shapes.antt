-- The paths of a set are a name set.
use Rattle.std.proofs.Common.{◌≡◌, sym, refl, true, false, [], ◌∷◌, ◌++◌, Option, Some, None}
use Rattle.std.proofs.lemmas.Bool.{false≢true}
use Rattle.fast_check_finder_lattice.specs.declared.lattice.named_subset.NamedSubset.{NamedSubset}
use Rattle.fast_check_finder_lattice.specs.declared.lattice.node.Below.{Below}
use Rattle.fast_check_finder_lattice.specs.declared.lattice.node.Below.TheVariants.{All, Subset}
use Rattle.fast_check_finder_lattice.specs.Graph.{Graph, entry, reach}
use Rattle.fast_check_finder_lattice.specs.Names.{IsNameSet, Path, Part, Touched, Covered, paths}

-- what is covered itself covers all
pub all_below : (g : Graph) (o : Option Below) → reach g o Covered [] ≡ true → (part : Part) (q : Path) →
    reach g o part q ≡ true
all_below g None h part q = absurd (false≢true h)
all_below g (Some All) h part [] = refl
all_below g (Some All) h part (n ∷ q) = refl
all_below g (Some (Subset j)) h part q = absurd (false≢true h)

-- where nothing is touched, nothing is there
pub nothing_below : (g : Graph) (o : Option Below) → reach g o Touched [] ≡ false → (part : Part) (q : Path) →
    reach g o part q ≡ false
nothing_below g None h part [] = refl
nothing_below g None h part (n ∷ q) = refl
nothing_below g (Some All) h part q = absurd (false≢true (sym h))
nothing_below g (Some (Subset j)) h part q = absurd (false≢true (sym h))

touched_start : (g : Graph) (o : Option Below) (q : Path) → reach g o Touched q ≡ true → reach g o Touched [] ≡ true
touched_start g None [] h = h
touched_start g None (n ∷ q) h = h
touched_start g (Some All) q h = refl
touched_start g (Some (Subset j)) q h = refl

-- what is touched is closed under beginnings
closed_begin : (g : Graph) (p q : Path) (o : Option Below) → reach g o Touched (p ++ q) ≡ true →
    reach g o Touched p ≡ true
closed_begin g [] q o h = touched_start g o q h
closed_begin g (n ∷ p) q None h = h
closed_begin g (n ∷ p) q (Some All) h = refl
closed_begin g (n ∷ p) q (Some (Subset j)) h = closed_begin g p q (g j.0 n) h

-- what is covered is closed under longer paths, which are touched too
closed_longer : (g : Graph) (p q : Path) (part : Part) (o : Option Below) → reach g o Covered p ≡ true →
    reach g o part (p ++ q) ≡ true
closed_longer g [] q part o h = all_below g o h part q
closed_longer g (n ∷ p) q part None h = absurd (false≢true h)
closed_longer g (n ∷ p) q part (Some All) h = refl
closed_longer g (n ∷ p) q part (Some (Subset j)) h = closed_longer g p q part (g j.0 n) h

-- the paths of a set are a name set
pub own_set : (s : NamedSubset) → IsNameSet (paths s)
own_set s n = record {
  beginnings = λ p q t. closed_begin (entry s.nodes.items) p q (entry s.nodes.items 0 n) t;
  longer = λ p q part t. closed_longer (entry s.nodes.items) p q part (entry s.nodes.items 0 n) t;
}
