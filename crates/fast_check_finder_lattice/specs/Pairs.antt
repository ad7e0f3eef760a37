-- Inner: no contract of a public call cites what stands here.
-- Two sets that are joined in the order of a queue of pairs. A pair has a node of the first set and one of the second
-- that stand at the same place. Past the nodes of a set, a number stands for none.
use Rattle.std.specs.Prelude.{ℕ, ◌≡◌, ◌<◌, ◌≤◌, List, [], ◌∷◌, ◌++◌, Option, Some, None, get_or, length, string_bytes}
use Rattle.fast_check_finder_lattice.specs.declared.lattice.node.NodeNo.{NodeNo}
use Rattle.fast_check_finder_lattice.specs.declared.lattice.node.Below.{Below}
use Rattle.fast_check_finder_lattice.specs.declared.lattice.node.Below.TheVariants.{All, Subset}
use Rattle.fast_check_finder_lattice.specs.declared.lattice.joins.Pair.{Pair}
use Rattle.fast_check_finder_lattice.specs.declared.lattice.joins.Both.{Both}
use Rattle.fast_check_finder_lattice.specs.declared.lattice.joins.Both.TheVariants.{Whole, Nodes}
use Rattle.fast_check_finder_lattice.specs.Order.{Name, Entry}

-- the pair at a place of a queue
abbrev pub pair_at : List Pair → ℕ → Pair
pair_at queue k = get_or queue k (record { first = 0; second = 0 })

-- what comes of what stands under a name of the first set, beside what the second has there; b is no node of the second
abbrev pub beside : ℕ → Below → Option Below → Both
beside b All p = Whole
beside b (Subset i) None = Nodes (record { first = i.0; second = b })
beside b (Subset i) (Some All) = Whole
beside b (Subset i) (Some (Subset j)) = Nodes (record { first = i.0; second = j.0 })

-- what comes of what the second set alone has under a name; a is no node of the first
abbrev pub alone : ℕ → Below → Both
alone a All = Whole
alone a (Subset j) = Nodes (record { first = a; second = j.0 })

-- what comes of what either has under a name
abbrev pub both : ℕ → ℕ → Option Below → Option Below → Option Both
both a b None None = None
both a b None (Some c) = Some (alone a c)
both a b (Some c) p = Some (beside b c p)

-- the pair that joins the queue, if it is one
abbrev pub pairs_of : Both → List Pair
pairs_of Whole = []
pairs_of (Nodes pair) = pair ∷ []

-- what is listed of it, where the queue has count pairs
abbrev pub numbered : ℕ → Both → Below
numbered count Whole = All
numbered count (Nodes pair) = Subset (record { 0 = count })

-- what is listed, with the pair at a place for the place
abbrev pub with_pairs : (ℕ → Pair) → Option Below → Option Both
with_pairs at None = None
with_pairs at (Some All) = Some Whole
with_pairs at (Some (Subset j)) = Some (Nodes (at j.0))

-- one name more is listed, and its pair joins the queue
pub record IsPushed (es fs : List Entry) (queue longer : List Pair) (name : Name) (x : Both) : Type 0 where
  pub last : Entry
  pub listed : fs ≡ es ++ last ∷ []
  pub name_is : string_bytes last.0 ≡ name
  pub below_is : last.1 ≡ numbered (length queue) x
  pub queued : longer ≡ queue ++ pairs_of x

-- a node that is made lists f, as m says: its subsets have the places that the queue gained, each once
pub record IsMade (before queue : List Pair) (f : Name → Option Below) (m : Name → Option Both) : Type 0 where
  pub more : List Pair
  pub gained : queue ≡ before ++ more
  pub same : (n : Name) → m n ≡ with_pairs (pair_at queue) (f n)
  pub range : (n : Name) (j : NodeNo) → f n ≡ Some (Subset j) → (length before ≤ j.0) × (j.0 < length queue)
  pub once : (n l : Name) (j : NodeNo) → f n ≡ Some (Subset j) → f l ≡ Some (Subset j) → n ≡ l
  pub each : (j : ℕ) → length before ≤ j → j < length queue → (n : Name) × (f n ≡ Some (Subset (record { 0 = j })))
