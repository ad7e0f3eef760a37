-- Nodes that list names, as a graph.
use Rattle.std.specs.Prelude.{ℕ, ◌≡◌, ◌<◌, ◌≤◌, ◌+◌, ◌==◌, Bool, true, false, ◌&&◌, ◌||◌, List, [], ◌∷◌}
use Rattle.std.specs.Prelude.{map, Option, Some, None, get_or, cond, Vec, vec_len, vec_capacity, option_map, length}
use Rattle.std.specs.declared.alloc.Global.{Global}
use Rattle.std.specs.Str.{bytes_eq}
use Rattle.fast_check_finder_lattice.specs.Order.{Name, Entry, found}
use Rattle.fast_check_finder_lattice.specs.declared.lattice.node.Node.{Node}
use Rattle.fast_check_finder_lattice.specs.declared.lattice.node.NodeNo.{NodeNo}
use Rattle.fast_check_finder_lattice.specs.declared.lattice.node.Below.{Below}
use Rattle.fast_check_finder_lattice.specs.declared.lattice.node.Below.TheVariants.{All, Subset}

-- names, each looked up below the one before
abbrev pub Path : Type 0
Path = List Name

-- the two sets of paths
pub data Part : Type 0 where
  Touched : Part
  Covered : Part

abbrev pub is_touched : Part → Bool
is_touched Touched = true
is_touched Covered = false

-- for each of the two sets, whether it has a path
abbrev pub NameSet : Type 0
NameSet = Part → Path → Bool

abbrev pub listings : List Node → List (List Entry)
listings nodes = map (λ x. x.names.items) nodes

-- what the node of a number lists under a name
abbrev pub Graph : Type 0
Graph = ℕ → Name → Option Below

abbrev pub listed : List (List Entry) → Graph
listed ls k n = found (get_or ls k []) n

abbrev pub entry : List Node → Graph
entry nodes = listed (listings nodes)

-- what ends a path: nothing, all, or a subset, which is touched and no more
abbrev pub ends : Option Below → Part → Bool
ends None part = false
ends (Some All) part = true
ends (Some (Subset j)) part = is_touched part

-- what goes on: nothing, all, or what the node of the subset says
abbrev pub goes : Option Below → (ℕ → Bool) → Bool
goes None f = false
goes (Some All) f = true
goes (Some (Subset j)) f = f j.0

-- the paths below what stands under a name
abbrev pub reach : Graph → Option Below → NameSet
reach g o part [] = ends o part
reach g o part (n ∷ q) = goes o (λ j. reach g (g j n) part q)

-- the paths below a node
abbrev pub below_node : Graph → ℕ → NameSet
below_node g k part [] = false
below_node g k part (n ∷ q) = reach g (g k n) part q

-- the paths below node 0
abbrev pub rooted : Graph → NameSet
rooted g = below_node g 0

-- what a subset is below its name: the name itself is touched and no more than touched, and longer paths are those of
-- the subset
abbrev pub subset_of : NameSet → NameSet
subset_of f part [] = is_touched part
subset_of f part (n ∷ q) = f part (n ∷ q)

-- node j is listed
abbrev pub HasParent : Graph → ℕ → Type 0
HasParent g j = (p : ℕ × Name) × (g p.0 p.1 ≡ Some (Subset (record { 0 = j })))

-- the nodes below number size are a tree: a node refers to later ones alone, and each but the first is referred to
-- exactly once
pub record IsTree (g : Graph) (size : ℕ) : Type 0 where
  pub later : (k : ℕ) (n : Name) (j : NodeNo) → g k n ≡ Some (Subset j) → (k < j.0) × (j.0 < size)
  pub once : (k : ℕ) (n : Name) (l : ℕ) (m : Name) (j : NodeNo) → g k n ≡ Some (Subset j) → g l m ≡ Some (Subset j) →
      (k ≡ l) × (n ≡ m)
  pub parent : (j : ℕ) → 0 < j → j < size → ∥ HasParent g j ∥₁

-- trees, beside which nodes may stand that nobody refers to: a node refers to later ones alone, and each is referred
-- to at most once
pub record IsForest (g : Graph) (size : ℕ) : Type 0 where
  pub later : (k : ℕ) (n : Name) (j : NodeNo) → g k n ≡ Some (Subset j) → (k < j.0) × (j.0 < size)
  pub once : (k : ℕ) (n : Name) (l : ℕ) (m : Name) (j : NodeNo) → g k n ≡ Some (Subset j) → g l m ≡ Some (Subset j) →
      (k ≡ l) × (n ≡ m)

-- under other numbers
abbrev pub moved_below : (ℕ → ℕ) → Below → Below
moved_below to All = All
moved_below to (Subset j) = Subset (record { 0 = to j.0 })

abbrev pub moved : (ℕ → ℕ) → Option Below → Option Below
moved to = option_map (moved_below to)

-- under the name, node at lists z, and all else is as it was
abbrev pub IsWritten : Graph → ℕ → Name → Option Below → Graph → Type 0
IsWritten g at name z w = (k : ℕ) (n : Name) → w k n ≡ cond (k == at && bytes_eq name n) z (g k n)

-- the nodes of s stand behind the first ones, and node at lists their root under the name
pub record IsGraft (g : Graph) (size at : ℕ) (name : Name) (s w : Graph) : Type 0 where
  pub low : (k : ℕ) (n : Name) → k < size → w k n ≡ cond (k == at && bytes_eq name n)
      (Some (Subset (record { 0 = size }))) (g k n)
  pub high : (k : ℕ) (n : Name) → w (size + k) n ≡ moved (λ m. size + m) (s k n)

-- room for the elements of a vector and more: in it, or in one that is empty
abbrev pub HasRoom : {X : Type 0} → Vec X Global → ℕ → Option (Vec X Global) → Type 0
HasRoom items more None = vec_len items + more ≤ vec_capacity items
HasRoom items more (Some room) = (room.items ≡ []) × (vec_len items + more ≤ vec_capacity room)

-- under the name, node at has also what F has below it, and all else in the nodes that were there is as it was
pub record IsPut (g : Graph) (size at : ℕ) (name : Name) (F : NameSet) (w : Graph) : Type 0 where
  pub now : Option Below
  pub low : (k : ℕ) (n : Name) → k < size → w k n ≡ cond (k == at && bytes_eq name n) now (g k n)
  pub gain : (part : Part) (q : Path) → reach w now part q ≡ (reach g (g at name) part q || F part q)

-- a subset after a node, and within the vector
abbrev pub IsAfter : ℕ → ℕ → Option Below → Type 0
IsAfter at size None = Unit {0}
IsAfter at size (Some All) = Unit {0}
IsAfter at size (Some (Subset j)) = (at < j.0) × (j.0 < size)

-- where a path goes on through the node of a subset
abbrev pub passes : Option Below → (ℕ → Bool) → Bool
passes None f = false
passes (Some All) f = false
passes (Some (Subset j)) f = f j.0

-- the paths from node k that go on from node at by f
abbrev pub through : Graph → ℕ → NameSet → ℕ → NameSet
through g at f k part [] = false
through g at f k part (n ∷ q) = cond (k == at) (f part (n ∷ q)) (passes (g k n) (λ j. through g at f j part q))

-- what stands under the name of a place of a path: the next node, and all under the last
abbrev pub link_at : ℕ → ℕ → Below
link_at count k = cond (k + 1 == count) All (Subset (record { 0 = k + 1 }))

-- each of the first nodes lists one name of the path
abbrev pub IsLine : Path → ℕ → Graph → Type 0
IsLine p count g = (k : ℕ) (n : Name) → k < count →
    g k n ≡ cond (bytes_eq (get_or p k []) n) (Some (link_at (length p) k)) None
