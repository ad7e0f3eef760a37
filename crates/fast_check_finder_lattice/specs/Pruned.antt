-- Inner: no contract of a public call cites what stands here.
-- What is left of a set whose names go where another set has all that stands below them.
use Rattle.std.specs.Prelude.{ℕ, ◌≡◌, Bool, true, false, List, [], ◌∷◌, Option, Some, None, get_or, set, cond, string_bytes}
use Rattle.std.specs.List.{filter}
use Rattle.fast_check_finder_lattice.specs.declared.lattice.node.NodeNo.{NodeNo}
use Rattle.fast_check_finder_lattice.specs.declared.lattice.node.Below.{Below}
use Rattle.fast_check_finder_lattice.specs.declared.lattice.node.Below.TheVariants.{All, Subset}
use Rattle.fast_check_finder_lattice.specs.Order.{Name, Entry}
use Rattle.fast_check_finder_lattice.specs.Graph.{Graph, listed}

-- what stands under a name, below what stands at a place
abbrev pub under : Graph → Option Below → Name → Option Below
under g None n = None
under g (Some All) n = Some All
under g (Some (Subset j)) n = g j.0 n

-- what is noted for a node: the root, where nothing is
abbrev pub place_at : List (Option Below) → ℕ → Option Below
place_at places k = get_or places k (Some (Subset (record { 0 = 0 })))

-- for the node of each subset that is listed is noted what stands under its name, below a place
abbrev pub AreNoted : Graph → Option Below → (Name → Option Below) → List (Option Below) → Type 0
AreNoted g place listed places = (n : Name) (j : NodeNo) → listed n ≡ Some (Subset j) →
    place_at places j.0 ≡ under g place n

-- for each node of h is noted what g has at its place: for the first the root, and for another what stands under its
-- name, below the place of the node that lists it
pub record AreBeside (g h : Graph) (places : List (Option Below)) : Type 0 where
  pub first : place_at places 0 ≡ Some (Subset (record { 0 = 0 }))
  pub each : (k : ℕ) → AreNoted g (place_at places k) (h k) places

-- for a node that is not listed is noted what was
abbrev pub AreOthersSame : (Name → Option Below) → List (Option Below) → List (Option Below) → Type 0
AreOthersSame listed old new = (k : ℕ) → ((n : Name) → listed n ≡ Some (Subset (record { 0 = k })) → ⊥) →
    place_at new k ≡ place_at old k

-- whether a list has names
abbrev pub is_filled : List Entry → Bool
is_filled [] = false
is_filled (e ∷ es) = true

-- whether a node has names
abbrev pub has_names : List (List Entry) → ℕ → Bool
has_names ls k = is_filled (get_or ls k [])

-- whether what is held lacks something of what stands beside it: of a subset beside one, whether its node has names
abbrev pub lacks : (ℕ → Bool) → Option Below → Below → Bool
lacks filled None b = true
lacks filled (Some All) b = false
lacks filled (Some (Subset o)) All = true
lacks filled (Some (Subset o)) (Subset j) = filled j.0

-- the same of what a list has under a name
abbrev pub lacks_at : (ℕ → Bool) → (Name → Option Below) → Entry → Bool
lacks_at filled held e = lacks filled (held (string_bytes e.0)) e.1

-- one node keeps those of its names of which what is held lacks something; it lists no node itself
abbrev pub kept_at : (Name → Option Below) → ℕ → List (List Entry) → List (List Entry)
kept_at held k ls = set ls k (filter (lacks_at (has_names (set ls k [])) held) (get_or ls k []))

-- what is left under a name
abbrev pub left_of : (ℕ → Bool) → Option Below → Option Below → Option Below
left_of filled held None = None
left_of filled held (Some b) = cond (lacks filled held b) (Some b) None

-- each node of h lists what is left beside g
abbrev pub IsPruned : Graph → List (Option Below) → Graph → List (List Entry) → Type 0
IsPruned g places h ls = (k : ℕ) (n : Name) →
    listed ls k n ≡ left_of (has_names ls) (under g (place_at places k) n) (h k n)
