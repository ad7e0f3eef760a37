-- Inner: no contract of a public call cites what stands here.
-- The numbers of the nodes that stay, where a node goes and with it each node that it lists.
use Rattle.std.specs.Prelude.{ℕ, zero, suc, ◌≡◌, ◌<◌, ◌+◌, ◌==◌, Bool, true, false, ◌||◌, List, [], ◌∷◌, map, Option}
use Rattle.std.specs.Prelude.{Some, None, get_or, cond, is_some}
use Rattle.fast_check_finder_lattice.specs.declared.lattice.node.NodeNo.{NodeNo}
use Rattle.fast_check_finder_lattice.specs.declared.lattice.node.Below.{Below}
use Rattle.fast_check_finder_lattice.specs.declared.lattice.node.Below.TheVariants.{All, Subset}
use Rattle.fast_check_finder_lattice.specs.Order.{Name, Entry}
use Rattle.fast_check_finder_lattice.specs.Graph.{Graph, moved_below}

-- each node that stays has a number
abbrev pub stays : List (Option ℕ) → ℕ → Bool
stays numbers k = is_some (get_or numbers k None)

abbrev pub number_or_zero : Option ℕ → ℕ
number_or_zero None = 0
number_or_zero (Some m) = m

abbrev pub number : List (Option ℕ) → ℕ → ℕ
number numbers k = number_or_zero (get_or numbers k None)

-- how many stay before a node
abbrev pub rank : (ℕ → Bool) → ℕ → ℕ
rank f zero = 0
rank f (suc k) = cond (f k) (rank f k + 1) (rank f k)

-- what stands under a name is the subset of this node
abbrev pub is_node : Below → ℕ → Bool
is_node All k = false
is_node (Subset j) k = j.0 == k

-- some name of a list leads to this node
abbrev pub lists_node : List Entry → ℕ → Bool
lists_node [] k = false
lists_node (e ∷ es) k = is_node e.1 k || lists_node es k

-- those that a test finds are gone, and the others are as they were
abbrev pub AreGone : (ℕ → Bool) → List (Option ℕ) → List (Option ℕ) → Type 0
AreGone gone old new = (k : ℕ) → get_or new k None ≡ cond (gone k) None (get_or old k None)

-- a node goes, and each that a node lists that goes, and no other
pub record IsWithout (g : Graph) (gone : ℕ) (f : ℕ → Bool) : Type 0 where
  pub itself : f gone ≡ false
  pub down : (k : ℕ) (n : Name) (j : NodeNo) → g k n ≡ Some (Subset j) → f k ≡ false → f j.0 ≡ false
  pub up : (k : ℕ) (n : Name) (j : NodeNo) → g k n ≡ Some (Subset j) → f k ≡ true → (j.0 ≡ gone → ⊥) → f j.0 ≡ true
  pub before : (k : ℕ) → k < gone → f k ≡ true

-- the number of each node that stays is how many stay before it
abbrev pub AreRanks : List (Option ℕ) → Type 0
AreRanks numbers = (k : ℕ) → stays numbers k ≡ true → number numbers k ≡ rank (stays numbers) k

-- what a node lists, under other numbers
abbrev pub moved_entries : (ℕ → ℕ) → List Entry → List Entry
moved_entries to es = map (λ e. (e.0, moved_below to e.1)) es

-- each list of one that stays stands where as many stay before it
abbrev pub AreMovedDown : (ℕ → Bool) → ℕ → List (List Entry) → List (List Entry) → Type 0
AreMovedDown f size old new = (k : ℕ) → k < size → f k ≡ true → get_or new (rank f k) [] ≡ get_or old k []

-- the numbers from one on, as many as there are
abbrev pub AreBehind : ℕ → ℕ → List (Option ℕ) → Type 0
AreBehind first count numbers = (k : ℕ) → k < count → get_or numbers k None ≡ Some (first + k)
