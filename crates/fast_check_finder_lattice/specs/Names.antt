-- Name sets: which paths of names a value touches, and which it covers.
use Rattle.std.specs.Prelude.{ℕ, ◌≡◌, ◌≢◌, AllPairs, ◌↔◌, Bool, true, false, ◌&&◌, ◌||◌, not, List, [], ◌∷◌, ◌++◌, map}
use Rattle.std.specs.Prelude.{Option, Some, None, IsTrue, String, string_bytes, length, ◌+◌, ◌<◌}
use Rattle.std.specs.Str.{bytes_eq}
use Rattle.std.specs.Map.{lookup}
use Rattle.std.specs.List.{Contains}
use Rattle.std.specs.declared.alloc.Global.{Global}
use Rattle.fast_check_finder_lattice.specs.declared.lattice.named_subset.Exports.{Exports}
use Rattle.fast_check_finder_lattice.specs.declared.lattice.named_subset.Exports.TheVariants.{All, Subset}
use Rattle.fast_check_finder_lattice.specs.declared.lattice.named_subset.NamedSubset.{NamedSubset}
pub use Rattle.fast_check_finder_lattice.specs.Order.{Name}
pub use Rattle.fast_check_finder_lattice.specs.Graph.{Path, Part, Touched, Covered, is_touched, NameSet, subset_of}
use Rattle.fast_check_finder_lattice.specs.Graph.{Graph, entry, rooted, reach, through, below_node}

-- the path that a list of texts spells
abbrev pub path_of : List (String Global) → Path
path_of parts = map string_bytes parts

-- the paths among which one stands that is demanded: whole, or at least in part
abbrev pub part_of : Bool → Part
part_of true = Covered
part_of false = Touched

-- no path
abbrev pub nothing : NameSet
nothing part p = false

-- below a name, each path, the empty one too: the name is demanded whole
abbrev pub everything : NameSet
everything part p = true

-- what stands below one name, seen from above
abbrev pub named : Name → NameSet → NameSet
named n f part [] = false
named n f part (m ∷ q) = bytes_eq n m && f part q

-- below a name, the path p whole: p and each longer path are touched and covered, and the beginnings of p are touched
abbrev pub whole_below : Path → NameSet
whole_below [] part q = true
whole_below (n ∷ p) part [] = is_touched part
whole_below (n ∷ p) part (m ∷ q) = bytes_eq n m && whole_below p part q

-- the nonempty path of n and p whole
abbrev pub whole : Name → Path → NameSet
whole n p = named n (whole_below p)

-- a path whole, and of the empty path nothing
abbrev pub whole_path : Path → NameSet
whole_path [] = nothing
whole_path (n ∷ p) = whole n p

-- the paths of a set of names
abbrev pub paths : NamedSubset → NameSet
paths s = rooted (entry s.nodes.items)

-- the paths below a name. `All` touches and covers each, and a subset touches the empty one and has its own names below
-- it
abbrev pub paths_below : Exports → NameSet
paths_below All = everything
paths_below (Subset s) = subset_of (paths s)

-- the paths below a name under which nothing may stand
abbrev pub paths_at : Option Exports → NameSet
paths_at None = nothing
paths_at (Some x) = paths_below x

-- both have the same paths: the sets are equal
abbrev pub IsSame : NameSet → NameSet → Type 0
IsSame a b = (part : Part) (p : Path) → a part p ≡ b part p

-- each path of a is one of b
abbrev pub IsBelow : NameSet → NameSet → Type 0
IsBelow a b = (part : Part) (p : Path) → IsTrue (a part p) → IsTrue (b part p)

-- c has the paths of a and those of b, and no others
abbrev pub IsJoin : NameSet → NameSet → NameSet → Type 0
IsJoin a b c = (part : Part) (p : Path) → c part p ≡ (a part p || b part p)

-- each path of new is one of old or of e
abbrev pub IsBelowJoin : NameSet → NameSet → NameSet → Type 0
IsBelowJoin new old e = (part : Part) (p : Path) → IsTrue (new part p) → IsTrue (old part p || e part p)

-- below a name: the touched paths are closed under beginnings, the covered ones under longer paths, and those are
-- touched too
pub record IsClosed (e : NameSet) : Type 0 where
  pub beginnings : (p q : Path) → IsTrue (e Touched (p ++ q)) → IsTrue (e Touched p)
  pub longer : (p q : Path) (part : Part) → IsTrue (e Covered p) → IsTrue (e part (p ++ q))

-- a name set: it is closed below each first name
abbrev pub IsNameSet : NameSet → Type 0
IsNameSet e = (n : Name) → IsClosed (λ part q. e part (n ∷ q))

-- the answer is the least name set with which old has all of new: it lies below a name set e exactly when new lies
-- below the join of old and e
abbrev pub IsLeastDifference : NameSet → NameSet → NameSet → Type 0
IsLeastDifference old new answer = (e : NameSet) → IsNameSet e → IsBelow answer e ↔ IsBelowJoin new old e

-- the same of what stands below one name, where the empty path counts
abbrev pub IsLeastDifferenceBelow : NameSet → NameSet → NameSet → Type 0
IsLeastDifferenceBelow old new answer = (e : NameSet) → IsClosed e → IsBelow answer e ↔ IsBelowJoin new old e

-- something of a is not in b
abbrev pub HasMore : NameSet → NameSet → Type 0
HasMore a b = (part : Part) × (p : Path) × IsTrue (a part p) × (b part p ≡ false)

-- a subset stands at the path: it is touched and not covered
abbrev pub has_subset : NameSet → Path → Bool
has_subset f p = f Touched p && not (f Covered p)

-- the path is demanded whole, and nothing shorter is: it is covered and no beginning of it
abbrev pub has_whole : NameSet → Path → Bool
has_whole f [] = f Covered []
has_whole f (n ∷ p) = not (f Covered []) && has_whole (λ part q. f part (n ∷ q)) p

-- where the answer has a subset or a whole path, there the source has the same
pub record IsOfSource (source answer : NameSet) : Type 0 where
  pub subsets : (p : Path) → IsTrue (has_subset answer p) → IsTrue (has_subset source p)
  pub wholes : (p : Path) → IsTrue (has_whole answer p) → IsTrue (has_whole source p)

-- where the joined set has a subset or a whole path, there one of the two has the same
pub record IsOfEither (a b joined : NameSet) : Type 0 where
  pub subsets : (p : Path) → IsTrue (has_subset joined p) → IsTrue (has_subset a p || has_subset b p)
  pub wholes : (p : Path) → IsTrue (has_whole joined p) → IsTrue (has_whole a p || has_whole b p)

-- what the new set has beyond the old one. The answer is the least difference, all of it stands in the new set, and
-- each name of it has something that the old set lacks
pub record IsDifference (old new answer : NameSet) : Type 0 where
  pub least : IsLeastDifference old new answer
  pub of_new : IsOfSource new answer
  pub progress : (n : Name) → IsTrue (answer Touched (n ∷ [])) →
      HasMore (λ part q. answer part (n ∷ q)) (λ part q. old part (n ∷ q))

-- the same below one name. None stands for nothing new
pub record IsDifferenceBelow (old new answer : Option Exports) : Type 0 where
  pub least : IsLeastDifferenceBelow (paths_at old) (paths_at new) (paths_at answer)
  pub of_new : IsOfSource (paths_at new) (paths_at answer)
  pub progress : (x : Exports) → answer ≡ Some x → HasMore (paths_below x) (paths_at old)

-- the same below one name, over what stands there
pub record IsRestBelow (old new answer : NameSet) : Type 0 where
  pub least : IsLeastDifferenceBelow old new answer
  pub of_new : IsOfSource new answer
  pub progress : IsTrue (answer Touched []) → HasMore answer old

-- old and new joined
pub record IsJoined (old new joined : NameSet) : Type 0 where
  pub join : IsJoin old new joined
  pub of_either : IsOfEither old new joined

-- the list has each path that is touched and not covered, once, and no other
pub record AreSubsets (set : NameSet) (ps : List Path) : Type 0 where
  pub each : (p : Path) → IsTrue (has_subset set p) ↔ Contains ps p
  pub once : AllPairs (λ p q. p ≢ q) ps

-- one more than the number of paths that are touched and not covered
abbrev pub IsNodeCount : NameSet → ℕ → Type 0
IsNodeCount set count = (ps : List Path) × AreSubsets set ps × (count ≡ length ps + 1)

-- what stands below a name of a set
abbrev pub at_name : NameSet → Name → NameSet
at_name f n part q = f part (n ∷ q)

-- below the root there is what was there, and what f has below node at
abbrev pub IsAdded : Graph → ℕ → NameSet → Graph → Type 0
IsAdded g at f w = (part : Part) (n : Name) (q : Path) →
    (reach w (w 0 n) part q) ≡ (reach g (g 0 n) part q || through g at f 0 part (n ∷ q))

-- what a list of names has for a name
abbrev pub listed_at : List (String Global × Exports) → Name → Option Exports
listed_at names n = lookup (λ k. bytes_eq n (string_bytes k)) names

-- the list has each first name of the set once, with what stands below it
pub record IsListed (set : NameSet) (names : List (String Global × Exports)) : Type 0 where
  pub each : (n : Name) → IsSame (λ part q. set part (n ∷ q)) (paths_at (listed_at names n))
  pub once : AllPairs (λ n m. n ≢ m) (map (λ e. string_bytes e.0) names)

-- what node other of h lists comes to node at of g where node r.0 gains what node r.1 lists
pub record IsJoint (g : Graph) (size at : ℕ) (h : Graph) (other : ℕ) (r : ℕ × ℕ) : Type 0 where
  pub within : r.0 < size
  pub enough : (w : Graph) → IsAdded g r.0 (subset_of (below_node h r.1)) w →
      IsAdded g at (subset_of (below_node h other)) w
