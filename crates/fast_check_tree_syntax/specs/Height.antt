-- How high a tree is: what falls in a recursion from a tree to its parts.
use Rattle.std.specs.Prelude.{ℕ, zero, suc, max, ◌<◌, ◌≤◌, ◌≡◌, List, [], ◌∷◌, map, Some, slice_get, unwrap_or, refl}
use Rattle.std.specs.Prelude.{length}
use lib.ListN.{get_or}
use Rattle.std.proofs.Common.{arith}
use Rattle.fast_check_tree_syntax.specs.declared.kind.Kind.TheVariants.{Leaf}
use Rattle.fast_check_tree_syntax.specs.declared.tree.Tree.{Tree, out-Tree, Absent}
use Rattle.fast_check_tree_syntax.specs.declared.tree.Tree.TheOpen.{Tree-F}
use Rattle.fast_check_tree_syntax.specs.declared.tree.Tree.TheFolds.{fold-Tree, fold_out-Tree, map-Tree}
use Rattle.fast_check_tree_syntax.specs.Shape.{kind_at, parts_at, kind_of, parts, part}

abbrev pub highest : List ℕ → ℕ
highest [] = 0
highest (h ∷ hs) = max h (highest hs)

abbrev pub height_step : Tree-F ℕ → ℕ
height_step (Tree-F.Node kind hs) = suc (highest hs)
height_step _ = 0

unfoldable pub height : Tree → ℕ
height = fold-Tree ℕ height_step

pub absent-zero : height Absent ≡ 0
unfolding height out-Tree denote.Hole.Carrier.out
absent-zero = fold_out-Tree ℕ height_step Absent

at_most_highest : (ts : List Tree) (i : ℕ) → height (unwrap_or (slice_get ts i) Absent) ≤ highest (map height ts)
at_most_highest [] i = omega (arith, absent-zero)
at_most_highest (t ∷ ts) zero = omega arith
at_most_highest (t ∷ ts) (suc i) = omega (arith, at_most_highest ts i)

part_below : (l : Tree-F Tree) (i : ℕ) → (kind_at l ≡ Leaf → ⊥) →
    height (unwrap_or (slice_get (parts_at l) i) Absent) < height_step (map-Tree Tree ℕ height l)
part_below (Tree-F.Node k ts) i e = omega (arith, at_most_highest ts i)
part_below Tree-F.Absent i e = absurd (e refl)
part_below (Tree-F.Flag x) i e = absurd (e refl)
part_below (Tree-F.Context x) i e = absurd (e refl)
part_below (Tree-F.Text x) i e = absurd (e refl)
part_below (Tree-F.Range x) i e = absurd (e refl)
part_below (Tree-F.Word x) i e = absurd (e refl)

pub height_out : (t : Tree) → height t ≡ height_step (map-Tree Tree ℕ height (out-Tree t))
unfolding height
height_out t = fold_out-Tree ℕ height_step t

-- a part is lower than its node
pub height_part : (t : Tree) (i : ℕ) → (kind_of t ≡ Leaf → ⊥) → height (part i t) < height t
height_part t i e = rw (height_out t) (part_below (out-Tree t) i e)

one_below : (l : Tree-F Tree) (i : ℕ) (u : Tree) → slice_get (parts_at l) i ≡ Some u →
    height u < height_step (map-Tree Tree ℕ height l)
one_below (Tree-F.Node k ts) i u e = let h : height (unwrap_or (slice_get ts i) Absent) ≤ highest (map height ts) =
    at_most_highest ts i in
    let same : height u ≡ height (unwrap_or (slice_get ts i) Absent) = rw e in omega arith
one_below Tree-F.Absent i u e = cc
one_below (Tree-F.Flag x) i u e = cc
one_below (Tree-F.Context x) i u e = cc
one_below (Tree-F.Text x) i u e = cc
one_below (Tree-F.Range x) i u e = cc
one_below (Tree-F.Word x) i u e = cc

-- the same of one of its parts
pub height_one : (t : Tree) (i : ℕ) (u : Tree) → slice_get (parts t) i ≡ Some u → height u < height t
height_one t i u e = rw (height_out t) (one_below (out-Tree t) i u e)

read_at_most : (ts : List Tree) (i : ℕ) (d : Tree) → i < length ts → height (get_or ts i d) ≤ highest (map height ts)
read_at_most [] i d h = absurd (omega arith)
read_at_most (t ∷ ts) zero d h = omega arith
read_at_most (t ∷ ts) (suc i) d h = omega (arith, read_at_most ts i d (omega arith))

read_below : (l : Tree-F Tree) (i : ℕ) (d : Tree) → i < length (parts_at l) →
    height (get_or (parts_at l) i d) < height_step (map-Tree Tree ℕ height l)
read_below (Tree-F.Node k ts) i d h = omega (arith, read_at_most ts i d h)
read_below Tree-F.Absent i d h = absurd (omega arith)
read_below (Tree-F.Flag x) i d h = absurd (omega arith)
read_below (Tree-F.Context x) i d h = absurd (omega arith)
read_below (Tree-F.Text x) i d h = absurd (omega arith)
read_below (Tree-F.Range x) i d h = absurd (omega arith)
read_below (Tree-F.Word x) i d h = absurd (omega arith)

-- the same of a part that is read in a loop
pub height_read : (t : Tree) (i : ℕ) (d : Tree) → i < length (parts t) → height (get_or (parts t) i d) < height t
height_read t i d h = rw (height_out t) (read_below (out-Tree t) i d h)

inner_at_most : (l : Tree-F Tree) (i : ℕ) → height (unwrap_or (slice_get (parts_at l) i) Absent) ≤ height_step
    (map-Tree Tree ℕ height l)
inner_at_most (Tree-F.Node k ts) i = omega (arith, at_most_highest ts i)
inner_at_most Tree-F.Absent i = omega (arith, absent-zero)
inner_at_most (Tree-F.Flag x) i = omega (arith, absent-zero)
inner_at_most (Tree-F.Context x) i = omega (arith, absent-zero)
inner_at_most (Tree-F.Text x) i = omega (arith, absent-zero)
inner_at_most (Tree-F.Range x) i = omega (arith, absent-zero)
inner_at_most (Tree-F.Word x) i = omega (arith, absent-zero)

-- a part is no higher than its tree, of whatever kind this is
pub height_at_most : (t : Tree) (i : ℕ) → height (part i t) ≤ height t
height_at_most t i = rw (height_out t) (inner_at_most (out-Tree t) i)

-- a part of a part is lower than the node
pub height_inner : (t : Tree) (i k : ℕ) → (kind_of t ≡ Leaf → ⊥) → height (part k (part i t)) < height t
height_inner t i k e = omega (arith, height_part t i e, height_at_most (part i t) k)
