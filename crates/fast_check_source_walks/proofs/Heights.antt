-- How high a tree is by its parts: nothing where it is a leaf, one more than its highest part where it is a node.
use Rattle.std.specs.Prelude.{◌≡◌, ◌≤◌, ◌<◌, ◌+◌, ℕ, zero, suc, Bool, List, [], ◌∷◌, map, length, take}
use Rattle.std.proofs.Common.{arith, get_or}
use Rattle.fast_check_tree_syntax.specs.declared.kind.Kind.{Kind}
use Rattle.fast_check_tree_syntax.specs.declared.kind.Word.{Word}
use Rattle.fast_check_tree_syntax.specs.declared.atom.Atom.{Atom}
use Rattle.fast_check_tree_syntax.specs.declared.source.SourceRange.{SourceRange}
use Rattle.fast_check_tree_syntax.specs.declared.source.SyntaxContext.{SyntaxContext}
use Rattle.fast_check_tree_syntax.specs.declared.tree.Tree.{Tree, out-Tree, roll-Tree, Absent, Flag, Context, Text, Range, Word as WordLeaf, Node}
use Rattle.fast_check_tree_syntax.specs.declared.tree.Tree.TheOpen.{Tree-F}
use Rattle.fast_check_tree_syntax.specs.declared.tree.Tree.TheFolds.{fold_out-Tree, fold-roll-Tree}
use Rattle.fast_check_tree_syntax.specs.Height.{height, height_step, highest}

pub absent_zero : height Absent ≡ 0
unfolding height out-Tree denote.Hole.Carrier.out
absent_zero = fold_out-Tree ℕ height_step Absent

pub flag_zero : (b : Bool) → height (Flag b) ≡ 0
unfolding height out-Tree denote.Hole.Carrier.out
flag_zero b = fold_out-Tree ℕ height_step (Flag b)

pub context_zero : (c : SyntaxContext) → height (Context c) ≡ 0
unfolding height out-Tree denote.Hole.Carrier.out
context_zero c = fold_out-Tree ℕ height_step (Context c)

pub text_zero : (a : Atom) → height (Text a) ≡ 0
unfolding height out-Tree denote.Hole.Carrier.out
text_zero a = fold_out-Tree ℕ height_step (Text a)

pub range_zero : (r : SourceRange) → height (Range r) ≡ 0
unfolding height out-Tree denote.Hole.Carrier.out
range_zero r = fold_out-Tree ℕ height_step (Range r)

pub word_zero : (w : Word) → height (WordLeaf w) ≡ 0
unfolding height out-Tree denote.Hole.Carrier.out
word_zero w = fold_out-Tree ℕ height_step (WordLeaf w)

pub node_height : (k : Kind) (ts : List Tree) → height (Node k ts) ≡ suc (highest (map height ts))
unfolding height roll-Tree denote.Hole.Carrier.roll
node_height k ts = fold-roll-Tree ℕ height_step (Tree-F.Node k ts)

-- A tree in a row is no higher than the highest.
pub one_height : (ts : List Tree) (k : ℕ) (d : Tree) → k < length ts → height (get_or ts k d) ≤ highest (map height ts)
one_height [] k d h = absurd (omega arith)
one_height (t ∷ ts) zero d h = omega arith
one_height (t ∷ ts) (suc k) d h = omega (arith, one_height ts k d (omega arith))

-- The first ones with one more.
pub more_height : (ts : List Tree) (k j : ℕ) (d : Tree) (n : ℕ) → j ≡ k + 1 → k < length ts →
    highest (map height (take k ts)) ≤ n → height (get_or ts k d) ≤ n → highest (map height (take j ts)) ≤ n
more_height [] k j d n e h a b = absurd (omega arith)
more_height (t ∷ ts) zero zero d n e h a b = absurd (omega arith)
more_height (t ∷ ts) zero (suc zero) d n e h a b = omega arith
more_height (t ∷ ts) zero (suc (suc j)) d n e h a b = absurd (omega arith)
more_height (t ∷ ts) (suc k) zero d n e h a b = absurd (omega arith)
more_height (t ∷ ts) (suc k) (suc j) d n e h a b = omega (arith, more_height ts k j d n (omega arith) (omega arith) (omega arith) b)

-- All of them, where that many are taken.
pub all_taken : (ts : List Tree) (k : ℕ) → length ts ≤ k → highest (map height (take k ts)) ≡ highest (map height ts)
all_taken [] zero h = omega arith
all_taken [] (suc k) h = omega arith
all_taken (t ∷ ts) zero h = absurd (omega arith)
all_taken (t ∷ ts) (suc k) h = omega (arith, all_taken ts k (omega arith))
