-- What a tree that was just made reads as.
use Rattle.std.specs.Prelude.{◌≡◌, ℕ, Bool, false, List, slice_get, unwrap_or}
use Rattle.std.proofs.Common.{ap}
use Rattle.fast_check_tree_syntax.specs.declared.kind.Kind.{Kind}
use Rattle.fast_check_tree_syntax.specs.declared.source.SourceRange.{SourceRange}
use Rattle.fast_check_tree_syntax.specs.declared.tree.Tree as tree
use Rattle.fast_check_tree_syntax.specs.declared.tree.Tree.{Tree, Absent, roll-Tree, out-roll-Tree}
use Rattle.fast_check_tree_syntax.specs.declared.tree.Tree.TheOpen.{Tree-F}
use Rattle.fast_check_tree_syntax.specs.Shape.{kind_at, kind_of, parts_at, parts, part, node, flag_at, flag_of, range_at, range_of, is_absent_at}
use Rattle.fast_check_tree_syntax.specs.Shape.{is_absent}

pub kind_of_node : (kind : Kind) (ts : List Tree) → kind_of (node kind ts) ≡ kind
unfolding roll-Tree denote.Hole.Carrier.roll
kind_of_node kind ts = ap kind_at (out-roll-Tree (Tree-F.Node kind ts))

pub parts_node : (kind : Kind) (ts : List Tree) → parts (node kind ts) ≡ ts
unfolding roll-Tree denote.Hole.Carrier.roll
parts_node kind ts = ap parts_at (out-roll-Tree (Tree-F.Node kind ts))

pub part_node : (i : ℕ) (kind : Kind) (ts : List Tree) → part i (node kind ts) ≡ unwrap_or (slice_get ts i) Absent
part_node i kind ts = ap (λ us. unwrap_or (slice_get us i) Absent) (parts_node kind ts)

pub is_absent_node : (kind : Kind) (ts : List Tree) → is_absent (node kind ts) ≡ false
unfolding roll-Tree denote.Hole.Carrier.roll
is_absent_node kind ts = ap is_absent_at (out-roll-Tree (Tree-F.Node kind ts))

pub flag_of_flag : (f : Bool) → flag_of (tree.Flag f) ≡ f
unfolding roll-Tree denote.Hole.Carrier.roll
flag_of_flag f = ap flag_at (out-roll-Tree (Tree-F.Flag f))

pub range_of_range : (r : SourceRange) → range_of (tree.Range r) ≡ r
unfolding roll-Tree denote.Hole.Carrier.roll
range_of_range r = ap range_at (out-roll-Tree (Tree-F.Range r))
