-- An empty option is no node, and has no parts.
use Rattle.std.proofs.Common.{◌≡◌, true, [], refl}
use Rattle.fast_check_tree_syntax.specs.declared.kind.Kind.TheVariants.{Leaf}
use Rattle.fast_check_tree_syntax.specs.declared.tree.Tree.{Tree, out-Tree}
use Rattle.fast_check_tree_syntax.specs.declared.tree.Tree.TheOpen.{Tree-F}
use Rattle.fast_check_tree_syntax.specs.Shape.{kind_of, kind_at, parts, parts_at, is_absent, is_absent_at}

leaf_at : (l : Tree-F Tree) → is_absent_at l ≡ true → kind_at l ≡ Leaf
leaf_at Tree-F.Absent e = refl
leaf_at (Tree-F.Node k ts) e = cc
leaf_at (Tree-F.Flag x) e = cc
leaf_at (Tree-F.Context x) e = cc
leaf_at (Tree-F.Text x) e = cc
leaf_at (Tree-F.Range x) e = cc
leaf_at (Tree-F.Word x) e = cc

pub leaf_of_absent : (t : Tree) → is_absent t ≡ true → kind_of t ≡ Leaf
leaf_of_absent t e = leaf_at (out-Tree t) e

no_parts_at : (l : Tree-F Tree) → is_absent_at l ≡ true → parts_at l ≡ []
no_parts_at Tree-F.Absent e = refl
no_parts_at (Tree-F.Node k ts) e = cc
no_parts_at (Tree-F.Flag x) e = cc
no_parts_at (Tree-F.Context x) e = cc
no_parts_at (Tree-F.Text x) e = cc
no_parts_at (Tree-F.Range x) e = cc
no_parts_at (Tree-F.Word x) e = cc

pub no_parts : (t : Tree) → is_absent t ≡ true → parts t ≡ []
no_parts t e = no_parts_at (out-Tree t) e
