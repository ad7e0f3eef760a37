-- Equality of trees as a test.
use Rattle.std.specs.Prelude.{◌≡◌, Bool}
use Rattle.std.proofs.Common.{Decides}
use Rattle.std.specs.Cmp.{IsEquivalence, IsPartialEquivalence}
use Rattle.fast_check_tree_syntax.specs.contracts.tree.Tree as tree
use Rattle.fast_check_tree_syntax.specs.declared.tree.Tree.{Tree}
use Rattle.fast_check_tree_syntax.specs.Equality.{same, same-decides, same-equiv, same-per}

-- whether two trees are equal, positions and scope numbers included
abbrev pub same_trees : Tree → Tree → Bool
same_trees = same tree.the_row.coded

pub same_trees-decides : (a b : Tree) → Decides (same_trees a b) (a ≡ b)
same_trees-decides = same-decides tree.the_row.coded

pub same_trees-equiv : IsEquivalence same_trees
same_trees-equiv = same-equiv tree.the_row.coded

pub same_trees-per : IsPartialEquivalence same_trees
same_trees-per = same-per tree.the_row.coded
