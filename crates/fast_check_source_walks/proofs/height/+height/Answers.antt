use Rattle.std.proofs.Common.{◌≤◌, refl, sym, rules}
use Rattle.fast_check_tree_syntax.specs.Height.{height}
use Rattle.fast_check_source_walks.proofs.Heights.{more_height}
use Rattle.fast_check_source_walks.proofs.height.+height.Goals as goal

-- The part that was looked at joins those before it.
pub are_at_most-loop-tree-preserved : goal.are_at_most-loop-tree-preserved
are_at_most-loop-tree-preserved t c =
    let low : height c.tree-item.result ≤ c.args.most = c.if-not-is_at_most.ensures.0 (search rules) in
    more_height c.args.trees.now c.loop-tree.tree-index _ c.tree-item.result c.args.most refl c.loop-tree-test.true
    c.loop-tree.invariant (rw (sym c.tree-item.is) low)
