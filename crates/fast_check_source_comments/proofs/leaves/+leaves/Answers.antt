use Rattle.fast_check_tree_syntax.specs.Part.{seen}
use Rattle.fast_check_source_comments.proofs.Lower.{item_lower}
use Rattle.fast_check_source_comments.proofs.leaves.+leaves.Goals as goal

pub push_each-push_leaves-requires : goal.push_each-push_leaves-requires
push_each-push_leaves-requires t c = (
  item_lower (seen c.args.part) c.inner-item.result c.loop-inner.inner-index c.decreases c.loop-inner-test.true c.parts-inner-items.ensures
      c.inner-item.is c.read.ensures,
  tt,
)
