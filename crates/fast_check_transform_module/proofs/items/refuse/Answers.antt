use Rattle.fast_check_tree_syntax.specs.Part.{seen}
use Rattle.fast_check_transform_module.proofs.ByRule.{diagnosed_refused}
use Rattle.fast_check_transform_module.proofs.items.refuse.Goals as goal

pub returns : goal.returns
returns c = diagnosed_refused (seen c.args.item) c.args.kind c.range_of_node-range.ensures c.in_ok-push.ensures.items
