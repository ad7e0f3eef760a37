use Rattle.std.proofs.Common.{arith}
use Rattle.std.proofs.lemmas.Grind.{common_steps}
use Rattle.fast_check_tree_comments.proofs.map.CommentMap.is_empty.Goals as goal

pub returns : goal.returns
returns c = grind (arith, common_steps)
