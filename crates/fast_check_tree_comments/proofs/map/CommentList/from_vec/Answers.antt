use Rattle.std.proofs.Common.{rules}
use Rattle.fast_check_tree_comments.proofs.map.CommentList.from_vec.Goals as goal

pub returns : goal.returns
returns c = search rules
