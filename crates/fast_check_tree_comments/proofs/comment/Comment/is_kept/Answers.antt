use Rattle.std.proofs.Common.{rules}
use Rattle.fast_check_tree_comments.proofs.comment.Comment.is_kept.Goals as goal

pub returns-in-Line : goal.returns-in-Line
returns-in-Line c = search rules

pub returns-in-Block : goal.returns-in-Block
returns-in-Block c = search rules
