use Rattle.std.proofs.Common.{rules}
use Rattle.fast_check_tree_comments.proofs.comment.CommentClone.clone.Goals as goal

pub returns-in_err-clone : goal.returns-in_err-clone
returns-in_err-clone c = search rules

pub returns : goal.returns
returns c = search rules
