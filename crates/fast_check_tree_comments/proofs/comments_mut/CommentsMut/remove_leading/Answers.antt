use Rattle.std.proofs.Common.{rules}
use Rattle.fast_check_tree_comments.proofs.comments_mut.CommentsMut.remove_leading.Goals as goal

pub returns : goal.returns
returns c = search rules
