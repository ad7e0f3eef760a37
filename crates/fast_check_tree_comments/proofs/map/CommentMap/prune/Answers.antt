use Rattle.std.proofs.Common.{rules}
use Rattle.fast_check_tree_comments.proofs.Pruned.{pruned_from_retain}
use Rattle.fast_check_tree_comments.proofs.map.CommentMap.prune.Goals as goal

pub returns : goal.returns
returns c = let e = pruned_from_retain _ _ (λ k v b w f' t. search rules) _ _ c.retain.ensures.filtered in cc
