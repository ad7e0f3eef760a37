use Rattle.std.proofs.Common.{rules}
use Rattle.std.proofs.lemmas.Fn.{filter_same}
use Rattle.fast_check_tree_comments.specs.Kept.{is_kept}
use Rattle.fast_check_tree_comments.proofs.map.CommentList.prune.Goals as goal

pub returns : goal.returns
returns c = let e = filter_same _ is_kept _ (λ x b f' k. search rules) _ _ c.retain.ensures.filtered in cc
