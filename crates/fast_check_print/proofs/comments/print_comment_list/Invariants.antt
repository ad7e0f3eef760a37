use Rattle.std.proofs.Common.{drop, map}
use Rattle.fast_check_print.specs.Comments.{comment_data, comment_list_data}
use Rattle.fast_check_print.specs.Writing.{tokens_of}
use Rattle.fast_check_print.proofs.Adding.{Remains}
use Rattle.fast_check_print.proofs.Items.{rest_of_items}
use Rattle.fast_check_print.proofs.comments.print_comment_list.Given as goal

-- the other comments still have to come
abbrev pub invariant-loop-comment : goal.invariant-loop-comment
invariant-loop-comment l = Remains (tokens_of (comment_list_data l.fn.comments)) l.fn.out l.out
    (rest_of_items (map comment_data (drop l.comment-index l.comments)))
