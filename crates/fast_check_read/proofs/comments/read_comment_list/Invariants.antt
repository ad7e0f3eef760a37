use Rattle.std.proofs.Common.{◌≡◌, ◌++◌, drop, option_map}
use Rattle.serde_json.specs.View.{items_view}
use Rattle.fast_check_read.specs.Each.{each}
use Rattle.fast_check_read.specs.Comments.{comment_of}
use Rattle.fast_check_read.specs.Pieces.{items_list}
use Rattle.fast_check_read.proofs.comments.read_comment_list.Given as goal

-- the comments so far, and then those of the other items, are all comments
abbrev pub invariant-loop-item : goal.invariant-loop-item
invariant-loop-item l =
    each comment_of (items_list (items_view l.item-items)) ≡ option_map (λ more. l.comments.items ++ more)
    (each comment_of (items_list (items_view (drop l.item-index l.item-items))))
