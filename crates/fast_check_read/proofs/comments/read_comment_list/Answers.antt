use Rattle.std.proofs.Common.{◌∙◌, List, Option, Some, ap, sym, refl}
use Rattle.serde_json.specs.View.{view, items_view}
use Rattle.serde_json.specs.declared.value.Value.{Value}
use Rattle.fast_check_tree_comments.specs.declared.comment.Comment.{Comment}
use Rattle.fast_check_read.specs.Each.{each}
use Rattle.fast_check_read.specs.Comments.{comment_of}
use Rattle.fast_check_read.specs.Pieces.{items_list}
use Rattle.fast_check_read.proofs.Each.{answers_none, answers_out, answers_passed, then_none, then_some, items_there}
use Rattle.fast_check_read.proofs.Each.{one_more, none_here, all_done, nothing_done, pushed}
use Rattle.fast_check_read.proofs.comments.read_comment_list.Goals as goal

abbrev comments : List Value → Option (List Comment)
comments vs = each comment_of (items_list (items_view vs))

pub returns-in_err-read_array : goal.returns-in_err-read_array
returns-in_err-read_array c = answers_none _ _ (then_none _ c.in_err-read_array.ensures.err.1) c.from_residual.ensures.0

pub loop-item-init : goal.loop-item-init
loop-item-init c = nothing_done _ _ c.new-comments.ensures.items

pub bounds-item-items-item-index : goal.bounds-item-items-item-index
bounds-item-items-item-index c = c.loop-item-test.true

pub returns-in_err-read_comment : goal.returns-in_err-read_comment
returns-in_err-read_comment c =
    let all = then_some _ (items_there _ _ _ c.in_ok-read_array.ensures.ok c.deref-item-items.ensures.value) in
    answers_passed _ _ _ c.from_residual-in_err-read_comment.ensures.1 (λ bad.
    all ∙ none_here comments (λ v. comment_of (view v))
    (λ v vs. refl) _ _ _ _ _ _ c.loop-item-test.true c.item-item.is c.loop-item.invariant
    (c.in_err-read_comment.ensures bad))

pub returns-in_err-push : goal.returns-in_err-push
returns-in_err-push c = answers_out _ _ c.from_residual-in_err-push.ensures.1

pub loop-item-preserved : goal.loop-item-preserved
loop-item-preserved c =
    one_more comments (λ v. comment_of (view v)) (λ v vs. refl) _ _ _ _ _ _ _ _ c.loop-item-test.true c.item-item.is c.loop-item.invariant
    c.in_ok-read_comment.ensures (pushed _ _ _ c.in_ok-push.ensures.items)

pub returns : goal.returns
returns c =
    let all = then_some _ (items_there _ _ _ c.in_ok-read_array.ensures.ok c.deref-item-items.ensures.value) in
    all ∙ (all_done comments refl _ _ _ _ c.loop-item-test.false c.loop-item.invariant ∙ ap Some (sym c.from_vec.ensures))
