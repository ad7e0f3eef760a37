use Rattle.std.proofs.Common.{◌∙◌, List, Option, option_map, sym, ap, refl}
use Rattle.serde_json.specs.View.{view, items_view}
use Rattle.serde_json.specs.declared.value.Value.{Value}
use Rattle.fast_check_tree_syntax.specs.declared.source.SourcePos.{SourcePos}
use Rattle.fast_check_tree_comments.specs.declared.comment.Comment.{Comment}
use Rattle.fast_check_read.specs.Each.{each}
use Rattle.fast_check_read.specs.Comments.{entry_of, laid}
use Rattle.fast_check_read.specs.Pieces.{items_list}
use Rattle.fast_check_read.proofs.Each.{answers_none, answers_out, answers_passed, then_none, then_some, items_there, one_more, none_here}
use Rattle.fast_check_read.proofs.Each.{none_left}
use Rattle.fast_check_read.proofs.comments.read_places.Goals as goal

abbrev entries : List Value → Option (List (SourcePos × List Comment))
entries vs = each entry_of (items_list (items_view vs))

pub returns-in_err-read_array : goal.returns-in_err-read_array
returns-in_err-read_array c = answers_none _ _ (then_none _ c.in_err-read_array.ensures.err.1) c.from_residual.ensures.0

pub loop-item-init : goal.loop-item-init
loop-item-init c = ap (λ places. option_map (laid places) (entries c.deref-item-items.result.now)) (sym c.new-places.ensures)

pub bounds-item-items-item-index : goal.bounds-item-items-item-index
bounds-item-items-item-index c = c.loop-item-test.true

pub returns-in_err-position : goal.returns-in_err-position
returns-in_err-position c =
    let all = then_some _ (items_there _ _ _ c.in_ok-read_array.ensures.ok c.deref-item-items.ensures.value) in
    answers_passed _ _ _ c.from_residual-in_err-position.ensures.1 (λ bad.
    all ∙ none_here entries (λ v. entry_of (view v)) (λ v vs. refl) _ _ _ _ _ _ c.loop-item-test.true c.item-item.is c.loop-item.invariant
    (c.in_err-position.ensures bad))

pub returns-in_err-insert : goal.returns-in_err-insert
returns-in_err-insert c = answers_out _ _ c.from_residual-in_err-insert.ensures.1

pub loop-item-preserved : goal.loop-item-preserved
loop-item-preserved c =
    one_more entries (λ v. entry_of (view v)) (λ v vs. refl) _ _ _ _ _ _ _ _ c.loop-item-test.true c.item-item.is c.loop-item.invariant
    c.in_ok-position.ensures (λ es. ap (λ places. laid places es) (sym c.in_ok-insert.ensures.ok))

pub returns : goal.returns
returns c =
    let all = then_some _ (items_there _ _ _ c.in_ok-read_array.ensures.ok c.deref-item-items.ensures.value) in
    all ∙ none_left entries refl _ _ _ _ c.loop-item-test.false c.loop-item.invariant
