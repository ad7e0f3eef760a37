use Rattle.std.proofs.Common.{◌∙◌, Some, option_map, sym, ap}
use Rattle.serde_json.specs.Find.{as_str}
use Rattle.fast_check_tree_syntax.specs.Shape.{none_range}
use Rattle.fast_check_read.specs.Comments.{comment_kind_of}
use Rattle.fast_check_read.specs.Pieces.{range_of_data}
use Rattle.fast_check_read.proofs.Each.{answers_none, answers_out, some_of_ok, none_of_err, then_none, then_some, found}
use Rattle.fast_check_read.proofs.Each.{missing, read_or}
use Rattle.fast_check_read.proofs.comments.read_comment.Goals as goal

pub returns-in_err-ok_or : goal.returns-in_err-ok_or
returns-in_err-ok_or c =
    answers_none _ _ (then_none _ (missing comment_kind_of _ _ c.get.ensures c.in_err-ok_or.ensures.ok_part)) c.from_residual.ensures.0

pub returns-in_err-kind : goal.returns-in_err-kind
returns-in_err-kind c =
    answers_none _ _
    (then_none _ (found comment_kind_of _ _ _ c.get.ensures c.in_ok-ok_or.ensures.ok_part ∙ none_of_err _ _ _ c.in_err-kind.ensures))
    c.from_residual-in_err-kind.ensures.0

pub returns-in_err-span : goal.returns-in_err-span
returns-in_err-span c =
    let kind = found comment_kind_of _ _ _ c.get.ensures c.in_ok-ok_or.ensures.ok_part ∙ some_of_ok _ _ _ c.in_ok-kind.ensures in
    let span = none_of_err _ _ _ (read_or range_of_data none_range _ _ _ c.get-2.ensures c.in_err-span.ensures) in
    answers_none _ _ (then_some _ kind ∙ then_none _ span) c.from_residual-in_err-span.ensures.0

pub returns-in_err-ok_or-2 : goal.returns-in_err-ok_or-2
returns-in_err-ok_or-2 c =
    let kind = found comment_kind_of _ _ _ c.get.ensures c.in_ok-ok_or.ensures.ok_part ∙ some_of_ok _ _ _ c.in_ok-kind.ensures in
    let span = some_of_ok _ _ _ (read_or range_of_data none_range _ _ _ c.get-2.ensures c.in_ok-span.ensures) in
    answers_none _ _ (then_some _ kind ∙ (then_some _ span
    ∙ ap (option_map _) (missing as_str _ _ c.get-3.ensures c.in_err-ok_or-2.ensures.ok_part))) c.from_residual-in_err-ok_or-2.ensures.0

pub returns-in_err-text : goal.returns-in_err-text
returns-in_err-text c =
    let kind = found comment_kind_of _ _ _ c.get.ensures c.in_ok-ok_or.ensures.ok_part ∙ some_of_ok _ _ _ c.in_ok-kind.ensures in
    let span = some_of_ok _ _ _ (read_or range_of_data none_range _ _ _ c.get-2.ensures c.in_ok-span.ensures) in
    answers_none _ _ (then_some _ kind ∙ (then_some _ span
    ∙ ap (option_map _) (found as_str _ _ _ c.get-3.ensures c.in_ok-ok_or-2.ensures.ok_part ∙ sym c.in_err-text.ensures.text)))
    c.from_residual-in_err-text.ensures.0

pub returns-in_err-text-2 : goal.returns-in_err-text-2
returns-in_err-text-2 c = answers_out _ _ c.from_residual-in_err-text-2.ensures.1

pub returns : goal.returns
returns c =
    let kind = found comment_kind_of _ _ _ c.get.ensures c.in_ok-ok_or.ensures.ok_part ∙ some_of_ok _ _ _ c.in_ok-kind.ensures in
    let span = some_of_ok _ _ _ (read_or range_of_data none_range _ _ _ c.get-2.ensures c.in_ok-span.ensures) in
    let text = found as_str _ _ _ c.get-3.ensures c.in_ok-ok_or-2.ensures.ok_part ∙
    (sym c.in_ok-text.ensures.text ∙ ap Some (sym c.in_ok-text-2.ensures)) in
    then_some _ kind ∙ (then_some _ span ∙ ap (option_map _) text)
