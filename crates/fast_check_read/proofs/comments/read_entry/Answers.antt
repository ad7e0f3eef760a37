use Rattle.std.proofs.Common.{◌∙◌, option_map, sym, ap}
use Rattle.fast_check_read.proofs.Each.{answers_none, answers_passed, some_of_ok, none_of_err, then_none, then_some}
use Rattle.fast_check_read.proofs.comments.read_entry.Goals as goal

pub returns-in_err-position : goal.returns-in_err-position
returns-in_err-position c = answers_none _ _ (then_none _ (sym c.in_err-position.ensures.pair)) c.from_residual.ensures.0

pub returns-in_err-read_u32 : goal.returns-in_err-read_u32
returns-in_err-read_u32 c =
    answers_none _ _ (then_some _ (sym c.in_ok-position.ensures.pair) ∙ then_none _ (none_of_err _ _ _ c.in_err-read_u32.ensures))
    c.from_residual-in_err-read_u32.ensures.0

pub returns-in_err-read_comment_list : goal.returns-in_err-read_comment_list
returns-in_err-read_comment_list c =
    answers_passed _ _ _ c.from_residual-in_err-read_comment_list.ensures.1 (λ bad.
    then_some _ (sym c.in_ok-position.ensures.pair)
    ∙ (then_some _ (some_of_ok _ _ _ c.in_ok-read_u32.ensures) ∙ ap (option_map _) (c.in_err-read_comment_list.ensures bad)))

pub returns : goal.returns
returns c =
    then_some _ (sym c.in_ok-position.ensures.pair)
    ∙ (then_some _ (some_of_ok _ _ _ c.in_ok-read_u32.ensures) ∙ ap (option_map _) c.in_ok-read_comment_list.ensures)
