use Rattle.fast_check_print.proofs.Adding.{adds-token, adds-then, adds-last, adds-ok, adds-token_ok}
use Rattle.fast_check_print.proofs.comments.print_comment.Goals as goal

pub returns : goal.returns
returns c =
    let opened = adds-token_ok _ _ _ _ _ c.in_ok-begin_object.was c.begin_object.ensures in
    let kind = adds-then _ _ _ _ _ opened (adds-token_ok _ _ _ _ _ c.in_ok-key.was c.key.ensures) in
    let kind_text = adds-then _ _ _ _ _ kind (adds-token_ok _ _ _ _ _ c.in_ok-string.was c.string.ensures) in
    let span = adds-then _ _ _ _ _ kind_text (adds-token_ok _ _ _ _ _ c.in_ok-key-2.was c.key-2.ensures) in
    let range = adds-then _ _ _ _ _ span (adds-ok _ _ _ _ _ c.in_ok-print_range.was c.print_range.ensures) in
    let text = adds-then _ _ _ _ _ range (adds-token_ok _ _ _ _ _ c.in_ok-key-3.was c.key-3.ensures) in
    let all = adds-then _ _ _ _ _ text (adds-token_ok _ _ _ _ _ c.in_ok-string-2.was c.string-2.ensures) in
    rw (← c.comment_kind_text.ensures, ← c.as_str.ensures)
    (adds-last c.end_object.result _ _ _ _ _ all (adds-token _ _ _ _ c.end_object.ensures))
