use Rattle.fast_check_print.proofs.Adding.{adds-token, adds-last, adds-token_ok}
use Rattle.fast_check_print.proofs.answer.print_module.Goals as goal

pub returns : goal.returns
returns c =
    let closed = adds-token c.end_object.result _ _ _ c.end_object.ensures in
    let program = adds-last _ _ _ _ _ _ (adds-token_ok _ _ _ _ _ c.in_ok-key-3.was c.key-3.ensures)
    (adds-last _ _ _ _ _ _ c.in_ok-print_tree.ensures closed) in
    let info = adds-last _ _ _ _ _ _ (adds-token_ok _ _ _ _ _ c.in_ok-key-2.was c.key-2.ensures)
    (adds-last _ _ _ _ _ _ c.in_ok-print_module_info.ensures program) in
    let comments = adds-last _ _ _ _ _ _ (adds-token_ok _ _ _ _ _ c.in_ok-key.was c.key.ensures)
    (adds-last _ _ _ _ _ _ c.in_ok-print_comments.ensures info) in
    adds-last _ _ _ _ _ _ (adds-token_ok _ _ _ _ _ c.in_ok-begin_object.was c.begin_object.ensures) comments
