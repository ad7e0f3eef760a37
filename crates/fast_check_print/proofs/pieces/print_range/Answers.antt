use borrow.Author.Rules.{rules}
use Rattle.fast_check_print.proofs.Adding.{adds-token, adds-then, adds-last, adds-ok, adds-token_ok}
use Rattle.fast_check_print.proofs.pieces.print_range.Goals as goal

pub returns-in_err-begin_array : goal.returns-in_err-begin_array
returns-in_err-begin_array c = search rules

pub returns-in_err-print_position : goal.returns-in_err-print_position
returns-in_err-print_position c = search rules

pub returns-in_err-print_position-2 : goal.returns-in_err-print_position-2
returns-in_err-print_position-2 c = search rules

pub returns : goal.returns
returns c =
    let opened = adds-token_ok _ _ _ _ _ c.in_ok-begin_array.was c.begin_array.ensures in
    let start = adds-then _ _ _ _ _ opened (adds-ok _ _ _ _ _ c.in_ok-print_position.was c.print_position.ensures) in
    let both = adds-then _ _ _ _ _ start (adds-ok _ _ _ _ _ c.in_ok-print_position-2.was c.print_position-2.ensures) in
    adds-last c.end_array.result _ _ _ _ _ both (adds-token _ _ _ _ c.end_array.ensures)
