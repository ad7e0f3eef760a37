use Rattle.fast_check_print.proofs.Adding.{adds-token, adds-last, adds-token_ok}
use Rattle.fast_check_program_commands.proofs.pair_command.answer.write_both.Goals as goal

pub returns : goal.returns
returns c =
    let closed = adds-token c.end_array.result _ _ _ c.end_array.ensures in
    let second = adds-last _ _ _ _ _ _ c.in_ok-print_answer-2.ensures closed in
    let first = adds-last _ _ _ _ _ _ c.in_ok-print_answer.ensures second in
    adds-last _ _ _ _ _ _ (adds-token_ok _ _ _ _ _ c.in_ok-begin_array.was c.begin_array.ensures) first
