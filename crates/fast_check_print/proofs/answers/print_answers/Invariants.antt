use Rattle.std.proofs.Common.{map}
use Rattle.fast_check_print.specs.Writing.{tokens_of}
use Rattle.fast_check_print.proofs.Adding.{Remains}
use Rattle.fast_check_print.proofs.Items.{rest_of_items}
use Rattle.fast_check_print.specs.Answers.{answers_data, entry_data}
use Rattle.fast_check_print.proofs.answers.print_answers.Given as goal

-- the other answers still have to come
abbrev pub invariant-loop-specifier : goal.invariant-loop-specifier
invariant-loop-specifier l =
    Remains (tokens_of (answers_data l.fn.answers.items)) l.fn.out l.out (rest_of_items (map entry_data l.specifier-iterator.rest.items))
