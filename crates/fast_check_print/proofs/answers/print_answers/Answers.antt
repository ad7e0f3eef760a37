use Rattle.std.proofs.Common.{sym, ◌∙◌, subst, map}
use Rattle.std.proofs.lemmas.List.{nil_from_length}
use Rattle.fast_check_print.proofs.Adding.{Remains, remains-first, adds-token_ok}
use Rattle.fast_check_print.proofs.Items.{rest_of_items}
use Rattle.fast_check_print.specs.Writing.{tokens_of}
use Rattle.fast_check_print.specs.Answers.{entry_data, answers_data}
use Rattle.fast_check_print.proofs.Arrays.{one_written, none_left}
use Rattle.fast_check_print.proofs.answers.print_answers.Goals as goal

pub loop-specifier-init : goal.loop-specifier-init
loop-specifier-init c =
    let opened = adds-token_ok _ _ _ _ _ c.in_ok-begin_array.was c.begin_array.ensures in
    subst (λ entries. Remains (tokens_of (answers_data c.args.answers.items)) c.args.out.now c.begin_array.new.self
    (rest_of_items (map entry_data entries)))
    (sym c.into_iter-specifier-iterator.ensures.into_iter_gives.0) (remains-first _ _ _ _ opened)

pub loop-specifier-preserved : goal.loop-specifier-preserved
loop-specifier-preserved c =
    one_written entry_data
    (c.in-Some.specifier, c.in-Some.answer) _ _ c.in-Some.ensures.steps.0 c.loop-specifier.invariant c.in_ok-print_entry.ensures

pub returns : goal.returns
returns c =
    let none = nil_from_length _ (sym c.loop-specifier.specifier-iterator.rest.ok.0 ∙ c.in-None.ensures.steps.0) in
    none_left entry_data _ none c.loop-specifier.invariant c.end_array.ensures
