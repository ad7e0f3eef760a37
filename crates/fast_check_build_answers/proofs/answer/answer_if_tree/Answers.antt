use Rattle.std.proofs.Common.{◌∙◌, sym, ap, Some}
use Rattle.fast_check_build_answers.proofs.Turns.{answered_found}
use Rattle.fast_check_build_answers.proofs.answer.answer_if_tree.Goals as goal

pub returns-in-Some-Esm : goal.returns-in-Some-Esm
returns-in-Some-Esm c =
    answered_found c.args.input.options.now.should_error_on_first_diagnostic c.args.input.graph.now (c.args.specifier, c.args.public_ranges.now)
    c.in-Some-Esm.info _ c.args.answers.now.items c.answer_tree.new.answers.items c.answer_tree.result
    (sym (ap Some c.in-Some-Esm.field-0-is) ∙ c.in-Some-Esm.ensures) c.answer_tree.ensures
