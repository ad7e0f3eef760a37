use Rattle.fast_check_build_answers.proofs.Turns.{package_found}
use Rattle.fast_check_build_answers.proofs.answer.answer_found.Goals as goal

pub returns : goal.returns
returns c =
    package_found c.args.input.graph.now c.args.input.root_symbol.now c.args.package_ranges
    c.args.input.options.now.should_error_on_first_diagnostic
    c.new-skeletons.result.items c.answer_modules.new.answers.items c.in_ok-answers.answers.items c.in_ok-diagnostics.diagnostics.items
    c.deref.result.now
    c.new-skeletons.ensures.items c.deref.ensures.value c.in_ok-diagnostics.ensures.faults c.in_ok-diagnostics.ensures.shown
    c.in_ok-answers.ensures.skeletons c.in_ok-answers.ensures.diagnostics
