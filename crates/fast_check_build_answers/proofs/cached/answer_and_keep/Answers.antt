use Rattle.fast_check_build_answers.proofs.Turns.{package_found}
use Rattle.fast_check_build_answers.proofs.Keeps.{item_kept}
use Rattle.fast_check_build_answers.proofs.cached.answer_and_keep.Goals as goal

pub returns-clause-answered : goal.returns-clause-answered
returns-clause-answered c =
    package_found c.args.input.graph.now c.args.input.root_symbol.now c.args.package_ranges
    c.args.input.options.now.should_error_on_first_diagnostic
    c.new-skeletons.result.items c.answer_modules.new.answers.items c.in_ok-answers.answers.items c.in_ok-diagnostics.diagnostics.items
    c.deref-3.result.now
    c.new-skeletons.ensures.items c.deref-3.ensures.value c.in_ok-diagnostics.ensures.faults c.in_ok-diagnostics.ensures.shown
    c.in_ok-answers.ensures.skeletons c.in_ok-answers.ensures.diagnostics

pub returns-clause-kept : goal.returns-clause-kept
returns-clause-kept c =
    item_kept c.args.input.graph.now c.args.input.root_symbol.now c.args.package_ranges
    c.args.input.options.now.should_error_on_first_diagnostic
    c.new-skeletons.result.items c.answer_modules.new.answers.items c.deref.result.now c.in_ok-diagnostics.diagnostics.items
    c.deref-2.result.now
    c.in_ok-modules.modules.items c.new-skeletons.ensures.items c.deref.ensures.value c.deref-2.ensures.value
    c.in_ok-diagnostics.ensures.faults
    c.in_ok-diagnostics.ensures.shown c.in_ok-modules.ensures
