use Rattle.std.proofs.Common.{refl}
use Rattle.fast_check_build_answers.proofs.Turns.{package_found}
use Rattle.fast_check_build_answers.proofs.once.found_once.Goals as goal

pub returns : goal.returns
returns c = λ answers written.
    package_found c.args.input.graph.now c.args.input.root_symbol.now c.args.package_ranges
    c.args.input.options.now.should_error_on_first_diagnostic
    c.new-skeletons.result.items c.answer_modules.new.answers.items answers c.in_ok-diagnostics.diagnostics.items
    c.in_ok-diagnostics.diagnostics.items
    c.new-skeletons.ensures.items refl c.in_ok-diagnostics.ensures.faults c.in_ok-diagnostics.ensures.shown
    written.skeletons written.refused
