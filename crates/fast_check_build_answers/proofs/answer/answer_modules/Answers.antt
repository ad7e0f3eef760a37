use Rattle.std.proofs.Common.{◌∙◌, sym, ap, append_assoc, [], ◌∷◌, ◌++◌}
use Rattle.fast_check_build_answers.specs.PackageFaults.{PublicModule}
use Rattle.fast_check_build_answers.proofs.Turns.{owns_next, diagnosed_more, diagnosed_all, shows_turn, shows_all, early, goes_on}
use Rattle.fast_check_build_answers.proofs.answer.answer_modules.Goals as goal

pub answer_module-requires : goal.answer_module-requires
answer_module-requires c =
    owns_next c.args.input.root_symbol.now c.loop-specifier.yielded
    (c.in-Some.specifier, c.in-Some.public_ranges) c.next.new.self c.args.module_ranges.entries
    (sym (ap (λ es. c.loop-specifier.yielded ++ es) c.in-Some.ensures.steps) ∙ c.loop-specifier.invariant.all) c.requires

pub returns-then-ends_early-clause-faults : goal.returns-then-ends_early-clause-faults
returns-then-ends_early-clause-faults c =
    let m : PublicModule = (c.in-Some.specifier, c.in-Some.public_ranges) in
    let done = c.loop-specifier.yielded in
    let first = c.args.input.options.now.should_error_on_first_diagnostic in
    let last = early first c.deref.result.now c.ends_early.result c.ends_early.ensures c.if-ends_early.true in
    let split = append_assoc done (m ∷ []) c.next.new.self ∙
    (sym (ap (λ es. done ++ es) c.in-Some.ensures.steps) ∙ c.loop-specifier.invariant.all) in
    diagnosed_all first c.args.input.graph.now c.args.input.root_symbol.now
    (done ++ m ∷ []) c.next.new.self c.args.module_ranges.entries c.add_diagnostics.new.diagnostics.items
    last.0 (λ e. last.1 (c.deref.ensures.value ∙ e)) split
    (diagnosed_more first c.args.input.graph.now c.args.input.root_symbol.now done m c.loop-specifier.diagnostics.items
    c.in_ok-more.more.items
    c.add_diagnostics.new.diagnostics.items
    c.loop-specifier.invariant.goes_on c.loop-specifier.invariant.faults c.in_ok-more.ensures.faults c.in_ok-add_diagnostics.ensures.added)

pub returns-then-ends_early-clause-shown : goal.returns-then-ends_early-clause-shown
returns-then-ends_early-clause-shown c =
    let m : PublicModule = (c.in-Some.specifier, c.in-Some.public_ranges) in
    let done = c.loop-specifier.yielded in
    let first = c.args.input.options.now.should_error_on_first_diagnostic in
    let last = early first c.deref.result.now c.ends_early.result c.ends_early.ensures c.if-ends_early.true in
    let split = append_assoc done (m ∷ []) c.next.new.self ∙
    (sym (ap (λ es. done ++ es) c.in-Some.ensures.steps) ∙ c.loop-specifier.invariant.all) in
    shows_all first c.args.input.graph.now c.args.input.root_symbol.now
    (done ++ m ∷ []) c.next.new.self c.args.module_ranges.entries c.args.answers.now.items
    c.add_diagnostics.new.answers.items c.add_diagnostics.new.diagnostics.items (λ e. last.1 (c.deref.ensures.value ∙ e)) split
    (diagnosed_more first c.args.input.graph.now c.args.input.root_symbol.now done m c.loop-specifier.diagnostics.items
    c.in_ok-more.more.items
    c.add_diagnostics.new.diagnostics.items
    c.loop-specifier.invariant.goes_on c.loop-specifier.invariant.faults c.in_ok-more.ensures.faults c.in_ok-add_diagnostics.ensures.added)
    (shows_turn first c.args.input.graph.now c.args.input.root_symbol.now done m c.args.answers.now.items c.loop-specifier.answers.items
    c.answer_module.new.answers.items c.add_diagnostics.new.answers.items c.len-answered.result c.loop-specifier.diagnostics.items
    c.in_ok-more.more.items
    c.add_diagnostics.new.diagnostics.items c.loop-specifier.invariant.faults c.in_ok-more.ensures.faults
    c.in_ok-add_diagnostics.ensures.added
    c.in_ok-add_diagnostics.ensures.kept c.in_ok-add_diagnostics.ensures.cut
    (c.len-answered.ensures ∙ c.loop-specifier.answers.ok.0) c.in_ok-more.ensures.stay
    c.loop-specifier.invariant.shown c.in_ok-more.ensures.shown)

pub loop-specifier-preserved : goal.loop-specifier-preserved
loop-specifier-preserved c =
    let m : PublicModule = (c.in-Some.specifier, c.in-Some.public_ranges) in
    let done = c.loop-specifier.yielded in
    let first = c.args.input.options.now.should_error_on_first_diagnostic in record {
      all = append_assoc done (m ∷ []) c.next.new.self ∙
          (sym (ap (λ es. done ++ es) c.in-Some.ensures.steps) ∙ c.loop-specifier.invariant.all);
      faults =
          diagnosed_more first c.args.input.graph.now c.args.input.root_symbol.now done m c.loop-specifier.diagnostics.items
          c.in_ok-more.more.items
          c.add_diagnostics.new.diagnostics.items c.loop-specifier.invariant.goes_on c.loop-specifier.invariant.faults
          c.in_ok-more.ensures.faults
          c.in_ok-add_diagnostics.ensures.added;
      shown = shows_turn first c.args.input.graph.now c.args.input.root_symbol.now done m c.args.answers.now.items
          c.loop-specifier.answers.items
          c.answer_module.new.answers.items c.add_diagnostics.new.answers.items c.len-answered.result c.loop-specifier.diagnostics.items
          c.in_ok-more.more.items
          c.add_diagnostics.new.diagnostics.items c.loop-specifier.invariant.faults c.in_ok-more.ensures.faults
          c.in_ok-add_diagnostics.ensures.added
          c.in_ok-add_diagnostics.ensures.kept c.in_ok-add_diagnostics.ensures.cut (c.len-answered.ensures ∙ c.loop-specifier.answers.ok.0)
          c.in_ok-more.ensures.stay c.loop-specifier.invariant.shown c.in_ok-more.ensures.shown;
      goes_on = λ t. sym c.deref.ensures.value ∙
          goes_on first c.deref.result.now c.ends_early.result c.ends_early.ensures c.if-ends_early.false t;
    }
