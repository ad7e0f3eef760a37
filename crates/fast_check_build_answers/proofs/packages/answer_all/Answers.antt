use Rattle.std.proofs.Common.{◌∙◌, sym, ap, ◌++◌}
use Rattle.fast_check_build_answers.proofs.MorePackages.{owned_next, turned}
use Rattle.fast_check_build_answers.proofs.packages.answer_all.Goals as goal

pub answer_one-requires : goal.answer_one-requires
answer_one-requires c =
    owned_next c.args.input.root_symbol.now c.loop-package_ranges.yielded
    (c.in-Some.field-0-0, c.in-Some.package_ranges) c.next.new.self c.args.ranges.entries
    (sym (ap (λ es. c.loop-package_ranges.yielded ++ es) c.in-Some.ensures.steps) ∙ c.loop-package_ranges.invariant.all) c.requires

pub loop-package_ranges-preserved-in_ok-append : goal.loop-package_ranges-preserved-in_ok-append
loop-package_ranges-preserved-in_ok-append c =
    let t = turned c.args.input.graph.now c.args.input.root_symbol.now c.args.input.options.now.should_error_on_first_diagnostic
    c.loop-package_ranges.yielded (
      c.in-Some.field-0-0,
      c.in-Some.package_ranges,
    ) _ c.next.new.self c.args.ranges.entries c.loop-package_ranges.answers.items c.in_ok-more.more.items
    c.append.new.self.items c.loop-package_ranges.invariant.all c.in-Some.ensures.steps c.loop-package_ranges.invariant.answered
    c.in_ok-more.ensures c.in_ok-append.ensures.items in
    record { all = t.0; answered = t.1 }

pub loop-package_ranges-preserved : goal.loop-package_ranges-preserved
loop-package_ranges-preserved c =
    let t = turned c.args.input.graph.now c.args.input.root_symbol.now c.args.input.options.now.should_error_on_first_diagnostic
    c.loop-package_ranges.yielded (
      c.in-Some.field-0-0,
      c.in-Some.package_ranges,
    ) _ c.next.new.self c.args.ranges.entries c.loop-package_ranges.answers.items c.in_ok-more.more.items
    c.append.new.self.items c.loop-package_ranges.invariant.all c.in-Some.ensures.steps c.loop-package_ranges.invariant.answered
    c.in_ok-more.ensures c.in_ok-append.ensures.items in
    record { all = t.0; answered = t.1 }
