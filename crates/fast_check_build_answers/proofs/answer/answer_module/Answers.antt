use Rattle.std.proofs.Common.{◌∙◌, sym, subst}
use Rattle.fast_check_tables_modules.specs.diagnostics.PublicRanges.{PublicRanges}
use Rattle.fast_check_build_answers.specs.PackageAnswer.{OwnsModule}
use Rattle.fast_check_build_answers.proofs.Lists.{stays_same}
use Rattle.fast_check_build_answers.proofs.Turns.{empty_vec, full_vec, left_same, answered_rest, diagnosed_found}
use Rattle.fast_check_build_answers.proofs.answer.answer_module.Goals as goal

pub answer_if_tree-requires : goal.answer_if_tree-requires
answer_if_tree-requires c =
    let found = c.take_diagnostics-found in
    let none = empty_vec found.result c.is_empty.result c.is_empty.ensures c.if-is_empty.true in
    let same = left_same c.args.public_ranges found.new.self found.result found.ensures.taken found.ensures.left none in
    subst (λ (public : PublicRanges). OwnsModule c.args.input.root_symbol.now (c.args.specifier, public)) (sym same) c.requires

pub returns-then-is_empty : goal.returns-then-is_empty
returns-then-is_empty c =
    let found = c.take_diagnostics-found in
    let none = empty_vec found.result c.is_empty.result c.is_empty.ensures c.if-is_empty.true in
    answered_rest c.args.input.options.now.should_error_on_first_diagnostic c.args.input.graph.now c.args.input.root_symbol.now
    (c.args.specifier, c.args.public_ranges) found.new.self c.args.answers.now.items c.answer_if_tree.new.answers.items c.answer_if_tree.result
    (left_same c.args.public_ranges found.new.self found.result found.ensures.taken found.ensures.left none)
    (sym found.ensures.taken ∙ none) c.answer_if_tree.ensures

pub returns : goal.returns
returns c =
    let found = c.take_diagnostics-found in
    let full = full_vec found.result c.is_empty.result c.is_empty.ensures c.if-is_empty.false in
    record {
      faults = diagnosed_found c.args.public_ranges.diagnostics _ found.result.items (λ e. full (found.ensures.taken ∙ e)) found.ensures.taken;
      shown = λ e. absurd (full e);
      stay = stays_same c.args.answers.now.items;
    }
