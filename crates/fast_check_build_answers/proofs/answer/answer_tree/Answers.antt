use Rattle.std.proofs.Common.{arith}
use Rattle.std.proofs.lemmas.Grind.{common_steps}
use Rattle.fast_check_transform_module.specs.Transform.{faults}
use Rattle.fast_check_build_answers.proofs.Lists.{stays_pushed, stays_same}
use Rattle.fast_check_build_answers.proofs.Turns.{faults_answered, shows_tree}
use Rattle.fast_check_build_answers.proofs.answer.answer_tree.Goals as goal

pub returns-in_ok-push-in-Ok : goal.returns-in_ok-push-in-Ok
returns-in_ok-push-in-Ok c = record {
  faults = grind (arith, common_steps);
  shown = λ e. shows_tree c.args.input.graph.now
      (record { specifier = c.args.specifier; info = c.args.es_module_info.now; public = c.args.public_ranges.now })
      c.in_ok-made.field-0 c.in-Ok.made c.args.answers.now.items c.push.new.self.items c.in-Ok.is c.in_ok-made.ensures.skeleton
      c.in_ok-made.ensures.grammar c.in_ok-made.ensures.comments c.in_ok-made.ensures.sources c.in_ok-push-in-Ok.ensures.items;
  stay = stays_pushed c.args.answers.now.items c.push.new.self.items _ c.in_ok-push-in-Ok.ensures.items;
}

pub returns-in-Err : goal.returns-in-Err
returns-in-Err c = record {
  faults = faults_answered c.args.input.options.now.should_error_on_first_diagnostic c.args.es_module_info.now
      (faults c.args.input.graph.now c.args.es_module_info.now c.args.public_ranges.now) c.in_ok-made.field-0 c.in-Err.diagnostics c.in-Err.is
      c.in_ok-made.ensures.faults;
  shown = grind (arith, common_steps);
  stay = stays_same c.args.answers.now.items;
}
