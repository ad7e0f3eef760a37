use Rattle.std.proofs.Common.{arith, sym, ◌∙◌}
use Rattle.std.proofs.lemmas.Grind.{common_steps}
use Rattle.fast_check_transform_module.proofs.Transformed.{in_grammar}
use Rattle.fast_check_transform_module.proofs.answer.transform.Goals as goal

pub returns-clause-grammar : goal.returns-clause-grammar
returns-clause-grammar c =
    in_grammar c.args.graph.now c.args.es_module_info.now c.args.public_ranges.now c.in_ok-program.ensures.skeleton
    (sym c.in_ok-program.ensures.faults ∙ grind (arith, common_steps))
