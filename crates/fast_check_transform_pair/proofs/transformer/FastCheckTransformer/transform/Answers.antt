use Rattle.fast_check_transform_module.proofs.Transformed.{in_grammar}
use Rattle.fast_check_transform_pair.proofs.transformer.FastCheckTransformer.transform.Goals as goal

pub returns-clause-grammar : goal.returns-clause-grammar
returns-clause-grammar c =
    in_grammar c.args.self.now.graph.now c.args.self.now.es_module_info.now c.args.self.now.public_ranges.now
    c.in_ok-program.ensures.skeleton
