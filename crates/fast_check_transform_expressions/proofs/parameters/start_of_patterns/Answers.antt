use Rattle.std.proofs.Common.{rules, ◌∙◌, subst, map-id}
use Rattle.fast_check_tree_syntax.specs.Part.{seen}
use Rattle.fast_check_tree_helpers.specs.OptionalParams.{IsOptionalStart}
use Rattle.fast_check_transform_expressions.proofs.Chains.{mapped_slice}
use Rattle.fast_check_transform_expressions.proofs.parameters.start_of_patterns.Goals as goal

pub returns : goal.returns
returns c =
    let same = mapped_slice c.map.result c.build.ensures.0 c.build.ensures.1 seen (λ t. t) c.args.pats.now (search rules)
    (λ x r q k. search rules) in
    subst (IsOptionalStart c.build.result) (same ∙ map-id c.args.pats.now) c.build.ensures.2
