use Rattle.std.proofs.Common.{rules, subst}
use Rattle.fast_check_tree_syntax.specs.Part.{seen}
use Rattle.fast_check_tree_forms_classes.specs.Functions.{Param-pat}
use Rattle.fast_check_tree_helpers.specs.OptionalParams.{IsOptionalStart}
use Rattle.fast_check_transform_expressions.proofs.Chains.{mapped_slice, start_of_params}
use Rattle.fast_check_transform_expressions.proofs.parameters.start_of_params.Goals as goal

pub returns : goal.returns
returns c =
    let same = mapped_slice c.map.result c.build.ensures.0 c.build.ensures.1 seen (λ p. Param-pat p) c.args.params.now (search rules)
    (λ x r q k. search rules) in
    start_of_params c.build.result c.args.params.now (subst (IsOptionalStart c.build.result) same c.build.ensures.2)
