use Rattle.std.proofs.Common.{◌∙◌, ap}
use Rattle.fast_check_tables_graph.specs.Graph.{resolutions_of}
use Rattle.fast_check_transform_imports.specs.module_facts.ModuleFacts.{facts_by}
use Rattle.fast_check_transform_module.proofs.program.facts_of_module.Goals as goal

pub returns : goal.returns
returns c =
    let info = c.args.es_module_info.now in
    c.of.ensures
    ∙ ap (λ r. facts_by r info c.args.public_ranges.now)
    (c.resolutions_of-resolutions.ensures ∙ ap (resolutions_of c.args.graph.now) c.specifier.ensures)
