use Rattle.std.proofs.Common.{◌≡◌, rules, ap, ◌∙◌}
use Rattle.fast_check_tree_forms_programs.specs.Programs.{Module-span, Module-body, Module-shebang, module'}
use Rattle.fast_check_tree_syntax.specs.Part.{seen}
use Rattle.fast_check_tree_syntax.specs.Shape.{parts}
use Rattle.fast_check_transform_module.proofs.Transformed.{skeleton_is, faults_are}
use Rattle.fast_check_transform_imports.specs.module_facts.ModuleFacts.{facts_of}
use Rattle.fast_check_transform_module.proofs.program.transform_es_module.Goals as goal

pub transform_items-requires : goal.transform_items-requires
transform_items-requires c = record { sources = c.new-context.ensures.sources (facts_of c.facts_of_module-facts.result) }

pub returns-clause-skeleton : goal.returns-clause-skeleton
returns-clause-skeleton c =
    let program : seen c.read.result ≡ c.args.es_module_info.now.source.program = search rules in
    let of = c.of.ensures in
    skeleton_is c.args.graph.now c.args.es_module_info.now c.args.public_ranges.now c.in_ok-items.ensures.answer
    c.facts_of_module-facts.ensures (ap parts (of.body ∙ ap Module-body program)) c.new-context.ensures.faults
    (c.in_ok-into_tree.ensures ∙ (λ i. module' ((of.span ∙ ap Module-span program) i) (c.list.ensures i)
    ((c.in_ok-to_tree.ensures ∙ (of.shebang ∙ ap Module-shebang program)) i)))

pub returns-clause-faults : goal.returns-clause-faults
returns-clause-faults c =
    let program : seen c.read.result ≡ c.args.es_module_info.now.source.program = search rules in
    faults_are c.args.graph.now c.args.es_module_info.now c.args.public_ranges.now c.in_ok-items.ensures.answer
    c.facts_of_module-facts.ensures (ap parts (c.of.ensures.body ∙ ap Module-body program)) c.new-context.ensures.faults
