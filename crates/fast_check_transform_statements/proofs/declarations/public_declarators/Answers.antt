use Rattle.std.proofs.Common.{rules, ap, sym, ◌∙◌, ◌++◌, append-nil}
use Rattle.fast_check_tree_syntax.specs.Part.{seen}
use Rattle.fast_check_tree_syntax.specs.Shape.{parts}
use Rattle.fast_check_transform_imports.specs.module_facts.ModuleFacts.{facts_of}
use Rattle.fast_check_transform_imports.specs.module_facts.Kept.{as_list}
use Rattle.fast_check_transform_statements.proofs.Declared.{no_declarators, one_more_declarator, all_declarators}
use Rattle.fast_check_transform_statements.proofs.declarations.public_declarators.Goals as goal

pub loop-declarator-init : goal.loop-declarator-init
loop-declarator-init c = no_declarators (facts_of c.args.facts) (seen c.args.statement) c.new-items.ensures c.args.faults.now.items

pub loop-declarator-preserved : goal.loop-declarator-preserved
loop-declarator-preserved c =
    one_more_declarator (facts_of c.args.facts)
    (seen c.args.statement) c.parts-declarator-items.result.now c.loop-declarator.declarator-index
    (seen c.read.result)
    c.loop-declarator-test.true (search rules) c.loop-declarator.invariant c.in_ok-transform_declarator.ensures
    (c.in_ok-push-in-Some.ensures.ok ∙ ap (λ o. c.loop-declarator.items ++ as_list o) (sym c.in-Some.is))

pub loop-declarator-preserved-in-None : goal.loop-declarator-preserved-in-None
loop-declarator-preserved-in-None c =
    one_more_declarator (facts_of c.args.facts)
    (seen c.args.statement) c.parts-declarator-items.result.now c.loop-declarator.declarator-index
    (seen c.read.result)
    c.loop-declarator-test.true (search rules) c.loop-declarator.invariant c.in_ok-transform_declarator.ensures
    (sym (append-nil c.loop-declarator.items) ∙ ap (λ o. c.loop-declarator.items ++ as_list o) (sym c.in-None.is))

pub returns : goal.returns
returns c =
    all_declarators (facts_of c.args.facts) (seen c.args.statement) c.loop-declarator.declarator-index c.loop-declarator-test.false
    (c.parts-declarator-items.ensures ∙ ap parts c.of.ensures.decls) c.loop-declarator.invariant
