use Rattle.std.proofs.Common.{take}
use Rattle.fast_check_tree_syntax.specs.Part.{seen}
use Rattle.fast_check_meaning_signatures.specs.Answers.{Adds}
use Rattle.fast_check_transform_imports.specs.module_facts.ModuleFacts.{facts_of}
use Rattle.fast_check_transform_statements.specs.PartAnswers.{declarators_answer}
use Rattle.fast_check_transform_statements.proofs.declarations.public_declarators.Given as goal

abbrev pub invariant-loop-declarator : goal.invariant-loop-declarator
invariant-loop-declarator l =
    Adds (declarators_answer (facts_of l.facts) (seen l.statement)
    (take l.declarator-index l.declarator-items)) l.items l.initial.faults.items l.faults.items
