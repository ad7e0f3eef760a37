use Rattle.std.proofs.Common.{◌∙◌, sym, ap, ◌++◌, append-nil}
use Rattle.std.proofs.lemmas.Result.{on_ok_weaker}
use Rattle.fast_check_tree_syntax.specs.Part.{seen}
use Rattle.fast_check_tree_helpers.specs.ranges.Ranges.{range_of_node}
use Rattle.fast_check_transform_imports.specs.module_facts.ModuleFacts.{facts_of}
use Rattle.fast_check_transform_statements.proofs.AssignmentCases.{hidden_assignment, hidden_properties, tested_assignment, nothing_missing}
use Rattle.fast_check_transform_statements.proofs.AssignmentCases.{no_property, property_stays}
use Rattle.fast_check_transform_statements.proofs.assignments.transform_assignment.Goals as goal

pub returns-then-not-contains-clause-answer : goal.returns-then-not-contains-clause-answer
returns-then-not-contains-clause-answer c =
    let facts = facts_of c.args.facts in
    hidden_assignment facts (seen c.args.assignment)
    (ap facts.is_public (sym c.of.ensures.span) ∙ (sym c.contains.ensures ∙ c.if-not-contains.true))
    c.args.faults.now.items

pub returns-then-not-contains-clause-properties : goal.returns-then-not-contains-clause-properties
returns-then-not-contains-clause-properties c =
    let facts = facts_of c.args.facts in
    sym (append-nil c.args.properties.now.items)
    ∙ ap (λ ps. c.args.properties.now.items ++ ps) (sym (hidden_properties facts (seen c.args.assignment)
    (ap facts.is_public (sym c.of.ensures.span) ∙ (sym c.contains.ensures ∙ c.if-not-contains.true))))

pub returns-then-not-is_expando_assignment-clause-answer : goal.returns-then-not-is_expando_assignment-clause-answer
returns-then-not-is_expando_assignment-clause-answer c =
    let facts = facts_of c.args.facts in
    let a = seen c.args.assignment in
    tested_assignment facts a
    (ap facts.is_public (sym c.of.ensures.span) ∙ (sym c.contains.ensures ∙ c.if-not-contains.false)) c.in_ok-value.value
    c.in_ok-value.ensures (c.range_of_node.ensures ∙ ap range_of_node c.of.ensures.right) c.of.ensures.right
    (nothing_missing facts a
    (sym c.is_expando_assignment.ensures ∙ c.if-not-is_expando_assignment.true) c.in_ok-value.value c.transform_init.new.faults.items)

pub returns-then-not-is_expando_assignment-clause-properties : goal.returns-then-not-is_expando_assignment-clause-properties
returns-then-not-is_expando_assignment-clause-properties c =
    let facts = facts_of c.args.facts in
    sym (append-nil c.args.properties.now.items)
    ∙ ap (λ ps. c.args.properties.now.items ++ ps) (sym (no_property facts (seen c.args.assignment)
    (sym c.is_expando_assignment.ensures ∙ c.if-not-is_expando_assignment.true)))

pub transform_expando-requires : goal.transform_expando-requires
transform_expando-requires c = sym c.is_expando_assignment.ensures ∙ c.if-not-is_expando_assignment.false

pub returns-clause-answer : goal.returns-clause-answer
returns-clause-answer c =
    let facts = facts_of c.args.facts in
    let a = seen c.args.assignment in
    on_ok_weaker c.transform_expando.result
    (λ f. tested_assignment facts a
    (ap facts.is_public (sym c.of.ensures.span) ∙ (sym c.contains.ensures ∙ c.if-not-contains.false)) c.in_ok-value.value
    c.in_ok-value.ensures (c.range_of_node.ensures ∙ ap range_of_node c.of.ensures.right) c.of.ensures.right f)
    c.transform_expando.ensures.faults

pub returns-clause-properties : goal.returns-clause-properties
returns-clause-properties c =
    let facts = facts_of c.args.facts in
    let a = seen c.args.assignment in
    on_ok_weaker c.transform_expando.result
    (λ f. f ∙ ap (λ ps. c.args.properties.now.items ++ ps) (sym (property_stays facts a
    (ap facts.is_public (sym c.of.ensures.span) ∙ (sym c.contains.ensures ∙ c.if-not-contains.false))
    (sym c.is_expando_assignment.ensures ∙ c.if-not-is_expando_assignment.false) c.in_ok-value.value c.in_ok-value.ensures
    (c.range_of_node.ensures ∙ ap range_of_node c.of.ensures.right) c.of.ensures.right)))
    c.transform_expando.ensures.properties
