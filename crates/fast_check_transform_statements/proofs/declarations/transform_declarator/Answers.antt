use Rattle.std.proofs.Common.{ap, ◌∙◌, sym}
use Rattle.fast_check_meaning_signatures.proofs.Adding.{adds_same}
use Rattle.fast_check_transform_imports.specs.skeleton.Mutability.{mutability_of}
use Rattle.fast_check_tree_syntax.specs.Part.{seen}
use Rattle.fast_check_tables_modules.specs.diagnostics.PublicRanges.{is_public}
use Rattle.fast_check_transform_imports.specs.module_facts.ModuleFacts.{facts_of}
use Rattle.fast_check_transform_statements.specs.PartAnswers.{declarator_answer}
use Rattle.fast_check_transform_statements.proofs.Declared.{private_declarator, ambient_declarator, public_declarator_stays}
use Rattle.fast_check_transform_statements.proofs.declarations.transform_declarator.Goals as goal

pub returns-then-not-contains : goal.returns-then-not-contains
returns-then-not-contains c =
    let public = ap (is_public c.args.facts.public_ranges.now) (sym c.of.ensures.span) ∙
    (sym c.contains.ensures ∙ c.if-not-contains.true) in
    private_declarator (facts_of c.args.facts) (seen c.args.statement) (seen c.args.declarator) public c.args.faults.now.items

pub returns-then-is_ambient_statement : goal.returns-then-is_ambient_statement
returns-then-is_ambient_statement c =
    let public = ap (is_public c.args.facts.public_ranges.now) (sym c.of.ensures.span) ∙
    (sym c.contains.ensures ∙ c.if-not-contains.false) in
    ambient_declarator (facts_of c.args.facts) (seen c.args.statement) (seen c.args.declarator) public
    (sym c.is_ambient_statement.ensures ∙ c.if-is_ambient_statement.true) c.in_ok-to_tree.ensures c.args.faults.now.items

pub returns : goal.returns
returns c =
    let public = ap (is_public c.args.facts.public_ranges.now) (sym c.of.ensures.span) ∙
    (sym c.contains.ensures ∙ c.if-not-contains.false) in
    public_declarator_stays (facts_of c.args.facts) (seen c.args.statement) (seen c.args.declarator) public
    (sym c.is_ambient_statement.ensures ∙ c.if-is_ambient_statement.false)
    (adds_same (ap (λ m. declarator_answer (facts_of c.args.facts) m (seen c.args.declarator))
    (sym (c.mutability_of-mutability.ensures ∙ ap mutability_of c.of-2.ensures.kind)))
    c.in_ok-typed_declarator.ensures)
