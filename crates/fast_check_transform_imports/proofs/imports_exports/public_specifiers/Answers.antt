use Rattle.std.proofs.Common.{rules, ap, sym, ◌∙◌, ◌++◌, ◌∷◌, []}
use Rattle.fast_check_tree_syntax.specs.Part.{seen}
use Rattle.fast_check_tables_diagnostics.specs.PublicRanges.{is_public}
use Rattle.fast_check_transform_imports.specs.module_facts.ModuleFacts.{facts_of}
use Rattle.fast_check_transform_imports.proofs.ImportExportCases.{public_more, private_more, all_specifiers}
use Rattle.fast_check_transform_imports.proofs.imports_exports.public_specifiers.Goals as goal

pub loop-specifier-preserved-then-not-contains : goal.loop-specifier-preserved-then-not-contains
loop-specifier-preserved-then-not-contains c =
    let public = ap (is_public c.args.facts.public_ranges.now) (sym c.range_of_node.ensures) ∙
    (sym c.contains.ensures ∙ c.if-not-contains.true) in
    private_more (facts_of c.args.facts) c.parts-specifier-items.result.now c.loop-specifier.specifier-index
    (seen c.read-specifier.result)
    c.loop-specifier-test.true (search rules) public c.loop-specifier.invariant

pub loop-specifier-preserved : goal.loop-specifier-preserved
loop-specifier-preserved c =
    let public = ap (is_public c.args.facts.public_ranges.now) (sym c.range_of_node.ensures) ∙
    (sym c.contains.ensures ∙ c.if-not-contains.false) in
    public_more (facts_of c.args.facts) c.parts-specifier-items.result.now c.loop-specifier.specifier-index
    (seen c.read-specifier.result)
    c.loop-specifier-test.true (search rules) public c.loop-specifier.invariant
    (c.in_ok-push.ensures.ok ∙ ap (λ t. c.loop-specifier.items ++ t ∷ []) c.in_ok-to_tree.ensures)

pub returns : goal.returns
returns c =
    all_specifiers
    (facts_of c.args.facts) c.parts-specifier-items.result.now c.loop-specifier.specifier-index c.loop-specifier-test.false
    (seen c.args.specifiers) c.parts-specifier-items.ensures c.loop-specifier.invariant
