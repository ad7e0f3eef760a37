use Rattle.std.proofs.Common.{ap, ◌∙◌, sym, ◌++◌, ◌∷◌, []}
use Rattle.std.proofs.lemmas.Result.{IfOk-weaker}
use Rattle.fast_check_tree_helpers.specs.ranges.Ranges.{range_of_node}
use Rattle.fast_check_meaning_signatures.specs.Answers.{fault_at}
use Rattle.fast_check_meaning_signatures.specs.declared.fault.FaultKind.TheVariants.{UnsupportedDestructuring}
use Rattle.fast_check_tree_syntax.specs.declared.kind.Kind.{Kind}
use Rattle.fast_check_tree_syntax.specs.declared.kind.Kind.TheVariants.{BindingIdent}
use Rattle.fast_check_tree_syntax.specs.Part.{seen}
use Rattle.fast_check_tree_syntax.specs.Shape.{◌is◌, kind_of}
use Rattle.fast_check_transform_imports.specs.module_facts.ModuleFacts.{facts_of}
use Rattle.fast_check_transform_statements.proofs.Declared.{typed_ident, typed_pattern}
use Rattle.fast_check_transform_statements.proofs.declarations.typed_declarator.Goals as goal

pub returns-then-eq : goal.returns-then-eq
returns-then-eq c =
    let ident = ap (λ (k : Kind). k is BindingIdent) (sym (c.kind.ensures ∙ ap kind_of c.of.ensures.name)) ∙
    (sym c.eq.ensures ∙ c.if-eq.true) in
    IfOk-weaker c.ident_declarator.result _ _
    (λ tree h. typed_ident (facts_of c.args.facts) c.args.mutability (seen c.args.declarator) ident h) c.ident_declarator.ensures

pub returns : goal.returns
returns c =
    let other = ap (λ (k : Kind). k is BindingIdent) (sym (c.kind.ensures ∙ ap kind_of c.of.ensures.name)) ∙
    (sym c.eq.ensures ∙ c.if-eq.false) in
    let place = c.range_of_node.ensures ∙ ap range_of_node c.of.ensures.name in
    typed_pattern (facts_of c.args.facts) c.args.mutability (seen c.args.declarator) other
    (c.in_ok-push.ensures.items ∙ ap (λ r. c.args.faults.now.items ++ fault_at UnsupportedDestructuring r ∷ []) place)
