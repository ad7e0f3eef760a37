use Rattle.std.proofs.Common.{ap, ◌∙◌, sym, codes}
use Rattle.fast_check_tree_syntax.specs.declared.kind.Kind.{Kind}
use Rattle.fast_check_tree_syntax.specs.declared.kind.Kind.TheVariants.{TsTypeRef}
use Rattle.fast_check_tree_syntax.specs.declared.tree.Tree.{Tree}
use Rattle.fast_check_tree_syntax.specs.Part.{seen}
use Rattle.fast_check_tree_syntax.specs.Shape.{◌is◌, parts}
use Rattle.fast_check_tree_forms_types.specs.TypeParams.{TsTypeParamInstantiation-params}
use Rattle.fast_check_tree_helpers.specs.GlobalCalls.{is_global}
use Rattle.fast_check_meaning_signatures.specs.NewNodes.{is_one}
use Rattle.fast_check_transform_nodes.proofs.Promises.{no_reference, not_global, by_arguments}
use Rattle.fast_check_transform_nodes.proofs.nodes.is_promise.Goals as goal

pub returns : goal.returns
returns c =
    no_reference c.args.unresolved (seen c.args.ty)
    (ap (λ (k : Kind). k is TsTypeRef) (sym c.kind.ensures) ∙ (sym c.eq.ensures ∙ c.if-eq.false))

pub returns-else-is_global : goal.returns-else-is_global
returns-else-is_global c =
    let reference = ap (λ (k : Kind). k is TsTypeRef) (sym c.kind.ensures) ∙ (sym c.eq.ensures ∙ c.if-eq.true) in
    let global = ap (λ (t : Tree). is_global (codes "Promise") c.args.unresolved t) (sym c.of-reference.ensures.type_name)
    ∙ (sym c.is_global.ensures ∙ c.if-is_global.false) in
    c.if-is_global.false ∙ not_global c.args.unresolved (seen c.args.ty) reference global

pub returns-then-is_global : goal.returns-then-is_global
returns-then-is_global c =
    let reference = ap (λ (k : Kind). k is TsTypeRef) (sym c.kind.ensures) ∙ (sym c.eq.ensures ∙ c.if-eq.true) in
    let global = ap (λ (t : Tree). is_global (codes "Promise") c.args.unresolved t) (sym c.of-reference.ensures.type_name)
    ∙ (sym c.is_global.ensures ∙ c.if-is_global.true) in
    let arguments = c.of.ensures.params ∙ ap TsTypeParamInstantiation-params c.of-reference.ensures.type_params in
    c.is_one.ensures ∙ (ap is_one (c.parts.ensures ∙ ap parts arguments) ∙ by_arguments c.args.unresolved (seen c.args.ty) reference global)
