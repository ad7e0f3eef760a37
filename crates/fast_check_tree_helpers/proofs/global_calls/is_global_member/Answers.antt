use Rattle.std.proofs.Common.{◌∙◌, ap, sym}
use Rattle.fast_check_tree_syntax.specs.declared.kind.Kind.{Kind}
use Rattle.fast_check_tree_syntax.specs.declared.kind.Kind.TheVariants.{MemberExpr}
use Rattle.fast_check_tree_syntax.specs.Shape.{◌is◌}
use Rattle.fast_check_tree_helpers.specs.GlobalCalls.{is_global, is_plain_name}
use Rattle.std.proofs.lemmas.Bool.{not-true, not-false}
use Rattle.fast_check_tree_syntax.proofs.Tests.{and_fails, and_holds}
use Rattle.fast_check_tree_helpers.proofs.global_calls.is_global_member.Goals as goal

pub returns-then-ne : goal.returns-then-ne
returns-then-ne c = and_fails _ _ (sym (ap (λ (k : Kind). k is MemberExpr) c.kind.ensures) ∙ not-true _ (sym c.ne.ensures ∙ c.if-ne.true))

pub returns-then-is_global : goal.returns-then-is_global
returns-then-is_global c =
    let of = c.of-member.ensures in
    let member = sym (ap (λ (k : Kind). k is MemberExpr) c.kind.ensures) ∙ not-false _ (sym c.ne.ensures ∙ c.if-ne.false) in
    let object = c.is_global.ensures ∙ ap (is_global c.args.object.now c.args.unresolved) of.obj in
    let property = c.is_plain_name.ensures ∙ ap (is_plain_name c.args.name.now) of.prop in
    and_holds _ _ member (and_holds _ _ (sym object ∙ c.if-is_global.true) property)

pub returns-else-is_global : goal.returns-else-is_global
returns-else-is_global c =
    let member = sym (ap (λ (k : Kind). k is MemberExpr) c.kind.ensures) ∙ not-false _ (sym c.ne.ensures ∙ c.if-ne.false) in
    let object = c.is_global.ensures ∙ ap (is_global c.args.object.now c.args.unresolved) c.of-member.ensures.obj in
    and_holds _ _ member (c.if-is_global.false ∙ and_fails _ _ (sym object ∙ c.if-is_global.false))
