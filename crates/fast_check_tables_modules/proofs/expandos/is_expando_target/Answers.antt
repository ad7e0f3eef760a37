use Rattle.std.proofs.Common.{◌∙◌, ap, sym}
use Rattle.fast_check_tree_syntax.specs.declared.kind.Kind.{Kind}
use Rattle.fast_check_tree_syntax.specs.declared.kind.Kind.TheVariants.{MemberExpr, Ident, IdentName}
use Rattle.fast_check_tree_syntax.specs.Shape.{◌is◌, kind_of}
use Rattle.std.proofs.lemmas.Bool.{not-true, not-false}
use Rattle.fast_check_tree_syntax.proofs.Tests.{and_fails, and_holds}
use Rattle.fast_check_tables_modules.proofs.expandos.is_expando_target.Goals as goal

pub returns-then-ne : goal.returns-then-ne
returns-then-ne c = and_fails _ _ (sym (ap (λ (k : Kind). k is MemberExpr) c.kind.ensures) ∙ not-true _ (sym c.ne.ensures ∙ c.if-ne.true))

pub returns-then-eq : goal.returns-then-eq
returns-then-eq c =
    let of = c.of-target.ensures in
    let member = sym (ap (λ (k : Kind). k is MemberExpr) c.kind.ensures) ∙ not-false _ (sym c.ne.ensures ∙ c.if-ne.false) in
    let object = c.eq.ensures ∙ ap (λ (k : Kind). k is Ident) (c.kind-2.ensures ∙ ap kind_of of.obj) in
    let property = c.eq-then-eq.ensures ∙ ap (λ (k : Kind). k is IdentName) (c.kind-then-eq.ensures ∙ ap kind_of of.prop) in
    and_holds _ _ member (and_holds _ _ (sym object ∙ c.if-eq.true) property)

pub returns-else-eq : goal.returns-else-eq
returns-else-eq c =
    let member = sym (ap (λ (k : Kind). k is MemberExpr) c.kind.ensures) ∙ not-false _ (sym c.ne.ensures ∙ c.if-ne.false) in
    let object = c.eq.ensures ∙ ap (λ (k : Kind). k is Ident) (c.kind-2.ensures ∙ ap kind_of c.of-target.ensures.obj) in
    and_holds _ _ member (c.if-eq.false ∙ and_fails _ _ (sym object ∙ c.if-eq.false))
