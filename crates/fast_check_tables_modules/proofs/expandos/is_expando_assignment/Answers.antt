use Rattle.std.proofs.Common.{◌∙◌, ap, sym, ℕ, List, codes}
use Rattle.std.specs.Str.{bytes_eq}
use Rattle.fast_check_tree_syntax.specs.declared.kind.Kind.{Kind}
use Rattle.fast_check_tree_syntax.specs.declared.kind.Kind.TheVariants.{AssignExpr}
use Rattle.fast_check_tree_syntax.specs.Shape.{◌is◌}
use Rattle.fast_check_tables_modules.specs.Expandos.{is_expando_target}
use Rattle.std.proofs.lemmas.Bool.{not-true, not-false}
use Rattle.fast_check_tree_syntax.proofs.Tests.{and_fails, and_holds}
use Rattle.fast_check_tables_modules.proofs.expandos.is_expando_assignment.Goals as goal

pub returns-then-ne : goal.returns-then-ne
returns-then-ne c = and_fails _ _ (sym (ap (λ (k : Kind). k is AssignExpr) c.kind.ensures) ∙ not-true _ (sym c.ne.ensures ∙ c.if-ne.true))

pub returns-then-eq : goal.returns-then-eq
returns-then-eq c =
    let of = c.of-assignment.ensures in
    let assignment = sym (ap (λ (k : Kind). k is AssignExpr) c.kind.ensures) ∙ not-false _ (sym c.ne.ensures ∙ c.if-ne.false) in
    let op = c.eq.ensures ∙ ap (λ (text : List ℕ). bytes_eq text (codes "=")) of.op in
    and_holds _ _ assignment (and_holds _ _ (sym op ∙ c.if-eq.true) (c.is_expando_target.ensures ∙ ap is_expando_target of.left))

pub returns-else-eq : goal.returns-else-eq
returns-else-eq c =
    let assignment = sym (ap (λ (k : Kind). k is AssignExpr) c.kind.ensures) ∙ not-false _ (sym c.ne.ensures ∙ c.if-ne.false) in
    let op = c.eq.ensures ∙ ap (λ (text : List ℕ). bytes_eq text (codes "=")) c.of-assignment.ensures.op in
    and_holds _ _ assignment (c.if-eq.false ∙ and_fails _ _ (sym op ∙ c.if-eq.false))
