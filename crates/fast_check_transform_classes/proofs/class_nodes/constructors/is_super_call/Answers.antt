use Rattle.std.proofs.Common.{ap, ◌∙◌, sym}
use Rattle.fast_check_tree_syntax.specs.declared.kind.Kind.{Kind}
use Rattle.fast_check_tree_syntax.specs.declared.kind.Kind.TheVariants.{ExprStmt, CallExpr, Super}
use Rattle.fast_check_tree_syntax.specs.Part.{seen}
use Rattle.fast_check_tree_syntax.specs.Shape.{◌is◌, kind_of}
use Rattle.fast_check_tree_forms_expressions.specs.Calls.{CallExpr-callee}
use Rattle.fast_check_transform_classes.proofs.class_nodes.SuperCalls.{no_statement, no_call, call_by_callee}
use Rattle.fast_check_transform_classes.proofs.class_nodes.constructors.is_super_call.Goals as goal

pub returns : goal.returns
returns c = no_statement (seen c.args.stmt) (ap (λ (k : Kind). k is ExprStmt) (sym c.kind.ensures) ∙ (sym c.eq.ensures ∙ c.if-eq.false))

pub returns-else-eq-2 : goal.returns-else-eq-2
returns-else-eq-2 c =
    let statement = ap (λ (k : Kind). k is ExprStmt) (sym c.kind.ensures) ∙ (sym c.eq.ensures ∙ c.if-eq.true) in
    let call = ap (λ (k : Kind). k is CallExpr) (sym (c.kind-then-eq.ensures ∙ ap kind_of c.of.ensures.expr))
    ∙ (sym c.eq-then-eq.ensures ∙ c.if-eq-2.false) in
    c.if-eq-2.false ∙ no_call (seen c.args.stmt) statement call

pub returns-then-eq-2 : goal.returns-then-eq-2
returns-then-eq-2 c =
    let statement = ap (λ (k : Kind). k is ExprStmt) (sym c.kind.ensures) ∙ (sym c.eq.ensures ∙ c.if-eq.true) in
    let call = ap (λ (k : Kind). k is CallExpr) (sym (c.kind-then-eq.ensures ∙ ap kind_of c.of.ensures.expr))
    ∙ (sym c.eq-then-eq.ensures ∙ c.if-eq-2.true) in
    let callee = c.kind-then-eq-2.ensures ∙ ap kind_of (c.of-then-eq-2.ensures.callee ∙ ap CallExpr-callee c.of.ensures.expr) in
    c.eq-then-eq-2.ensures ∙ (ap (λ (k : Kind). k is Super) callee ∙ call_by_callee (seen c.args.stmt) statement call)
