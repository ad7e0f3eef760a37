-- Written by forms/write.py from forms/forms.txt.
use Rattle.std.proofs.Common.{sym, ◌∙◌, ap}
use Rattle.fast_check_tree_forms.specs.ExpressionChoices.{if_expr}
use Rattle.fast_check_tree_forms.specs.declared.expression_choices.BlockStmtOrExpr.{BlockStmtOrExpr}
use Rattle.fast_check_tree_forms.proofs.Within.{is_expr, block_stmt_or_expr_else}
use Rattle.fast_check_tree_forms.proofs.expression_choices.BlockStmtOrExpr.of.Goals as goal

pub returns-in-Other : goal.returns-in-Other
returns-in-Other c =
    sym (block_stmt_or_expr_else _ (λ p. c.in_default.not-BlockStmt (c.kind.ensures ∙ p)) ∙
    ap (λ this. if_expr this BlockStmtOrExpr.Expr BlockStmtOrExpr.Other) (sym c.of.ensures ∙ c.in-Other.is))

pub returns-in_default-of : goal.returns-in_default-of
returns-in_default-of c =
    sym (block_stmt_or_expr_else _ (λ p. c.in_default.not-BlockStmt (c.kind.ensures ∙ p)) ∙
    ap (λ this. if_expr this BlockStmtOrExpr.Expr BlockStmtOrExpr.Other) (sym c.of.ensures) ∙
    is_expr c.of.result _ _ c.in_default-of.not-Other)
