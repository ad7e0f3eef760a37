-- Written by forms/write.py from forms/forms.txt.
use Rattle.std.proofs.Common.{sym, ◌∙◌, ap}
use Rattle.fast_check_tree_forms.specs.ExpressionChoices.{if_expr}
use Rattle.fast_check_tree_forms.specs.declared.expression_choices.Callee.{Callee}
use Rattle.fast_check_tree_forms.proofs.Within.{is_expr, callee_else}
use Rattle.fast_check_tree_forms.proofs.expression_choices.Callee.of.Goals as goal

pub returns-in-Other : goal.returns-in-Other
returns-in-Other c =
    sym (callee_else _ (λ p. c.in_default.not-Super (c.kind.ensures ∙ p)) (λ p. c.in_default.not-Import (c.kind.ensures ∙ p)) ∙
    ap (λ this. if_expr this Callee.Expr Callee.Other) (sym c.of.ensures ∙ c.in-Other.is))

pub returns-in_default-of : goal.returns-in_default-of
returns-in_default-of c =
    sym (callee_else _ (λ p. c.in_default.not-Super (c.kind.ensures ∙ p)) (λ p. c.in_default.not-Import (c.kind.ensures ∙ p)) ∙
    ap (λ this. if_expr this Callee.Expr Callee.Other) (sym c.of.ensures) ∙ is_expr c.of.result _ _ c.in_default-of.not-Other)
