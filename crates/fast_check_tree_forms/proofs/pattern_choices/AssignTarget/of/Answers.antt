-- Written by forms/write.py from forms/forms.txt.
use Rattle.std.proofs.Common.{sym, ◌∙◌, ap}
use Rattle.fast_check_tree_forms.specs.ExpressionChoices.{if_expr}
use Rattle.fast_check_tree_forms.specs.declared.pattern_choices.AssignTarget.{AssignTarget}
use Rattle.fast_check_tree_forms.proofs.Within.{is_expr, assign_target_else}
use Rattle.fast_check_tree_forms.proofs.pattern_choices.AssignTarget.of.Goals as goal

pub returns-in-Other : goal.returns-in-Other
returns-in-Other c =
    sym (assign_target_else _ (λ p. c.in_default.not-TargetPat (c.kind.ensures ∙ p)) ∙
    ap (λ this. if_expr this AssignTarget.Simple AssignTarget.Other) (sym c.of.ensures ∙ c.in-Other.is))

pub returns-in_default-of : goal.returns-in_default-of
returns-in_default-of c =
    sym (assign_target_else _ (λ p. c.in_default.not-TargetPat (c.kind.ensures ∙ p)) ∙
    ap (λ this. if_expr this AssignTarget.Simple AssignTarget.Other) (sym c.of.ensures) ∙ is_expr c.of.result _ _ c.in_default-of.not-Other)
