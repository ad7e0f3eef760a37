-- Written by forms/write.py from forms/forms.txt.
use Rattle.std.proofs.Common.{sym, ◌∙◌, ap}
use Rattle.fast_check_tree_forms.specs.PatternChoices.{if_pat}
use Rattle.fast_check_tree_forms.specs.declared.statement_choices.ForHead.{ForHead}
use Rattle.fast_check_tree_forms.proofs.Within.{is_pat, for_head_else}
use Rattle.fast_check_tree_forms.proofs.statement_choices.ForHead.of.Goals as goal

pub returns-in-Other : goal.returns-in-Other
returns-in-Other c =
    sym (for_head_else _ (λ p. c.in_default.not-VarDecl (c.kind.ensures ∙ p)) (λ p. c.in_default.not-UsingDecl (c.kind.ensures ∙ p)) ∙
    ap (λ this. if_pat this ForHead.Pat ForHead.Other) (sym c.of.ensures ∙ c.in-Other.is))

pub returns-in_default-of : goal.returns-in_default-of
returns-in_default-of c =
    sym (for_head_else _ (λ p. c.in_default.not-VarDecl (c.kind.ensures ∙ p)) (λ p. c.in_default.not-UsingDecl (c.kind.ensures ∙ p)) ∙
    ap (λ this. if_pat this ForHead.Pat ForHead.Other) (sym c.of.ensures) ∙ is_pat c.of.result _ _ c.in_default-of.not-Other)
