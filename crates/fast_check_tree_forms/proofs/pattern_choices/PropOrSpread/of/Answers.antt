-- Written by forms/write.py from forms/forms.txt.
use Rattle.std.proofs.Common.{sym, ◌∙◌, ap}
use Rattle.fast_check_tree_forms.specs.PatternChoices.{if_prop}
use Rattle.fast_check_tree_forms.specs.declared.pattern_choices.PropOrSpread.{PropOrSpread}
use Rattle.fast_check_tree_forms.proofs.Within.{is_prop, prop_or_spread_else}
use Rattle.fast_check_tree_forms.proofs.pattern_choices.PropOrSpread.of.Goals as goal

pub returns-in-Other : goal.returns-in-Other
returns-in-Other c =
    sym (prop_or_spread_else _ (λ p. c.in_default.not-SpreadElement (c.kind.ensures ∙ p)) ∙
    ap (λ this. if_prop this PropOrSpread.Prop PropOrSpread.Other) (sym c.of.ensures ∙ c.in-Other.is))

pub returns-in_default-of : goal.returns-in_default-of
returns-in_default-of c =
    sym (prop_or_spread_else _ (λ p. c.in_default.not-SpreadElement (c.kind.ensures ∙ p)) ∙
    ap (λ this. if_prop this PropOrSpread.Prop PropOrSpread.Other) (sym c.of.ensures) ∙ is_prop c.of.result _ _ c.in_default-of.not-Other)
