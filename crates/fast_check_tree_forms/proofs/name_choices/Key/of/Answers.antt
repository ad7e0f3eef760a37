-- Written by forms/write.py from forms/forms.txt.
use Rattle.std.proofs.Common.{sym, ◌∙◌, ap}
use Rattle.fast_check_tree_forms.specs.NameChoices.{if_prop_name}
use Rattle.fast_check_tree_forms.specs.declared.name_choices.Key.{Key}
use Rattle.fast_check_tree_forms.proofs.Within.{is_prop_name, key_else}
use Rattle.fast_check_tree_forms.proofs.name_choices.Key.of.Goals as goal

pub returns-in-Other : goal.returns-in-Other
returns-in-Other c =
    sym (key_else _ (λ p. c.in_default.not-PrivateName (c.kind.ensures ∙ p)) ∙
    ap (λ this. if_prop_name this Key.Public Key.Other) (sym c.of.ensures ∙ c.in-Other.is))

pub returns-in_default-of : goal.returns-in_default-of
returns-in_default-of c =
    sym (key_else _ (λ p. c.in_default.not-PrivateName (c.kind.ensures ∙ p)) ∙
    ap (λ this. if_prop_name this Key.Public Key.Other) (sym c.of.ensures) ∙ is_prop_name c.of.result _ _ c.in_default-of.not-Other)
