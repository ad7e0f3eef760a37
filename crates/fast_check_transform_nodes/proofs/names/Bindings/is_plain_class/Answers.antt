use Rattle.std.proofs.Common.{ap, ◌∙◌, sym, option_copied}
use Rattle.fast_check_transform_nodes.specs.Bindings.{names_plain_class, is_of_plain_class}
use Rattle.fast_check_transform_nodes.proofs.names.Bindings.is_plain_class.Goals as goal

pub returns-in-Some : goal.returns-in-Some
unfolding names_plain_class
returns-in-Some c = c.is_plain_class.ensures ∙ ap is_of_plain_class (sym (ap option_copied c.in-Some.is) ∙ c.symbol_from_swc.ensures)

pub returns-in-None : goal.returns-in-None
unfolding names_plain_class
returns-in-None c = ap is_of_plain_class (sym (ap option_copied c.in-None.is) ∙ c.symbol_from_swc.ensures)
