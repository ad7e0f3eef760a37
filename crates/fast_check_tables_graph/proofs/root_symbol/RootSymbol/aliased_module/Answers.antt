use Rattle.std.proofs.Common.{◌∙◌, sym, ap, Option}
use Rattle.std.specs.Option.{option_copied, option_and_then}
use Rattle.url.specs.Parts.{Parts}
use Rattle.fast_check_tables_graph.specs.Root.{module_named}
use Rattle.fast_check_tables_graph.proofs.Tied.{at_specifier}
use Rattle.fast_check_tables_graph.proofs.root_symbol.RootSymbol.aliased_module.Goals as goal

pub returns-in_err-get : goal.returns-in_err-get
returns-in_err-get c =
    let found = c.get.ensures.value ∙ at_specifier c.args.specifier.now c.args.self.now.aliases.entries in
    rw c.from_residual.ensures
    (sym (ap (λ (o : Option Parts). option_and_then (module_named c.args.self.now.modules.entries) o)
    (sym found ∙ ap option_copied c.in_err-get.was)))

pub returns : goal.returns
returns c =
    let found = c.get.ensures.value ∙ at_specifier c.args.specifier.now c.args.self.now.aliases.entries in
    c.own_module.ensures ∙ sym
    (ap (λ (o : Option Parts). option_and_then (module_named c.args.self.now.modules.entries) o)
    (sym found ∙ ap option_copied c.in_ok-get.was))
