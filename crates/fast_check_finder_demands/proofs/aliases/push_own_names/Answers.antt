use Rattle.std.proofs.Common.{◌∙◌, sym, ap}
use Rattle.std.specs.Option.{option_copied}
use Rattle.std.proofs.lemmas.Result.{on_ok_weaker}
use Rattle.fast_check_tables_symbols.specs.Symbols.{symbol_of}
use Rattle.fast_check_finder_demands.proofs.Adds.{adds_as}
use Rattle.fast_check_finder_demands.proofs.Aliased.{with_own}
use Rattle.fast_check_finder_demands.proofs.aliases.push_own_names.Goals as goal

pub returns-then-has_alias : goal.returns-then-has_alias
returns-then-has_alias c =
    let t = c.args.tables.now in
    on_ok_weaker c.push_own.result
    (λ a. adds_as _ _ c.args.out.now c.push_own.new.out
    (with_own t c.args.demand.referrer c.in-Some.symbol.now (symbol_of c.args.demand.symbol t.symbols)
    (sym c.symbol.ensures ∙ ap option_copied c.in-Some.is) (sym c.has_alias.ensures ∙ c.if-has_alias.true)) a)
    c.push_own.ensures
