use Rattle.std.proofs.Common.{◌∙◌, sym, ap}
use Rattle.std.specs.Option.{option_copied}
use Rattle.std.proofs.lemmas.Result.{on_ok_weaker}
use Rattle.fast_check_finder_lattice.specs.Names.{path_of}
use Rattle.fast_check_tables_symbols.specs.Symbols.{symbol_of}
use Rattle.fast_check_finder_demands.specs.symbol_demands.Demands.{demand_of}
use Rattle.fast_check_finder_demands.proofs.Adds.{adds_all, adds_as}
use Rattle.fast_check_finder_demands.proofs.Aliased.{with_alias, without_alias}
use Rattle.fast_check_finder_demands.proofs.aliases.push_path_demands.Goals as goal

pub returns-then-has_alias : goal.returns-then-has_alias
returns-then-has_alias c =
    let t = c.args.tables.now in
    on_ok_weaker c.push_aliases.result
    (λ a. adds_as _ _ c.args.out.now c.push_aliases.new.out
    (with_alias t (demand_of c.args.demand) (path_of c.args.names.now) c.args.extent c.in-Some.symbol.now (symbol_of c.args.demand.symbol t.symbols)
    (sym c.symbol.ensures ∙ ap option_copied c.in-Some.is) (sym c.has_alias.ensures ∙ c.if-has_alias.true)) a)
    c.push_aliases.ensures

pub returns-else-has_alias : goal.returns-else-has_alias
returns-else-has_alias c =
    let t = c.args.tables.now in
    on_ok_weaker c.push_first.result
    (λ e. adds_as _ _ c.args.out.now c.push_first.new.out
    (without_alias t (demand_of c.args.demand) (path_of c.args.names.now) c.args.extent c.in-Some.symbol.now (symbol_of c.args.demand.symbol t.symbols)
    (sym c.symbol.ensures ∙ ap option_copied c.in-Some.is) (sym c.has_alias.ensures ∙ c.if-has_alias.false))
    (adds_all _ c.args.out.now c.push_first.new.out e))
    c.push_first.ensures
