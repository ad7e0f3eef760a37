use Rattle.std.proofs.Common.{◌∙◌, sym, ap, List}
use Rattle.std.specs.List.{list_any}
use Rattle.fast_check_finder_demands.specs.symbol_demands.Demands.{Demand, demand_of}
use Rattle.fast_check_finder_demands.specs.Account.{essence}
use Rattle.fast_check_finder_loop.specs.Asked.{covers}
use Rattle.fast_check_finder_loop.proofs.Compared.{found_first, found_second}
use Rattle.fast_check_finder_loop.proofs.asked.AskedSymbols.has.Goals as goal

pub returns-then-contains : goal.returns-then-contains
returns-then-contains c = c.contains.ensures ∙
    found_first (demand_of c.args.demand) c.key_of.result c.self.inside.keys c.key_of.ensures (sym c.if-contains.true ∙ c.contains.ensures) ∙
    ap (λ (xs : List Demand). list_any (covers (demand_of c.args.demand)) xs) c.self.view_is

pub returns-else-contains : goal.returns-else-contains
returns-else-contains c = c.contains-else-contains.ensures ∙
    found_second (demand_of c.args.demand) c.key_of.result c.key_of-else-contains.result c.self.inside.keys c.key_of.ensures
    (c.key_of-else-contains.ensures ∙ ap (λ (d : Demand). essence d) c.by_reference.ensures) c.if-contains.ensures ∙
    ap (λ (xs : List Demand). list_any (covers (demand_of c.args.demand)) xs) c.self.view_is
