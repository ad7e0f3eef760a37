use Rattle.std.proofs.Common.{◌∙◌, sym, ap, subst, List, map}
use Rattle.std.specs.List.{list_any}
use Rattle.fast_check_finder_demands.specs.symbol_demands.Demands.{Demand, demand_of}
use Rattle.fast_check_finder_loop.specs.Asked.{demand_at, covers, IsOneMore}
use Rattle.fast_check_finder_loop.proofs.Compared.{one_more}
use Rattle.fast_check_finder_loop.proofs.asked.AskedSymbols.add_one.Goals as goal

pub returns : goal.returns
returns c =
    subst (λ (xs : List Demand). IsOneMore (demand_of c.args.demand) xs (map demand_at c.insert.new.self.keys)) c.self.view_is
    (one_more (demand_of c.args.demand) c.key_of.result c.self.inside.keys c.insert.new.self c.key_of.ensures c.in_ok-insert.ensures.keys
    (ap (λ (xs : List Demand). list_any (covers (demand_of c.args.demand)) xs) c.self.view_is ∙ (sym c.has.ensures ∙ c.if-has.false)))
