use Rattle.fast_check_tables_graph.proofs.Placed.{found_by_own_names}
use Rattle.fast_check_tables_graph.proofs.root_symbol.RootSymbol.own_names_find.Goals as goal

pub returns : goal.returns
returns c = found_by_own_names c.args.self.now c.len.ensures.ordered c.args.self.now.own_names
