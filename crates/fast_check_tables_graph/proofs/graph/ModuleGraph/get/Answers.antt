use Rattle.std.proofs.Common.{◌∙◌}
use Rattle.fast_check_tables_graph.proofs.Tied.{at_specifier}
use Rattle.fast_check_tables_graph.proofs.graph.ModuleGraph.get.Goals as goal

pub returns : goal.returns
returns c = c.get.ensures.value ∙ at_specifier c.args.specifier.now c.args.self.now.modules.entries
