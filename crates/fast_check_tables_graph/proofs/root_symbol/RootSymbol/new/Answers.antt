use Rattle.std.proofs.Common.{◌∙◌, sym}
use Rattle.fast_check_tables_graph.proofs.Placed.{misplaced, well_placed}
use Rattle.fast_check_tables_graph.proofs.root_symbol.RootSymbol.new.Goals as goal

pub returns-then-has_misplaced-clause-fault : goal.returns-then-has_misplaced-clause-fault
returns-then-has_misplaced-clause-fault c = misplaced c.args.modules (sym c.has_misplaced.ensures ∙ c.if-has_misplaced.true)

pub returns-clause-own_names : goal.returns-clause-own_names
returns-clause-own_names c = well_placed c.args.modules (sym c.has_misplaced.ensures ∙ c.if-has_misplaced.false)
