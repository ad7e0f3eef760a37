use Rattle.std.proofs.Common.{ap, sym, ◌∙◌}
use Rattle.fast_check_tree_syntax.specs.Part.{seen}
use Rattle.fast_check_tree_helpers.specs.ReturnClass.{returns}
use Rattle.fast_check_tree_helpers.proofs.Named.{is_none, none_is_empty}
use Rattle.fast_check_tree_helpers.proofs.named_bodies.returns_nowhere.Goals as goal

pub returns-in-None : goal.returns-in-None
returns-in-None c = ap is_none (sym c.in-None.is ∙ c.analyze_return_stmts-analysis.ensures) ∙ none_is_empty (returns (seen c.args.stmt))
