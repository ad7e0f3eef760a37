use Rattle.std.proofs.Common.{rules}
use Rattle.fast_check_tree_helpers.proofs.builders.any_type_ann.Goals as goal

pub returns-in_err-into_tree : goal.returns-in_err-into_tree
returns-in_err-into_tree c = search rules

pub returns : goal.returns
returns c = search rules
