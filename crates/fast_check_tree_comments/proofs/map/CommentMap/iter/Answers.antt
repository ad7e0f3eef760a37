use Rattle.std.proofs.Common.{rules}
use Rattle.fast_check_tree_comments.proofs.map.CommentMap.iter.Goals as goal

pub returns-clause-rest : goal.returns-clause-rest
returns-clause-rest c = search rules

pub returns-clause-runs : goal.returns-clause-runs
returns-clause-runs c = search rules
