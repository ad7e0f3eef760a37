use Rattle.std.proofs.Common.{rules}
use Rattle.fast_check_tree_syntax.proofs.source.SourceRange.contains.Goals as goal

pub returns-then-self-other : goal.returns-then-self-other
returns-then-self-other c = search rules

pub returns-else-self-other : goal.returns-else-self-other
returns-else-self-other c = search rules
