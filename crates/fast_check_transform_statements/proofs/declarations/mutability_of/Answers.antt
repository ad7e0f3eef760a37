use Rattle.std.proofs.Common.{rules}
use Rattle.fast_check_transform_statements.proofs.declarations.mutability_of.Goals as goal

pub returns-then-has_word : goal.returns-then-has_word
returns-then-has_word c = search rules

pub returns-else-has_word : goal.returns-else-has_word
returns-else-has_word c = search rules
