use Rattle.std.proofs.Common.{rules}
use Rattle.fast_check_transform_statements.proofs.declarations.is_ambient_statement.Goals as goal

pub returns-then-facts : goal.returns-then-facts
returns-then-facts c = search rules

pub returns-else-facts : goal.returns-else-facts
returns-else-facts c = search rules
