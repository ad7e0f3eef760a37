use Rattle.std.proofs.Common.{rules}
use Rattle.fast_check_transform_nodes.proofs.nodes.arrow_body.Goals as goal

pub returns-then-returns_value : goal.returns-then-returns_value
returns-then-returns_value c = search rules

pub returns-else-returns_value : goal.returns-else-returns_value
returns-else-returns_value c = search rules
