use Rattle.std.proofs.Common.{rules}
use Rattle.fast_check_transform_nodes.proofs.nodes.function_body.Goals as goal

pub returns-then-not-returns_value : goal.returns-then-not-returns_value
returns-then-not-returns_value c = search rules

pub returns : goal.returns
returns c = search rules
