use Rattle.std.proofs.Common.{rules}
use Rattle.fast_check_transform_nodes.proofs.nodes.promised.Goals as goal

pub returns-then-not-is_promise : goal.returns-then-not-is_promise
returns-then-not-is_promise c = search rules

pub returns-else-is_async : goal.returns-else-is_async
returns-else-is_async c = search rules
