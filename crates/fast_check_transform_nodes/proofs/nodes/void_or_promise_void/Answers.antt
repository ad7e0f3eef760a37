use Rattle.std.proofs.Common.{rules}
use Rattle.fast_check_transform_nodes.proofs.nodes.void_or_promise_void.Goals as goal

pub returns-then-is_async : goal.returns-then-is_async
returns-then-is_async c = search rules

pub returns-else-is_async : goal.returns-else-is_async
returns-else-is_async c = search rules
