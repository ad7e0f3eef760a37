use Rattle.std.proofs.Common.{rules}
use Rattle.fast_check_transform_nodes.proofs.nodes.promise_of.Goals as goal

pub returns : goal.returns
returns c = search rules
