use Rattle.std.proofs.Common.{rules}
use Rattle.fast_check_transform_nodes.proofs.nodes.never_in_parens.Goals as goal

pub returns : goal.returns
returns c = search rules
