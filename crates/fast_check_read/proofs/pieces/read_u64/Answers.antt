use Rattle.std.proofs.Common.{rules}
use Rattle.fast_check_read.proofs.pieces.read_u64.Goals as goal

pub returns : goal.returns
returns c = search rules
