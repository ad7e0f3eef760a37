use Rattle.std.proofs.Common.{rules}
use Rattle.fast_check_read.proofs.pieces.read_bool.Goals as goal

pub returns : goal.returns
returns c = search rules
