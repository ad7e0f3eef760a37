use Rattle.std.proofs.Common.{refl}
use Rattle.fast_check_read.proofs.Each.{read_or}
use Rattle.fast_check_read.proofs.pieces.read_optional_flag.Goals as goal

pub returns : goal.returns
returns c = read_or _ _ _ _ _ refl c.map_or.ensures
